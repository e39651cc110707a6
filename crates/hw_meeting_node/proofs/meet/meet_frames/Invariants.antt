use Rattle.std.proofs.Common.{◌≡◌, ◌≤◌, ◌-◌, true, false, List, [], Option}
use Rattle.hw_io.specs.Doors.{Session, AsksMore}
use Rattle.hw_link.specs.Asked.{IsAskedBehind}
use Rattle.hw_link.specs.Links.{after_part}
use Rattle.hw_meeting_node.specs.Frames.{sent_bytes}
use Rattle.hw_meeting_node.specs.Meeting.{first_word, met_said}
use Rattle.hw_meeting_node.specs.Handling.{meeting_of, IsKept}
use Rattle.hw_meeting_node.proofs.MeetingLaws.{IsMeeting}
use Rattle.hw_meeting_node.proofs.meet.meet_frames.Given as goal

abbrev pub invariant-loop-place : goal.invariant-loop-place
invariant-loop-place g l =
    let d = g.D.Door in
    let t = g.T.Taker in
    record {
      meeting : (first : Option (List Session)) → d.sessions l.initial.door ≡ after_part [] (sent_bytes (first_word l.side (t.received l.initial.taker))) false first
          → IsMeeting t.steps l.side (t.received l.initial.taker) (t.verdict l.initial.taker) l.initial.taker (meeting_of l.meeter (t.received l.taker)) l.place l.taker first (d.sessions l.door);
      asks : (first : Option (List Session)) → d.sessions l.initial.door ≡ after_part [] (sent_bytes (first_word l.side (t.received l.initial.taker))) false first
          → AsksMore (IsAskedBehind (met_said l.side (t.received l.initial.taker) (t.verdict l.initial.taker)) first) (d.asks l.initial.door) (d.asks l.door);
      kept : IsKept l.meeter (t.received l.taker);
      within : l.place ≤ 268435456;
      session : d.is_open l.door ≡ true;
      ends : d.ends l.door ≡ d.ends l.initial.door;
      faults : d.faults l.door ≡ d.faults l.initial.door;
      accepts : d.accepts l.door ≡ d.accepts l.initial.door;
      dials : d.dials l.door ≡ d.dials l.initial.door;
      stored : t.faults l.taker ≡ t.faults l.initial.taker;
      config : (t.received l.taker).config ≡ (t.received l.initial.taker).config;
      verdict : t.verdict l.taker ≡ t.verdict l.initial.taker;
      holds : t.holds l.taker ≡ t.holds l.initial.taker;
    }

abbrev pub decreases-loop-place : goal.decreases-loop-place
decreases-loop-place g l = 268435456 - l.place
