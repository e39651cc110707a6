-- Sessions and meetings with a peer that sends nothing.
use Rattle.std.proofs.Common.{◌≡◌, ℕ, ◌≤◌, Bool, true, false, List, [], ◌∷◌, length, Option, Some, inl, refl, sym, ap, subst, arith}
use Rattle.std.proofs.lemmas.List.{take_all}
use Rattle.hw_types.specs.declared.unit.Vertex.{Vertex}
use Rattle.hw_types.specs.Reading.{frame_of}
use Rattle.hw_types.specs.Real.{CoreState, setting_of}
use Rattle.hw_io.specs.Faults.{raised}
use Rattle.hw_keys.specs.Signed.{verdict_of}
use Rattle.hw_honest.specs.Restart.{AreFair}
use Rattle.hw_link.specs.declared.end.SessionEnd.TheVariants as end
use Rattle.hw_link.specs.Frames.{Frames, rest_at, frame_here, frames_by, frames_in, frames_from, frames_of, byte_limit}
use Rattle.hw_link.specs.Talk.{Talk, said_bytes, before_last}
use Rattle.hw_link.specs.UnderWay.{EndsIn}
use Rattle.hw_link.proofs.FrameLaws.{frame_by-none}
use Rattle.hw_link.proofs.HeardLaws.{reads_frame_by_frame}
use Rattle.hw_session.specs.declared.stage.PeerMark.{PeerMark}
use Rattle.hw_session.specs.Node.{NodeState}
use Rattle.hw_session.specs.Grows.{Logs}
use Rattle.hw_session.specs.Restart.{logged_of}
use Rattle.hw_session.specs.Serving.{serve_step, served}
use Rattle.hw_session.specs.Sessions.{Serves}
use Rattle.hw_session.specs.Driving.{Driver, hello, greeting, drive_step, driven}
use Rattle.hw_session.specs.Drives.{Drives}
use Rattle.hw_session.specs.Standing.{Standing, standing, driver_standing}
use Rattle.hw_session.proofs.FurtherLaws.{none_further}
use Rattle.hw_session.proofs.GrowsLaws.{logs_nothing}
use Rattle.hw_session.proofs.ServingLaws.{before_less}
use Rattle.hw_meeting_node.specs.Frames.{sent_bytes}
use Rattle.hw_meeting_node.specs.declared.end.MeetEnd.TheVariants as met_end
use Rattle.hw_meeting_node.specs.declared.meeter.Side.{Side}
use Rattle.hw_meeting_node.specs.Talk.{Talk as MetTalk}
use Rattle.hw_meeting_node.specs.Meeting.{Meeting, begun, first_word, meet_step, met}
use Rattle.hw_meeting_node.specs.Sessions.{Meets, end_of}
use Rattle.hw_meeting_node.specs.Taking.{TakingMeeting, taking_step, taking_nothing, taken_in}
use Rattle.hw_meeting_node.proofs.FurtherLaws.{none_further as none_met_further}
use Rattle.hw_meeting_node.proofs.TalkLaws.{begins, heard_here}
use Rattle.hw_service.specs.Scene.{DoorSeen, door_seen}
use Rattle.hw_service.specs.Meets.{after_all, NodeMeets}
use Rattle.hw_run_laws.specs.Calls.{at_door, IsFairServed, IsFairDriven, IsFairMet}
use Rattle.hw_run_laws.specs.Restart.{arrivals, vertices_among, vertices_sent}
use Rattle.hw_run_laws.proofs.TakingLaws.{fair_served, fair_driven}

-- ---- nothing is sent

no_frame : EndsIn 0 [] end.EndOfInput
unfolding frame_here
no_frame = frame_by-none frame_of (rest_at 0 []) refl

no_frames : frames_of [] ≡ record { given = []; end = end.EndOfInput }
unfolding frames_in frames_by
no_frames = ap (λ (bytes : List ℕ). frames_from (rest_at 0 bytes)) (take_all byte_limit [] (omega arith))

none_sent : (me : ℕ) (n : NodeState) → AreFair (setting_of n.core.config) me (logged_of n) (arrivals n (vertices_sent []))
none_sent me n = subst (λ (frames : Frames). AreFair (setting_of n.core.config) me (logged_of n) (arrivals n (vertices_among frames.given))) (sym no_frames) tt

pub fair_to_server : (me : ℕ) (n : NodeState) → IsFairServed me n []
fair_to_server me n = fair_served me n [] (none_sent me n)

pub fair_to_driver : (me : ℕ) (n : NodeState) (mark : PeerMark) → IsFairDriven me n mark []
fair_to_driver me n mark = fair_driven me n mark [] (none_sent me n)

pub stays : (n : NodeState) (held : List ℕ → Option (List ℕ)) → Logs n n true held held
stays n held = logs_nothing true n held held (λ told name. refl)

-- ---- a node that serves

serves_quietly : (n : NodeState) → served n [] ≡ record { state = n; said = [] ∷ []; end = end.EndOfInput }
serves_quietly n = (reads_frame_by_frame NodeState).no_frame_ends serve_step [] n [] ([] ∷ []) n [] end.EndOfInput ((reads_frame_by_frame NodeState).begins serve_step [] n) no_frame (omega arith)

pub quiet_serves : (n : NodeState) (held : List ℕ → Option (List ℕ)) (ends : ℕ) → Serves true (standing n held) [] [] (standing n held) ends (raised ends) end.EndOfInput
quiet_serves n held ends =
    let whole = serves_quietly n in
    record {
      within = omega arith;
      ended = inl (ap (λ (t : Talk NodeState). t.end) (sym whole));
      end_counted = refl;
      no_further = none_further (λ (bytes : List ℕ). (served n bytes).end);
      wrote = ap (λ (t : Talk NodeState). said_bytes t.said) (sym whole);
      answered = subst (λ (t : Talk NodeState). length (said_bytes (before_last t.said)) ≤ length {A = ℕ} []) (sym whole) (omega arith);
      left = (ap (λ (t : Talk NodeState). t.state) (sym whole), stays n held);
    }

-- ---- a node that drives

drives_quietly : (n : NodeState) (mark : PeerMark) → driven n mark [] ≡ record { state = greeting n mark; said = hello n ∷ []; end = end.EndOfInput }
drives_quietly n mark =
    (reads_frame_by_frame Driver).no_frame_ends drive_step (hello n) (greeting n mark) [] (hello n ∷ []) (greeting n mark) [] end.EndOfInput
    ((reads_frame_by_frame Driver).begins drive_step (hello n) (greeting n mark)) no_frame (omega arith)

pub quiet_drives : (n : NodeState) (mark : PeerMark) (held : List ℕ → Option (List ℕ)) (ends : ℕ) → Drives true (driver_standing n mark held) [] (said_bytes (hello n ∷ [])) (driver_standing n mark held) ends (raised ends) end.EndOfInput
quiet_drives n mark held ends =
    let whole = drives_quietly n mark in
    record {
      within = omega arith;
      ended = inl (ap (λ (t : Talk Driver). t.end) (sym whole));
      end_counted = refl;
      no_further = none_further (λ (bytes : List ℕ). (driven n mark bytes).end);
      wrote = ap (λ (t : Talk Driver). said_bytes t.said) (sym whole);
      answered = subst (λ (t : Talk Driver). length (said_bytes (before_last t.said)) ≤ length (said_bytes (hello n ∷ []))) (sym whole) (before_less (hello n ∷ []));
      left = (ap (λ (t : Talk Driver). t.state.node) (sym whole), stays n held);
      marks = ap (λ (t : Talk Driver). t.state.mark) (sym whole);
    }

-- ---- a node that meets another

module _ (side : Side) (c : CoreState) (judge : Vertex → Bool) where
  meets_quietly : met side c judge [] ≡ record { state = begun c; said = first_word side c; end = end.EndOfInput }
  meets_quietly = heard_here (length c.config.weights) (meet_step side judge) (first_word side c) (begun c) [] (first_word side c) (begun c) (begins (length c.config.weights) (meet_step side judge) (first_word side c) (begun c)) (omega arith)

  pub none_taken : taken_in side c judge [] ≡ []
  unfolding taken_in
  none_taken = ap (λ (t : MetTalk TakingMeeting). t.state.taken)
      (heard_here (length c.config.weights) (taking_step side judge) (first_word side c) (taking_nothing c) [] (first_word side c) (taking_nothing c)
      (begins (length c.config.weights) (taking_step side judge) (first_word side c) (taking_nothing c)) (omega arith))

  pub quiet_talk : (ends : ℕ) → Meets side c judge [] (sent_bytes (first_word side c)) c ends (raised ends) met_end.EndOfInput
  quiet_talk ends = record {
    within = omega arith;
    ended = inl (ap end_of (sym meets_quietly));
    end_counted = refl;
    no_further = none_met_further (λ (bytes : List ℕ). (met side c judge bytes).end);
    wrote = ap (λ (t : MetTalk Meeting). sent_bytes t.said) (sym meets_quietly);
    answered = λ linked. absurd cc;
    left = ap (λ (t : MetTalk Meeting). t.state.core) (sym meets_quietly);
  }

-- a door that tells no session
abbrev pub before_meeting : DoorSeen
before_meeting = door_seen (Some []) 0 0 0

-- and behind one with a peer that sent nothing
abbrev pub behind_meeting : Side → Option (List ℕ) → CoreState → DoorSeen
behind_meeting side address c = door_seen (Some (record { address = address; read = []; written = sent_bytes (first_word side c); failed = false } ∷ [])) 0 0 (raised 0)

abbrev pub quiet_meets : (side : Side) (address : Option (List ℕ)) (a : Standing) → NodeMeets side address true (at_door a before_meeting) (at_door a (behind_meeting side address a.node.core)) met_end.EndOfInput
quiet_meets side address a = record {
  meets = record { read = []; written = sent_bytes (first_word side a.node.core); meets = quiet_talk side a.node.core (verdict_of a.node.keys) 0; told = refl };
  left = (ap (after_all a.node) (sym (none_taken side a.node.core (verdict_of a.node.keys))), stays a.node a.held);
}

pub fair_met : (me : ℕ) (side : Side) (n : NodeState) → IsFairMet me side n []
fair_met me side n = subst (λ (vs : List Vertex). AreFair (setting_of n.core.config) me (logged_of n) (arrivals n vs)) (sym (none_taken side n.core (verdict_of n.keys))) tt
