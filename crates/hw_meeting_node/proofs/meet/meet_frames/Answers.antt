use Rattle.std.proofs.Common.{ℕ, length, Ok, Err, refl, ap, subst, arith, ◌∙◌}
use Rattle.hw_meeting_node.proofs.MeetingLaws.{meeting_begins, next_asks, next_same, next_leads, next_meets, next_counts, limit_meets, link_ended, taker_ended}
use Rattle.hw_io.proofs.Asks.{asks_none}
use Rattle.hw_types.specs.declared.config.Config.{Config}
use Rattle.hw_link.specs.Asked.{IsAskedBehind}
use Rattle.hw_link.specs.Links.{IsLinkCounted}
use Rattle.hw_link.specs.Told.{door_told}
use Rattle.hw_meeting_node.specs.Meeting.{met_said}
use Rattle.hw_meeting_node.proofs.NextLaws.{asks_among}
use Rattle.hw_meeting_node.specs.declared.end.MeetEnd.TheVariants.{ByteLimit}
use Rattle.hw_meeting_node.specs.Taking.{TakesThere, with_taker}
use Rattle.hw_meeting_node.specs.Handling.{IsTakerCounted}
use Rattle.hw_meeting_node.proofs.meet.meet_frames.Goals as goal

pub loop-place-init : goal.loop-place-init
loop-place-init g c = record {
  meeting = λ first told. meeting_begins _ c.args.side _ _ _ _ first _ c.requires.begins told;
  asks = λ first told. asks_none (IsAskedBehind (met_said c.args.side (g.T.Taker.received c.args.taker.now) (g.T.Taker.verdict c.args.taker.now)) first) (g.D.Door.asks c.args.door.now);
  kept = c.requires.kept;
  within = omega arith;
  session = c.requires.open;
  ends = refl;
  faults = refl;
  accepts = refl;
  dials = refl;
  stored = refl;
  config = refl;
  verdict = refl;
  holds = refl;
}

pub loop-place-preserved : goal.loop-place-preserved
loop-place-preserved g c =
    let l = c.loop-place in
    let e = c.in-Ok.ensures in
    let i = l.invariant in
    record {
      meeting = λ first told. next_leads _ _ _ _ _ _ _ _ _ _ (i.meeting first told) _ _ _ _ _ c.in-Ok.next (next_same _ _ _ _ _ _ _ _ _ _ (i.meeting first told) _ _ i.config i.verdict _ _ _ _ _ (Ok c.in-Ok.next) e.met);
      asks = λ first told.
          next_asks _ _ _ _ _ _ _ _ _ _ (i.meeting first told) (g.D.Door.asks c.args.door.now) (g.D.Door.asks l.door) (g.D.Door.asks c.meet_next.new.door) (i.asks first told)
          (asks_among _ _ l.place (g.D.Door.sessions l.door) (g.D.Door.asks l.door) (g.D.Door.asks c.meet_next.new.door) (g.D.Door.asks c.meet_next.new.door) (ap (λ (x : Config). length x.weights) i.config) e.asks refl);
      kept = e.kept;
      within = e.next.1;
      session = e.open;
      ends = next_counts _ _ l.place _ _ _ _ _ _ _ _ _ c.in-Ok.next e.met ∙ i.ends;
      faults = e.link ∙ i.faults;
      accepts = e.accepts ∙ i.accepts;
      dials = e.dials ∙ i.dials;
      stored = e.appends ∙ i.stored;
      config = e.config ∙ i.config;
      verdict = e.verdict ∙ i.verdict;
      holds = e.holds ∙ i.holds;
    }

pub returns-in-Err-clause-met : goal.returns-in-Err-clause-met
returns-in-Err-clause-met g c =
    let l = c.loop-place in
    let i = l.invariant in
    λ first told. rw c.meet_end.ensures (next_meets _ _ _ _ _ _ _ _ _ _ (i.meeting first told) _ _ _ _ _ _ c.in-Err.end i.ends (next_same _ _ _ _ _ _ _ _ _ _ (i.meeting first told) _ _ i.config i.verdict _ _ _ _ _ (Err c.in-Err.end) c.in-Err.ensures.met))

pub returns-in-Err-clause-asks : goal.returns-in-Err-clause-asks
returns-in-Err-clause-asks g c =
    let l = c.loop-place in
    let i = l.invariant in
    λ first told.
    next_asks _ _ _ _ _ _ _ _ _ _ (i.meeting first told) (g.D.Door.asks c.args.door.now) (g.D.Door.asks l.door) (g.D.Door.asks c.meet_next.new.door) (i.asks first told)
    (asks_among _ _ l.place (g.D.Door.sessions l.door) (g.D.Door.asks l.door) (g.D.Door.asks c.meet_next.new.door) (g.D.Door.asks c.meet_next.new.door) (ap (λ (x : Config). length x.weights) i.config) c.in-Err.ensures.asks refl)

pub returns-in-Err-clause-link : goal.returns-in-Err-clause-link
returns-in-Err-clause-link g c = rw c.meet_end.ensures (link_ended ℕ _ _ c.in-Err.end _ (subst (λ (x : ℕ). IsLinkCounted {T = ℕ} x (g.D.Door.faults c.meet_next.new.door) (Err c.in-Err.end)) c.loop-place.invariant.faults c.in-Err.ensures.link))

pub returns-in-Err-clause-appends : goal.returns-in-Err-clause-appends
returns-in-Err-clause-appends g c = rw c.meet_end.ensures (taker_ended ℕ _ _ c.in-Err.end _ (subst (λ (x : ℕ). IsTakerCounted {T = ℕ} x (g.T.Taker.faults c.meet_next.new.taker) (Err c.in-Err.end)) c.loop-place.invariant.stored c.in-Err.ensures.appends))

pub returns-clause-met : goal.returns-clause-met
returns-clause-met g c =
    let l = c.loop-place in
    let i = l.invariant in
    λ first told.
    subst (λ (x : ℕ). TakesThere g.T.Taker.steps c.args.side (g.T.Taker.verdict c.args.taker.now) (with_taker (g.T.Taker.received c.args.taker.now) c.args.taker.now) (with_taker (g.T.Taker.received l.taker) l.taker) (door_told first x) (door_told (g.D.Door.sessions l.door) (g.D.Door.ends l.door)) ByteLimit) i.ends
    (limit_meets _ _ _ _ _ _ _ _ _ _ (i.meeting first told) (omega (arith, c.loop-place-test.false)) (g.D.Door.ends l.door))
