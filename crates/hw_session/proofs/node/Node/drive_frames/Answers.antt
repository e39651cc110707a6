use Rattle.std.proofs.Common.{refl, arith, ◌∙◌}
use Rattle.hw_io.proofs.Asks.{asks_none}
use Rattle.hw_link.specs.Asked.{IsAskedBehind}
use Rattle.hw_session.specs.Driving.{driven_said}
use Rattle.hw_session.proofs.DrivingLaws.{driving_begins, next_leads, next_asks, next_counts, next_due, next_drives, limit_drives}
use Rattle.hw_session.proofs.node.Node.drive_frames.Goals as goal

pub loop-place-init : goal.loop-place-init
loop-place-init g c = record {
  driving = λ first is. driving_begins c.args.self.now c.args.mark.now g.F.Files.tells (g.F.Files.held c.args.files.now) first _ is;
  asks = λ first is. asks_none (IsAskedBehind (driven_said c.args.self.now c.args.mark.now) first) (g.D.Door.asks c.args.door.now);
  within = omega arith;
  session = c.requires.open;
  ends = refl;
  faults = refl;
  accepts = refl;
  dials = refl;
  appends = refl;
  reading = refl;
  due = tt;
}

pub drive_next-requires-clause-due : goal.drive_next-requires-clause-due
drive_next-requires-clause-due g c = c.loop-place.invariant.due

pub loop-place-preserved : goal.loop-place-preserved
loop-place-preserved g c =
    let l = c.loop-place in
    let e = c.in-Ok.ensures in
    record {
      driving = λ first is. next_leads _ _ _ _ _ _ _ _ _ (l.invariant.driving first is) _ _ _ _ _ _ c.in-Ok.onward e.driven;
      asks = λ first is. next_asks _ _ _ _ _ _ _ _ _ (l.invariant.driving first is) (g.D.Door.asks c.args.door.now) (g.D.Door.asks l.door) (g.D.Door.asks c.drive_next.new.door) (l.invariant.asks first is) e.asks;
      within = e.next.1;
      session = e.open;
      ends = next_counts _ l.place _ _ _ _ _ _ _ _ _ c.in-Ok.onward e.driven ∙ l.invariant.ends;
      faults = e.link ∙ l.invariant.faults;
      accepts = e.accepts ∙ l.invariant.accepts;
      dials = e.dials ∙ l.invariant.dials;
      appends = e.appends ∙ l.invariant.appends;
      reading = e.reading ∙ l.invariant.reading;
      due = next_due _ l.place _ _ _ _ _ _ _ _ _ c.in-Ok.onward e.driven;
    }

pub returns-in-Err-clause-driven : goal.returns-in-Err-clause-driven
returns-in-Err-clause-driven g c =
    let l = c.loop-place in
    λ first is. next_drives _ _ _ _ _ _ _ _ _ (l.invariant.driving first is) _ _ _ _ _ _ _ c.in-Err.end l.invariant.ends c.in-Err.ensures.driven

pub returns-in-Err-clause-asks : goal.returns-in-Err-clause-asks
returns-in-Err-clause-asks g c =
    let l = c.loop-place in
    λ first is. next_asks _ _ _ _ _ _ _ _ _ (l.invariant.driving first is) (g.D.Door.asks c.args.door.now) (g.D.Door.asks l.door) (g.D.Door.asks c.drive_next.new.door) (l.invariant.asks first is) c.in-Err.ensures.asks

pub returns-clause-driven : goal.returns-clause-driven
returns-clause-driven g c =
    let l = c.loop-place in
    λ first is. limit_drives _ _ _ _ _ _ _ _ _ (l.invariant.driving first is) (omega (arith, c.loop-place-test.false)) _ _ l.invariant.ends
