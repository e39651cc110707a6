use Rattle.std.proofs.Common.{ℕ, refl, subst, arith, ◌∙◌}
use Rattle.hw_link.specs.declared.end.SessionEnd.TheVariants as end
use Rattle.hw_io.proofs.Asks.{asks_none}
use Rattle.hw_link.specs.Asked.{IsAskedBehind}
use Rattle.hw_link.specs.Told.{door_told}
use Rattle.hw_session.specs.Serving.{served_said}
use Rattle.hw_session.specs.Sessions.{ServesThere}
use Rattle.hw_session.specs.Standing.{standing}
use Rattle.hw_session.proofs.ServingLaws.{serving_begins, next_leads, next_asks, next_counts, next_serves, limit_serves}
use Rattle.hw_session.proofs.node.Node.serve.Goals as goal

pub loop-place-init : goal.loop-place-init
loop-place-init g c = record {
  serving = serving_begins c.args.self.now g.F.Files.tells (g.F.Files.held c.args.files.now) (g.D.Door.sessions c.args.door.now);
  asks = asks_none (IsAskedBehind (served_said c.args.self.now) (g.D.Door.sessions c.args.door.now)) (g.D.Door.asks c.args.door.now);
  within = omega arith;
  session = c.requires.open;
  ends = refl;
  faults = refl;
  accepts = refl;
  dials = refl;
  appends = refl;
  reading = refl;
}

pub loop-place-preserved : goal.loop-place-preserved
loop-place-preserved g c =
    let l = c.loop-place in
    let e = c.in-Ok.ensures in
    record {
      serving = next_leads _ _ _ _ _ _ _ _ l.invariant.serving _ _ _ _ _ c.in-Ok.next e.served;
      asks = next_asks _ _ _ _ _ _ _ _ l.invariant.serving (g.D.Door.asks c.args.door.now) (g.D.Door.asks l.door) (g.D.Door.asks c.serve_next.new.door) l.invariant.asks e.asks;
      within = e.next.1;
      session = e.open;
      ends = next_counts _ _ _ _ _ _ _ _ l.invariant.serving _ _ _ _ _ c.in-Ok.next e.served ∙ l.invariant.ends;
      faults = e.link ∙ l.invariant.faults;
      accepts = e.accepts ∙ l.invariant.accepts;
      dials = e.dials ∙ l.invariant.dials;
      appends = e.appends ∙ l.invariant.appends;
      reading = e.reading ∙ l.invariant.reading;
    }

pub returns-in-Err-clause-served : goal.returns-in-Err-clause-served
returns-in-Err-clause-served g c =
    let l = c.loop-place in
    next_serves _ _ _ _ _ _ _ _ l.invariant.serving _ _ _ _ _ _ c.in-Err.end l.invariant.ends c.in-Err.ensures.served

pub returns-in-Err-clause-asks : goal.returns-in-Err-clause-asks
returns-in-Err-clause-asks g c =
    let l = c.loop-place in
    next_asks _ _ _ _ _ _ _ _ l.invariant.serving (g.D.Door.asks c.args.door.now) (g.D.Door.asks l.door) (g.D.Door.asks c.serve_next.new.door) l.invariant.asks c.in-Err.ensures.asks

pub returns-clause-served : goal.returns-clause-served
returns-clause-served g c =
    let l = c.loop-place in
    let d = g.D.Door in
    let f = g.F.Files in
    subst (λ (x : ℕ). ServesThere f.tells (standing c.args.self.now (f.held c.args.files.now)) (standing l.self (f.held l.files)) (door_told (d.sessions c.args.door.now) x) (door_told (d.sessions l.door) (d.ends l.door)) end.ByteLimit) l.invariant.ends
    (limit_serves _ _ _ _ _ _ _ _ l.invariant.serving c.loop-place-test.false (d.ends l.door))
