use Rattle.std.proofs.Common.{[], get_or, Ok, Err, refl, ap, ◌∙◌}
use Rattle.std.proofs.lemmas.Option.{slice_get-get_or}
use Rattle.std.proofs.lemmas.Result.{err_from_is_err_and}
use Rattle.hw_types.specs.declared.unit.Digest.{Digest}
use Rattle.hw_types.specs.declared.unit.Need.{Need}
use Rattle.hw_types.specs.declared.unit.Need.TheVariants as need
use Rattle.hw_session.specs.Outside.{DoorCalls}
use Rattle.hw_session.proofs.SendLaws.{sends_nothing, sends_next, sends_broken, sent_for_all, needs_join, sends_need}
use Rattle.hw_session.proofs.answer.send_each.Goals as goal

pub loop-need-init : goal.loop-need-init
loop-need-init g c = record {
  sent = sends_nothing (g.D.Door.sessions c.args.door.now);
  pairs = c.requires.pairs;
  faults = refl;
  door = refl;
  session = c.requires.open;
}

-- what is read past the end
abbrev no_need : Need
no_need = let zero : Digest = record { 0 = [] } in need.Unit zero

pub returns-in_err-send_for-clause-sent : goal.returns-in_err-send_for-clause-sent
returns-in_err-send_for-clause-sent g c =
    let l = c.loop-need in
    let x : Need = get_or c.args.needs.now l.need-index no_need in
    let core = c.args.core.now in
    let p = err_from_is_err_and c.from_residual.result c.from_residual.ensures.1 in
    rw (p.1, p.2)
    (sends_broken (sent_for_all core) (needs_join core) c.args.needs.now (g.D.Door.sessions c.args.door.now) (g.D.Door.sessions l.door) (g.D.Door.sessions c.send_for.new.door) l.need-index l.invariant.sent x c.in_err-send_for.field-0.0
    (slice_get-get_or c.args.needs.now l.need-index no_need c.loop-need-test.true)
    (sends_need core x (g.D.Door.sessions l.door) (g.D.Door.sessions c.send_for.new.door) (Err c.in_err-send_for.field-0.0) c.in_err-send_for.ensures.sent))

pub loop-need-preserved : goal.loop-need-preserved
loop-need-preserved g c =
    let l = c.loop-need in
    let x : Need = get_or c.args.needs.now l.need-index no_need in
    let core = c.args.core.now in
    let e = c.in_ok-send_for.ensures in
    record {
      sent =
          sends_next (sent_for_all core) (needs_join core) c.args.needs.now (g.D.Door.sessions c.args.door.now) (g.D.Door.sessions l.door) (g.D.Door.sessions c.send_for.new.door) l.need-index l.invariant.sent x
          (slice_get-get_or c.args.needs.now l.need-index no_need c.loop-need-test.true)
          (sends_need core x (g.D.Door.sessions l.door) (g.D.Door.sessions c.send_for.new.door) (Ok tt) e.sent);
      pairs = e.pairs;
      faults = e.cause ∙ l.invariant.faults;
      door = e.door ∙ l.invariant.door;
      session = ap (λ (d : DoorCalls). d.is_open) e.door ∙ l.invariant.session;
    }
