use Rattle.std.proofs.Common.{◌<◌, ◌-◌, length, map, refl, ap, sym, arith, ◌∙◌}
use Rattle.std.proofs.lemmas.Result.{err_from_is_err_and}
use Rattle.hw_types.specs.declared.answers.Frame.TheVariants as frame
use Rattle.hw_session.specs.Outside.{DoorCalls}
use Rattle.hw_session.specs.Serving.{part_from}
use Rattle.hw_session.proofs.SendLaws.{sends_start, part_next, part_broken, part_within}
use Rattle.hw_session.proofs.answer.send_part.Goals as goal

pub loop-at-init : goal.loop-at-init
loop-at-init g c = record {
  start = omega arith;
  sent = sends_start (map frame.Vertex) refl (part_from c.args.core.now.journal c.args.place) (c.args.place - c.args.place) (omega arith) (g.D.Door.sessions c.args.door.now);
  faults = refl;
  door = refl;
  session = c.requires.open;
}

pub journal_at-requires : goal.journal_at-requires
journal_at-requires g c =
    let start = c.loop-at.invariant.start in
    let below = c.loop-at-test.true in
    let part = c.requires.part in
    let less : c.loop-at.at - c.args.place < length (part_from c.args.core.now.journal c.args.place) = omega (arith, start, below, part) in
    let there = part_within c.args.core.now.journal c.args.place (c.loop-at.at - c.args.place) less in
    omega (arith, there, start)

pub returns-in_err-send_vertex-clause-sent : goal.returns-in_err-send_vertex-clause-sent
returns-in_err-send_vertex-clause-sent g c =
    let below = c.loop-at-test.true in
    let part = c.requires.part in
    let p = err_from_is_err_and c.from_residual.result c.from_residual.ensures.1 in
    rw (p.1, p.2)
    (part_broken c.args.core.now.journal c.args.place c.loop-at.at (g.D.Door.sessions c.args.door.now) (g.D.Door.sessions c.loop-at.door) c.loop-at.invariant.sent c.journal_at.result.now (g.D.Door.sessions c.send_vertex.new.door)
    c.loop-at.invariant.start (omega (arith, below, part)) (sym c.journal_at.ensures.vertex) c.in_err-send_vertex.field-0.0 c.in_err-send_vertex.ensures.sent)

pub loop-at-preserved : goal.loop-at-preserved
loop-at-preserved g c =
    let l = c.loop-at in
    let e = c.in_ok-send_vertex.ensures in
    let below = c.loop-at-test.true in
    let part = c.requires.part in
    let start = l.invariant.start in
    record {
      start = omega (arith, start);
      sent =
          part_next c.args.core.now.journal c.args.place l.at (g.D.Door.sessions c.args.door.now) (g.D.Door.sessions l.door) l.invariant.sent c.journal_at.result.now (g.D.Door.sessions c.send_vertex.new.door)
          start (omega (arith, below, part)) (sym c.journal_at.ensures.vertex) e.sent;
      faults = e.cause ∙ l.invariant.faults;
      door = e.door ∙ l.invariant.door;
      session = ap (λ (d : DoorCalls). d.is_open) e.door ∙ l.invariant.session;
    }
