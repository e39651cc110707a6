use Rattle.std.proofs.Common.{length, map, Ok, Err, refl, ap, ◌∙◌}
use Rattle.std.proofs.lemmas.List.{map-append}
use Rattle.std.proofs.lemmas.Option.{slice_get_read}
use Rattle.std.proofs.lemmas.Result.{err_from_is_err_and}
use Rattle.hw_types.specs.declared.answers.Frame.TheVariants as frame
use Rattle.hw_session.specs.Outside.{DoorCalls}
use Rattle.hw_session.proofs.SendLaws.{sends_nothing, sends_one, sends_next, sends_broken}
use Rattle.hw_session.proofs.answer.send_vertices.Goals as goal

pub loop-vertex-init : goal.loop-vertex-init
loop-vertex-init g c = record {
  sent = sends_nothing (g.D.Door.sessions c.args.door.now);
  faults = refl;
  door = refl;
  session = c.requires.open;
}

pub returns-in_err-send_vertex-clause-sent : goal.returns-in_err-send_vertex-clause-sent
returns-in_err-send_vertex-clause-sent g c =
    let l = c.loop-vertex in
    let v = c.vertex-item.result in
    let p = err_from_is_err_and c.from_residual.result c.from_residual.ensures.1 in
    rw (p.1, p.2)
    (sends_broken (map frame.Vertex) (map-append frame.Vertex) c.args.vertices.now (g.D.Door.sessions c.args.door.now) (g.D.Door.sessions l.door) (g.D.Door.sessions c.send_vertex.new.door) l.vertex-index l.invariant.sent v c.in_err-send_vertex.field-0.0
    (slice_get_read c.args.vertices.now (length c.args.vertices.now) l.vertex-index v refl c.loop-vertex-test.true c.vertex-item.is)
    (sends_one (Unit {0}) (frame.Vertex v) (g.D.Door.sessions l.door) (g.D.Door.sessions c.send_vertex.new.door) (Err c.in_err-send_vertex.field-0.0) c.in_err-send_vertex.ensures.sent))

pub loop-vertex-preserved : goal.loop-vertex-preserved
loop-vertex-preserved g c =
    let l = c.loop-vertex in
    let v = c.vertex-item.result in
    let e = c.in_ok-send_vertex.ensures in
    record {
      sent =
          sends_next (map frame.Vertex) (map-append frame.Vertex) c.args.vertices.now (g.D.Door.sessions c.args.door.now) (g.D.Door.sessions l.door) (g.D.Door.sessions c.send_vertex.new.door) l.vertex-index l.invariant.sent v
          (slice_get_read c.args.vertices.now (length c.args.vertices.now) l.vertex-index v refl c.loop-vertex-test.true c.vertex-item.is)
          (sends_one (Unit {0}) (frame.Vertex v) (g.D.Door.sessions l.door) (g.D.Door.sessions c.send_vertex.new.door) (Ok tt) e.sent);
      faults = e.cause ∙ l.invariant.faults;
      door = e.door ∙ l.invariant.door;
      session = ap (λ (d : DoorCalls). d.is_open) e.door ∙ l.invariant.session;
    }
