use Rattle.std.proofs.lemmas.Result.{err_from_is_err_and}
use Rattle.hw_light.specs.Reading.{vertices_at}
use Rattle.hw_light.proofs.Loop.{goes_on, ends, is_done}
use Rattle.hw_light.proofs.decoding.read_vertices.Goals as goal

pub returns-in_err-read_vertex-clause-said : goal.returns-in_err-read_vertex-clause-said
returns-in_err-read_vertex-clause-said c =
    let p = err_from_is_err_and c.from_residual.result c.from_residual.ensures.1 in
    rw (p.1, p.2) (ends c.in_err-read_vertex.field-0.0 c.loop.vertices c.args.count c.loop.counter c.loop.reader (vertices_at c.args.count c.args.reader.now) c.loop-test.true c.in_err-read_vertex.ensures.said c.loop.invariant)

pub loop-preserved : goal.loop-preserved
loop-preserved c = rw c.in_ok-push.ensures.ok
    (goes_on c.loop.vertices c.args.count c.loop.counter c.loop.reader c.in_ok-read_vertex.field-0 c.read_vertex.new.reader (vertices_at c.args.count c.args.reader.now) c.loop-test.true c.in_ok-read_vertex.ensures.said c.loop.invariant)

pub returns-clause-said : goal.returns-clause-said
returns-clause-said c = is_done c.loop.vertices c.args.count c.loop.counter c.loop.reader (vertices_at c.args.count c.args.reader.now) c.loop-test.false c.loop.invariant
