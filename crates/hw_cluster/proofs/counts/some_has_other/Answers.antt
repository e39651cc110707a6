use Rattle.std.proofs.Common.{sym, ◌∙◌}
use Rattle.hw_cluster.specs.Counts.{is_other}
use Rattle.hw_cluster.proofs.CountLaws.{next_vertex, that_vertex, no_vertex}
use Rattle.hw_cluster.proofs.counts.some_has_other.Goals as goal

pub returns-then-vertex_has_other : goal.returns-then-vertex_has_other
returns-then-vertex_has_other c =
    sym (that_vertex (is_other c.args.validator c.args.unit.now) c.args.sent.now c.loop-vertex.vertex-index c.vertex-item.result c.loop-vertex-test.true c.vertex-item.is (sym (rw c.vertex.ensures at c.vertex_has_other.ensures) ∙ c.if-vertex_has_other.true))
    ∙ c.loop-vertex.invariant

pub loop-vertex-preserved : goal.loop-vertex-preserved
loop-vertex-preserved c =
    sym (next_vertex (is_other c.args.validator c.args.unit.now) c.args.sent.now c.loop-vertex.vertex-index c.vertex-item.result c.loop-vertex-test.true c.vertex-item.is (sym (rw c.vertex.ensures at c.vertex_has_other.ensures) ∙ c.if-vertex_has_other.false))
    ∙ c.loop-vertex.invariant

pub returns : goal.returns
returns c = sym (no_vertex (is_other c.args.validator c.args.unit.now) c.args.sent.now c.loop-vertex.vertex-index c.loop-vertex-test.false) ∙ c.loop-vertex.invariant
