use Rattle.std.proofs.Common.{sym, ◌∙◌}
use Rattle.hw_safety.specs.Verdicts.{held_in}
use Rattle.hw_cluster.specs.Counts.{has_other}
use Rattle.hw_cluster.proofs.CountLaws.{next_vertex, that_vertex, no_vertex}
use Rattle.hw_cluster.proofs.counts.equivocates_in.Goals as goal

pub returns-then-vertex_shows : goal.returns-then-vertex_shows
returns-then-vertex_shows c =
    sym (that_vertex (has_other c.args.validator (held_in c.args.sent.now)) c.args.sent.now c.loop-vertex.vertex-index c.vertex-item.result c.loop-vertex-test.true c.vertex-item.is (sym (rw c.vertex.ensures at c.vertex_shows.ensures) ∙ c.if-vertex_shows.true))
    ∙ c.loop-vertex.invariant

pub loop-vertex-preserved : goal.loop-vertex-preserved
loop-vertex-preserved c =
    sym (next_vertex (has_other c.args.validator (held_in c.args.sent.now)) c.args.sent.now c.loop-vertex.vertex-index c.vertex-item.result c.loop-vertex-test.true c.vertex-item.is (sym (rw c.vertex.ensures at c.vertex_shows.ensures) ∙ c.if-vertex_shows.false))
    ∙ c.loop-vertex.invariant

pub returns : goal.returns
returns c = sym (no_vertex (has_other c.args.validator (held_in c.args.sent.now)) c.args.sent.now c.loop-vertex.vertex-index c.loop-vertex-test.false) ∙ c.loop-vertex.invariant
