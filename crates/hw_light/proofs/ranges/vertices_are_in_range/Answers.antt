use Rattle.std.proofs.Common.{subst}
use Rattle.std.specs.List.{All}
use Rattle.std.proofs.lemmas.List.{take_all}
use Rattle.std.proofs.lemmas.List.Elements.{All-more}
use Rattle.hw_codec.specs.Ranges.{VertexInRange}
use Rattle.hw_light.proofs.ranges.vertices_are_in_range.Goals as goal

pub loop-vertex-preserved : goal.loop-vertex-preserved
loop-vertex-preserved c =
    All-more VertexInRange c.args.vertices.now c.loop-vertex.vertex-index c.vertex-item.result c.loop-vertex-test.true c.loop-vertex.invariant
    (subst VertexInRange c.vertex-item.is c.vertex_is_in_range.ensures)

pub returns : goal.returns
returns c = subst (All VertexInRange) (take_all c.loop-vertex.vertex-index c.args.vertices.now c.loop-vertex-test.false) c.loop-vertex.invariant
