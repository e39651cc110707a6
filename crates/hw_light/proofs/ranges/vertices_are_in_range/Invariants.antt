use Rattle.std.proofs.Common.{take}
use Rattle.std.specs.List.{All}
use Rattle.hw_codec.specs.Ranges.{VertexInRange}
use Rattle.hw_light.proofs.ranges.vertices_are_in_range.Given as goal

abbrev pub invariant-loop-vertex : goal.invariant-loop-vertex
invariant-loop-vertex l = All VertexInRange (take l.vertex-index l.vertices)
