use Rattle.std.proofs.Common.{◌≡◌, ◌++◌, take}
use Rattle.std.specs.List.{flat_map}
use Rattle.hw_light.specs.Spelling.{counted_vertex}
use Rattle.hw_light.proofs.encoding.put_vertices.Given as goal

abbrev pub invariant-loop-vertex : goal.invariant-loop-vertex
invariant-loop-vertex l = l.out ≡ l.fn.out ++ flat_map counted_vertex (take l.vertex-index l.vertices)
