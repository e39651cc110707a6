use Rattle.std.proofs.Common.{◌≡◌, ◌++◌, take}
use Rattle.std.specs.Prelude.{All}
use Rattle.hw_types.specs.Spelling.{VertexFits}
use Rattle.hw_light.specs.Extract.{unit_part}
use Rattle.hw_light.specs.Under.{nodes_at}
use Rattle.hw_light.proofs.extract.put_units.Given as goal

abbrev pub invariant-loop-number : goal.invariant-loop-number
invariant-loop-number l = record {
  put : l.vertices ≡ l.initial.vertices ++ unit_part l.core (nodes_at l.dag (take l.number-index l.numbers));
  fits : All VertexFits (unit_part l.core (nodes_at l.dag (take l.number-index l.numbers)));
}
