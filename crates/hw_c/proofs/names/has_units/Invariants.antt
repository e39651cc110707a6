use Rattle.std.specs.Prelude.{⊤}
use Rattle.hw_c.proofs.names.has_units.Given as goal

abbrev pub invariant-vertices : goal.invariant-vertices
invariant-vertices l = ⊤
