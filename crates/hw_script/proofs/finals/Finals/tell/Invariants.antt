use Rattle.std.proofs.Common.{◌≡◌}
use Rattle.hw_script.specs.Told.{HasLines}
use Rattle.hw_script.proofs.finals.Finals.tell.Given as goal

abbrev pub invariant-loop-index : goal.invariant-loop-index
invariant-loop-index l = HasLines l.names l.self l.initial.core l.index × (l.self.count ≡ l.initial.self.count) × (l.core ≡ l.initial.core)
