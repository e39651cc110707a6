use Rattle.hw_explain.specs.Told.{HasLines}
use Rattle.hw_explain.proofs.told.DecisionLines.tell.Given as goal

abbrev pub invariant-loop-index : goal.invariant-loop-index
invariant-loop-index l = HasLines l.self l.core l.index
