use Rattle.hw_core_cases.proofs.SlotLaws.{HaveLists}
use Rattle.hw_core_cases.proofs.graph.naivety.has_lists.Given as goal

abbrev pub invariant-loop-validator : goal.invariant-loop-validator
invariant-loop-validator l = HaveLists l.dag l.panorama l.endorsed l.validator
