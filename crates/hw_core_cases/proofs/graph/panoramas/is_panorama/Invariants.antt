use Rattle.hw_core_cases.proofs.SlotLaws.{AreBy}
use Rattle.hw_core_cases.proofs.graph.panoramas.is_panorama.Given as goal

abbrev pub invariant-loop-validator : goal.invariant-loop-validator
invariant-loop-validator l = AreBy l.dag l.panorama l.validator
