use Rattle.hw_admit.proofs.KeptSlots.{AreSame}
use Rattle.hw_admit.proofs.kept.CachedForkChoice.is_of.Given as goal

abbrev pub invariant-loop-validator : goal.invariant-loop-validator
invariant-loop-validator l = AreSame l.validator l.self.panorama l.panorama
