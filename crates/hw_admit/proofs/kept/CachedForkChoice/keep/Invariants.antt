use Rattle.std.proofs.Common.{◌≡◌, length}
use Rattle.hw_admit.proofs.KeptSlots.{AreSame}
use Rattle.hw_admit.proofs.kept.CachedForkChoice.keep.Given as goal

abbrev pub invariant-loop-validator : goal.invariant-loop-validator
invariant-loop-validator l = (length l.self.panorama ≡ l.validators) × AreSame l.validator l.self.panorama l.panorama
