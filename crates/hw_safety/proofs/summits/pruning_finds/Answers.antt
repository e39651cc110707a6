use Rattle.hw_safety.proofs.PrunedLaws.{summit_is_left, pruned_is_greatest}
use Rattle.hw_safety.proofs.summits.pruning_finds.Goals as goal

pub returns : goal.returns
returns c = λ weights units panorama block quorum level. (summit_is_left weights units panorama block quorum level, pruned_is_greatest weights units panorama block quorum level)
