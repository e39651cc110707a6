use Rattle.hw_forks.proofs.ShareLaws.{IsTallied}
use Rattle.hw_forks.proofs.tallies.heaviest.Given as goal

abbrev pub invariant-loop-share : goal.invariant-loop-share
invariant-loop-share l = IsTallied l.dag l.shares l.share-index l.tally l.best
