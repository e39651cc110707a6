use Rattle.std.proofs.Common.{length}
use Rattle.hw_doubles.proofs.paced.+free_behind.Given as goal

abbrev pub decreases-free_behind : goal.decreases-free_behind
decreases-free_behind l = length l.holds.now
