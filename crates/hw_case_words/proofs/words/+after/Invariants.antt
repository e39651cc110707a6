use Rattle.std.proofs.Common.{length}
use Rattle.hw_case_words.proofs.words.+after.Given as goal

abbrev pub decreases-after : goal.decreases-after
decreases-after l = length l.words.now
