use Rattle.std.proofs.Common.{◌≡◌, length}
use Rattle.hw_script_grammar.specs.Words.{words_of}
use Rattle.hw_script_grammar.specs.Wording.{is_one_of}
use Rattle.hw_script_grammar.proofs.wording.is_one_of.Given as goal

abbrev pub invariant-loop-other : goal.invariant-loop-other
invariant-loop-other l = is_one_of l.word l.words ≡ is_one_of l.word (words_of l.fn.words)

abbrev pub decreases-loop-other : goal.decreases-loop-other
decreases-loop-other l = length l.words
