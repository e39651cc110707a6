use Rattle.std.proofs.Common.{◌≡◌, length}
use Rattle.hw_script_grammar.specs.Words.{each}
use Rattle.hw_script_grammar.proofs.EachLaws.{with_front}
use Rattle.hw_script_grammar.proofs.lists.each.Given as goal

abbrev pub invariant-loop-word : goal.invariant-loop-word
invariant-loop-word g l = with_front l.list (each (g.M.Meaning.of l.meaning) l.words) ≡ each (g.M.Meaning.of l.meaning) l.initial.words

abbrev pub decreases-loop-word : goal.decreases-loop-word
decreases-loop-word g l = length l.words
