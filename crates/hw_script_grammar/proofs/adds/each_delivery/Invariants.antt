use Rattle.std.proofs.Common.{◌≡◌, length}
use Rattle.hw_script_grammar.specs.Words.{each}
use Rattle.hw_script_grammar.specs.Acts.{delivery_of}
use Rattle.hw_script_grammar.proofs.EachLaws.{with_front}
use Rattle.hw_script_grammar.proofs.adds.each_delivery.Given as goal

abbrev pub invariant-loop-word : goal.invariant-loop-word
invariant-loop-word l = with_front l.acts (each (delivery_of l.names) l.words) ≡ each (delivery_of l.names) l.initial.words

abbrev pub decreases-loop-word : goal.decreases-loop-word
decreases-loop-word l = length l.words
