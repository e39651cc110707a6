use Rattle.std.proofs.Common.{◌≡◌, ◌-◌, length}
use Rattle.hw_script_grammar.specs.Words.{next_each}
use Rattle.hw_script_grammar.specs.Units.{citation_of}
use Rattle.hw_script_grammar.proofs.NextLaws.{with_front}
use Rattle.hw_script_grammar.proofs.citation.next_citations.Given as goal

abbrev pub invariant-loop : goal.invariant-loop
invariant-loop l =
    (with_front l.list (next_each (citation_of l.names) (l.count - l.counter) l.words) ≡ next_each (citation_of l.names) l.count l.initial.words)
    × (length l.list ≡ l.counter)
