use Rattle.std.proofs.Common.{◌≡◌, ◌+◌, length}
use Rattle.hw_script_grammar.specs.Lines.{lines_in}
use Rattle.hw_script_grammar.proofs.lines.Lines.next.Given as goal

abbrev pub invariant-loop-text : goal.invariant-loop-text
invariant-loop-text l = (lines_in l.self ≡ lines_in l.initial.self) × (l.self.before + length l.self.texts ≡ l.initial.self.before + length l.initial.self.texts)

abbrev pub decreases-loop-text : goal.decreases-loop-text
decreases-loop-text l = length l.self.texts
