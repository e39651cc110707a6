use Rattle.std.proofs.Common.{◌≡◌, ◌+◌, length}
use Rattle.hw_script_grammar.specs.Lines.{lines_in}
use Rattle.hw_script_grammar.specs.Settings.{no_head, head_from}
use Rattle.hw_script_grammar.proofs.head.read_head.Given as goal

abbrev pub invariant-loop-line : goal.invariant-loop-line
invariant-loop-line l =
    (head_from (record { settings = l.settings; last = l.last }) (lines_in l.lines) ≡ head_from no_head (lines_in l.initial.lines))
    × (l.lines.before + length l.lines.texts ≡ l.initial.lines.before + length l.initial.lines.texts)

abbrev pub decreases-loop-line : goal.decreases-loop-line
decreases-loop-line l = length (lines_in l.lines)
