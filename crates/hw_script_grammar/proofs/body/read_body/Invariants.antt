use Rattle.std.proofs.Common.{◌≡◌, length}
use Rattle.hw_types.specs.Real.{setting_of}
use Rattle.hw_script_grammar.specs.Lines.{lines_in}
use Rattle.hw_script_grammar.specs.Body.{nothing_said, lines_add}
use Rattle.hw_script_grammar.proofs.body.read_body.Given as goal

abbrev pub invariant-loop-line : goal.invariant-loop-line
invariant-loop-line l = lines_add (setting_of l.config) l.said (lines_in l.lines) ≡ lines_add (setting_of l.config) nothing_said (lines_in l.initial.lines)

abbrev pub decreases-loop-line : goal.decreases-loop-line
decreases-loop-line l = length (lines_in l.lines)
