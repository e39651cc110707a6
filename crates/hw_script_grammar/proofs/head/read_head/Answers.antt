use Rattle.hw_script_grammar.specs.declared.head.Head.{Head}
use Rattle.hw_script_grammar.specs.Lines.{lines_in}
use Rattle.hw_script_grammar.proofs.HeadLaws.{line_fails}
use Rattle.hw_script_grammar.proofs.head.read_head.Goals as goal

pub returns-in-Err-clause-head : goal.returns-in-Err-clause-head
returns-in-Err-clause-head c =
    let head : Head = record { settings = c.loop-line.settings; last = c.loop-line.last } in
    rw c.in_line.ensures (rw (← c.loop-line.invariant.0)
    (line_fails c.in-Err.fault head (lines_in c.loop-line.lines) (lines_in c.setting.new.self) c.in-Some.line c.in-Some.ensures.line.0 c.in-Some.ensures.line.1 c.in-Err.ensures))
