use Rattle.hw_types.specs.Real.{setting_of}
use Rattle.hw_script_grammar.specs.Lines.{lines_in}
use Rattle.hw_script_grammar.proofs.BodyLaws.{line_fails}
use Rattle.hw_script_grammar.proofs.FormatLaws.{config_fits}
use Rattle.hw_script_grammar.proofs.body.read_body.Goals as goal

pub instance_of-requires : goal.instance_of-requires
instance_of-requires c = config_fits c.args.config.now c.requires

pub returns-in-Err : goal.returns-in-Err
returns-in-Err c =
    rw c.in_line.ensures (rw (← c.loop-line.invariant)
    (line_fails c.in-Err.fault (setting_of c.args.config.now) c.loop-line.said (lines_in c.loop-line.lines) (lines_in c.next.new.self) c.in-Some.line c.in-Some.ensures.line c.in-Err.ensures.adds))
