use Rattle.std.proofs.Common.{sym, ◌∙◌}
use Rattle.hw_light.proofs.GatherLaws.{place_in, marked_here}
use Rattle.hw_light.proofs.needed.is_marked_by.Goals as goal

pub marks-requires-clause-known : goal.marks-requires-clause-known
marks-requires-clause-known c = c.requires.known _ (place_in c.args.numbers.now c.loop-number.number-index _ c.loop-number-test.true)

pub returns-then-marks : goal.returns-then-marks
returns-then-marks c = sym (marked_here c.args.dag.now c.args.numbers.now c.args.validator c.loop-number.number-index _ c.loop-number-test.true (sym c.marks.ensures ∙ c.if-marks.true))
