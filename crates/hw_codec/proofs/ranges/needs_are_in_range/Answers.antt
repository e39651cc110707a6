use Rattle.std.proofs.Common.{All, subst}
use Rattle.std.proofs.lemmas.List.{take_all}
use Rattle.std.proofs.lemmas.List.Elements.{All-more}
use Rattle.hw_codec.specs.Ranges.{NeedInRange}
use Rattle.hw_codec.proofs.ranges.needs_are_in_range.Goals as goal

pub loop-need-preserved : goal.loop-need-preserved
loop-need-preserved c = All-more NeedInRange c.args.needs.now c.loop-need.need-index _ c.loop-need-test.true c.loop-need.invariant c.need_is_in_range.ensures

pub returns : goal.returns
returns c = subst (All NeedInRange) (take_all c.loop-need.need-index c.args.needs.now c.loop-need-test.false) c.loop-need.invariant
