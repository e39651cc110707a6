use Rattle.std.proofs.Common.{All, subst}
use Rattle.std.proofs.lemmas.List.{take_all}
use Rattle.std.proofs.lemmas.List.Elements.{All-more}
use Rattle.hw_codec.specs.Ranges.{ObsInRange}
use Rattle.hw_codec.proofs.ranges.panorama_is_in_range.Goals as goal

pub loop-obs-preserved : goal.loop-obs-preserved
loop-obs-preserved c = All-more ObsInRange c.args.panorama.now c.loop-obs.obs-index _ c.loop-obs-test.true c.loop-obs.invariant c.obs_is_in_range.ensures

pub returns : goal.returns
returns c = subst (All ObsInRange) (take_all c.loop-obs.obs-index c.args.panorama.now c.loop-obs-test.false) c.loop-obs.invariant
