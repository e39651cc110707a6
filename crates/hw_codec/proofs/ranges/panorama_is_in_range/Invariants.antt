use Rattle.std.proofs.Common.{All, take}
use Rattle.hw_codec.specs.Ranges.{ObsInRange}
use Rattle.hw_codec.proofs.ranges.panorama_is_in_range.Given as goal

abbrev pub invariant-loop-obs : goal.invariant-loop-obs
invariant-loop-obs l = All ObsInRange (take l.obs-index l.panorama)
