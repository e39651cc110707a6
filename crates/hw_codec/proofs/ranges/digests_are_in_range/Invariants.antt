use Rattle.std.proofs.Common.{All, take}
use Rattle.hw_codec.specs.Ranges.{DigestInRange}
use Rattle.hw_codec.proofs.ranges.digests_are_in_range.Given as goal

abbrev pub invariant-loop-digest : goal.invariant-loop-digest
invariant-loop-digest l = All DigestInRange (take l.digest-index l.digests)
