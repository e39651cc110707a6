use Rattle.std.proofs.Common.{All, subst}
use Rattle.std.proofs.lemmas.List.{take_all}
use Rattle.std.proofs.lemmas.List.Elements.{All-more}
use Rattle.hw_codec.specs.Ranges.{DigestInRange}
use Rattle.hw_codec.proofs.ranges.digests_are_in_range.Goals as goal

pub loop-digest-preserved : goal.loop-digest-preserved
loop-digest-preserved c = All-more DigestInRange c.args.digests.now c.loop-digest.digest-index _ c.loop-digest-test.true c.loop-digest.invariant c.digest_is_in_range.ensures

pub returns : goal.returns
returns c = subst (All DigestInRange) (take_all c.loop-digest.digest-index c.args.digests.now c.loop-digest-test.false) c.loop-digest.invariant
