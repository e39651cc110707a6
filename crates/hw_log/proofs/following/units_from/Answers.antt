use Rattle.std.proofs.Common.{◌∙◌}
use Rattle.hw_log.proofs.FollowingLaws.{spelled_hashed}
use Rattle.hw_log.proofs.following.units_from.Goals as goal

pub named-requires-clause-digests : goal.named-requires-clause-digests
named-requires-clause-digests c =
    (rw (c.as_slice.ensures.value, c.as_slice-2.ensures.value) at c.in_ok-digests.ensures) ∙ spelled_hashed _ _ _ c.in_ok-units.ensures.spelled
