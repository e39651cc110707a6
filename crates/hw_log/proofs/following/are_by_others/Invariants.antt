use Rattle.std.proofs.Common.{ℕ, ◌<◌, slice_index_or}
use Rattle.hw_log.specs.Following.{IsByOther}
use Rattle.hw_log.specs.declared.following.NextUnit.{NextUnit}
use Rattle.hw_log.proofs.following.are_by_others.Given as goal

abbrev pub invariant-units : goal.invariant-units
invariant-units l = (k : ℕ) (d : NextUnit) → k < l.next-index → IsByOther l.creator (slice_index_or l.units k d)
