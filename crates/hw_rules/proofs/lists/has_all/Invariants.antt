-- The own list has the digests so far.
use Rattle.std.proofs.Common.{◌≡◌, ℕ, ◌<◌, true, [], get_or}
use Rattle.hw_types.specs.Rules.{has_digest}
use Rattle.hw_rules.proofs.lists.has_all.Given as goal

abbrev pub invariant-loop-digest : goal.invariant-loop-digest
invariant-loop-digest l = (k : ℕ) → k < l.digest-index → has_digest l.own (get_or l.others k (record { 0 = [] })) ≡ true
