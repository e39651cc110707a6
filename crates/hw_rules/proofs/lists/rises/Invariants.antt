-- The list rises at each place so far: what is left is its end.
use Rattle.std.proofs.Common.{◌≡◌, ℕ, ◌-◌, ◌<◌, ◌≤◌, length, drop}
use Rattle.std.specs.Slice.Iter.{windows_size, windows_rest}
use Rattle.hw_rules.proofs.ListLaws.{RisesAt}
use Rattle.hw_rules.proofs.lists.rises.Given as goal

abbrev pub invariant-loop-pair : goal.invariant-loop-pair
invariant-loop-pair l =
    let rest = windows_rest l.pair-iterator in
    let at = length l.digests - length rest in
    (windows_size l.pair-iterator ≡ 2) × (length rest ≤ length l.digests) × (rest ≡ drop at l.digests) × ((k : ℕ) → k < at → RisesAt l.digests k)
