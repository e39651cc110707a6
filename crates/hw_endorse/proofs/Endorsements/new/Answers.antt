use Rattle.std.proofs.Common.{ℕ, List, [], sym, subst}
use Rattle.hw_types.specs.declared.unit.Digest.{Digest}
use Rattle.hw_endorse.specs.declared.tally.Endorsers.{Endorsers}
use Rattle.hw_endorse.specs.Kept.{pairs_in, IsKept}
use Rattle.hw_endorse.proofs.KeptLaws.{kept_none}
use Rattle.hw_endorse.proofs.Endorsements.new.Goals as goal

pub invariant_of-result : goal.invariant_of-result
invariant_of-result c =
    let kept = kept_none c.args.config.now c.total.result c.requires c.total.ensures in
    let P : List ℕ → Type 0 = λ weights. IsKept weights c.total.result [] [] [] in
    let R : List (Digest × Endorsers) → Type 0 = λ tallies. IsKept c.in_ok-copy.field-0 c.total.result (pairs_in tallies) tallies [] in
    let S : List Digest → Type 0 = λ units. IsKept c.in_ok-copy.field-0 c.total.result (pairs_in c.new.result.entries) c.new.result.entries units in
    subst S (sym c.new-2.ensures.empty) (subst R (sym c.new.ensures.empty) (subst P (sym c.in_ok-copy.ensures) kept))
