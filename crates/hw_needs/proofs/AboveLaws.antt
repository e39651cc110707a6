-- The unit of the least digest above a bound, unit by unit.
use Rattle.std.proofs.Common.{◌≡◌, ℕ, ◌+◌, ◌<◌, inl, inr, true, Option, Some, None, sym, subst, arith}
use Rattle.std.specs.Prelude.{IfSome}
use Rattle.hw_types.specs.declared.unit.Digest.{Digest}
use Rattle.hw_types.specs.Graph.{digest_lt}
use Rattle.hw_dag.specs.declared.numbers.UnitNo.{UnitNo}
use Rattle.hw_dag.specs.Dag.{UnitGraph, unit_at, count_of}
use Rattle.hw_dag.specs.Admission.{IsGraph}
use Rattle.hw_forks.proofs.BestLaws.{digest_lt_trans, digest_cases}
use Rattle.hw_needs.specs.Forks.{StandsAt, IsAbove, IsLower, IsLeastAbove}
use Rattle.hw_needs.proofs.NotedLaws.{stands_more, stands_split}

module _ (dag : UnitGraph) (g : IsGraph dag) (creator seq : ℕ) (bound : Option Digest) where
  abbrev name : ℕ → Digest
  name n = (unit_at dag n).digest

  -- the last unit isn't asked for
  pub above_stays : (count : ℕ) (least : Option UnitNo) → (StandsAt dag (count + 1) creator seq count → IsAbove bound (name count) → ⊥)
      → IsLeastAbove dag count creator seq bound least → IsLeastAbove dag (count + 1) creator seq bound least
  above_stays count None never is = λ n at above. elim (stands_split dag count creator seq n at) [
    | inl e ↦ never (subst (λ (m : ℕ). StandsAt dag (count + 1) creator seq m) e at) (subst (λ (m : ℕ). IsAbove bound (name m)) e above)
    | inr old ↦ is n old above
  ]
  above_stays count (Some low) never is = (
    stands_more dag count creator seq low.0 is.0,
    is.1,
    λ n at above. elim (stands_split dag count creator seq n at) [
      | inl e ↦ absurd (never (subst (λ (m : ℕ). StandsAt dag (count + 1) creator seq m) e at) (subst (λ (m : ℕ). IsAbove bound (name m)) e above))
      | inr old ↦ is.2 n old above
    ],
  )

  -- it is, and the lesser one is kept
  pub above_more : (count : ℕ) → count < count_of dag → (least : Option UnitNo) (low : UnitNo) → StandsAt dag (count + 1) creator seq count → IsAbove bound (name count)
      → IsLower dag least (record { 0 = count }) low → IsLeastAbove dag count creator seq bound least → IsLeastAbove dag (count + 1) creator seq bound (Some low)
  above_more count lt None low here above lower is = subst (λ (m : UnitNo). IsLeastAbove dag (count + 1) creator seq bound (Some m)) (sym lower) (
    here,
    above,
    λ n at high. elim (stands_split dag count creator seq n at) [ inl e ↦ inl e | inr old ↦ absurd (is n old high) ],
  )
  above_more count lt (Some known) low here above (inl kept) is = subst (λ (m : UnitNo). IsLeastAbove dag (count + 1) creator seq bound (Some m)) (sym kept.0) (
    stands_more dag count creator seq known.0 is.0,
    is.1,
    λ n at high. elim (stands_split dag count creator seq n at) [
      | inl e ↦ inr (subst (λ (m : ℕ). digest_lt (name known.0) (name m) ≡ true) (sym e) kept.1)
      | inr old ↦ is.2 n old high
    ],
  )
  above_more count lt (Some known) low here above (inr taken) is = subst (λ (m : UnitNo). IsLeastAbove dag (count + 1) creator seq bound (Some m)) (sym taken.0) (
    here,
    above,
    λ n at high. elim (stands_split dag count creator seq n at) [
      | inl e ↦ inl e
      | inr old ↦ inr (elim (is.2 n old high) [
        | inl same ↦ subst (λ (m : ℕ). digest_lt (name count) (name m) ≡ true) (sym same) before
        | inr later ↦ digest_lt_trans (name count) (name known.0) (name n) before later
      ])
    ],
  )
    where
      before : digest_lt (name count) (name known.0) ≡ true
      before = elim (digest_cases (name known.0) (name count) taken.1) [
        | inl same ↦ (let one = g.distinct count known.0 lt (let low = is.0.within in omega arith) same in let low = is.0.within in absurd (omega arith))
        | inr b ↦ b
      ]

-- what was found is a unit of the graph
pub least_known : (dag : UnitGraph) (creator seq : ℕ) (bound : Option Digest) (count : ℕ) → count < count_of dag → (least : Option UnitNo) → IsLeastAbove dag count creator seq bound least → IfSome least (λ k. k.0 < count_of dag)
least_known dag creator seq bound count lt None is = tt
least_known dag creator seq bound count lt (Some low) is = let within = is.0.within in omega arith
