-- No node has two different units of one number among what was sent.
use Rattle.std.proofs.Common.{◌≡◌, ℕ, zero, suc, ◌+◌, ◌<◌, ◌≤◌, inl, inr, Bool, true, false, cond, List, [], ◌∷◌, length, take, refl, sym, ap, subst, ◌∙◌, arith, eqb-true}
use Rattle.std.specs.Prelude.{filter, flat_map}
use Rattle.std.specs.List.{range_with_len}
use Rattle.hw_types.specs.declared.unit.SignedUnit.{SignedUnit}
use Rattle.hw_types.specs.declared.unit.WireUnit.{WireUnit}
use Rattle.hw_types.specs.Below.{Among}
use Rattle.hw_types.specs.Same.{unit_eq}
use Rattle.hw_types.specs.Culprits.{signed_in}
use Rattle.hw_types.proofs.OrderLaws.{unit_self}
use Rattle.hw_types.proofs.PastLaws.{some_of}
use Rattle.hw_types.proofs.StableLaws.{and_parts}
use Rattle.hw_types.proofs.WordsLaws.{never_both, not_true}
use Rattle.hw_types.proofs.EntryLaws.{among_map, append_cases}
use Rattle.hw_safety.specs.Verdicts.{held_in}
use Rattle.hw_honest.specs.Laws.{HasUnit}
use Rattle.hw_cluster.specs.Counts.{is_other, has_other, equivocates_in}
use Rattle.hw_cluster.specs.Nodes.{ClusterState, IsReached, nodes_in}
use Rattle.hw_cluster.proofs.CountLaws.{count_more}
use Rattle.hw_cluster.proofs.TogetherLaws.{are_apart}

from_flat : {A B : Type 0} (f : A → List B) (y : B) (xs : List A) → Among y (flat_map f xs) → (x : A) × Among x xs × Among y (f x)
from_flat f y [] m = absurd m
from_flat f y (x ∷ xs) m = elim (append_cases y (f x) (flat_map f xs) m) [
  | inl here ↦ (x, inl refl, here)
  | inr there ↦ (let rest = from_flat f y xs there in (rest.0, inr rest.1, rest.2))
]

module _ (c : ClusterState) (reached : IsReached c) (v : ℕ) (lt : v < nodes_in c) where
  abbrev units : List SignedUnit
  units = held_in c.cluster.sent

  has : (u : SignedUnit) → Among u units → HasUnit c.cluster u.unit
  has u m = (let p = from_flat signed_in u c.cluster.sent m in (p.0, inl p.1, among_map (λ (w : SignedUnit). w.unit) u (signed_in p.0) p.2))

  never : equivocates_in c.cluster.sent v ≡ true → ⊥
  never e =
      let x = some_of (has_other v units) units e in
      let t = and_parts _ _ x.2 in
      let y = some_of (is_other v x.0.unit) units t.1 in
      let a = and_parts _ _ y.2 in
      let b = and_parts _ _ a.0 in
      let cx : x.0.unit.creator ≡ v = eqb-true _ _ t.0 in
      let cy : y.0.unit.creator ≡ v = eqb-true _ _ b.0 in
      let same = are_apart c reached x.0.unit y.0.unit (has x.0 x.1) (has y.0 y.1) (subst (λ i. i < nodes_in c) (sym cx) lt) (cx ∙ sym cy) (sym (eqb-true _ _ b.1)) in
      never_both _ (subst (λ (z : WireUnit). unit_eq x.0.unit z ≡ true) same (unit_self x.0.unit)) (not_true _ a.1)

  pub none_equivocates : equivocates_in c.cluster.sent v ≡ false
  none_equivocates = go (equivocates_in c.cluster.sent v) refl
    where
      go : (b : Bool) → equivocates_in c.cluster.sent v ≡ b → b ≡ false
      go true e = absurd (never e)
      go false e = refl

-- none of the first ones is counted where none passes
pub count_none : (p : ℕ → Bool) (n i : ℕ) → i ≤ n → ((v : ℕ) → v < i → p v ≡ false) → length (filter p (take i (range_with_len 0 n))) ≡ 0
count_none p n zero le none = refl
count_none p n (suc i) le none =
    let so_far = length (filter p (take i (range_with_len 0 n))) in
    let before : so_far ≡ 0 = count_none p n i (omega (arith, le)) (λ v low. none v (omega (arith, low))) in
    let more = count_more p n i (omega (arith, le)) ∙ ap (λ b. so_far + cond b 1 0) (none i (omega arith)) in
    let here : suc i ≡ i + 1 = omega arith in
    let last : so_far + 0 ≡ 0 = omega (arith, before) in
    ap (λ k. length (filter p (take k (range_with_len 0 n)))) here ∙ more ∙ last
