-- Ancestors by number.
use Rattle.std.proofs.Common.{◌≡◌, ℕ, zero, suc, ◌<◌, ◌≤◌, ◌⊎◌, inl, inr, Bool, true, false, Option, Some, refl, sym, ap, subst, ◌∙◌, arith, eqb-true, eq-eqb}
use Rattle.std.specs.Prelude.{◌==◌, unwrap_or}
use Rattle.hw_types.specs.Graph.{is_some_and}
use Rattle.hw_types.specs.Votes.{is_block}
use Rattle.hw_types.proofs.PastLaws.{or_cases, or_left, or_right}
use Rattle.hw_types.proofs.WordsLaws.{passes_some, never_both}
use Rattle.hw_dag.specs.declared.numbers.UnitNo.{UnitNo}
use Rattle.hw_dag.specs.Dag.{UnitGraph, unit_at, count_of, node_at}
use Rattle.hw_dag.specs.Admission.{IsGraph, height_above}
use Rattle.hw_dag.specs.Lanes.{IsAncestor, itself, further}
use Rattle.hw_dag.proofs.DepthLaws.{parent_earlier, parent_is_block, height_next, height_is}
use Rattle.hw_forks.specs.Votes.{height_at}
use Rattle.hw_forks.specs.Walk.{is_over_within, is_over, IsChild}

module _ (dag : UnitGraph) (g : IsGraph dag) where
  -- an ancestor of an ancestor
  pub anc_trans : (a b c : ℕ) → IsAncestor dag a b → IsAncestor dag b c → IsAncestor dag a c
  anc_trans a b _ h itself = h
  anc_trans a b _ h (further high parent e k) = further high parent e (anc_trans a b parent.0 h k)

  -- it is the same, or an ancestor of the parent
  pub anc_split : (a b : ℕ) → IsAncestor dag a b → (a ≡ b) ⊎ ((p : UnitNo) × ((unit_at dag b).parent ≡ Some p) × IsAncestor dag a p.0)
  anc_split a _ itself = inl refl
  anc_split a _ (further high parent e k) = inr (parent, e, k)

  pub anc_earlier : (a b : ℕ) → b < count_of dag → IsAncestor dag a b → a ≤ b
  anc_earlier a _ lt itself = omega arith
  anc_earlier a _ lt (further high parent e k) =
      let less = parent_earlier dag g high parent lt e in
      let rest = anc_earlier a parent.0 (omega arith) k in
      omega arith

  pub anc_known : (a b : ℕ) → b < count_of dag → IsAncestor dag a b → a < count_of dag
  anc_known a b lt h = let le = anc_earlier a b lt h in omega arith

  pub anc_block : (a b : ℕ) → b < count_of dag → is_block (node_at dag b) ≡ true → IsAncestor dag a b → is_block (node_at dag a) ≡ true
  anc_block a _ lt t itself = t
  anc_block a _ lt t (further high parent e k) =
      let less = parent_earlier dag g high parent lt e in
      anc_block a parent.0 (omega arith) (parent_is_block dag g high parent lt e) k

  -- another ancestor is lower
  pub anc_lower : (a b : ℕ) → b < count_of dag → IsAncestor dag a b → (a ≡ b) ⊎ (height_at dag a < height_at dag b)
  anc_lower a _ lt itself = inl refl
  anc_lower a _ lt (further high parent e k) =
      let less = parent_earlier dag g high parent lt e in
      let next = height_next dag g high parent lt e in
      inr (elim (anc_lower a parent.0 (omega arith) k) [
        | inl same ↦ (let h = ap (λ (n : ℕ). height_at dag n) same in omega arith)
        | inr lower ↦ omega arith
      ])

  pub anc_height : (a b : ℕ) → b < count_of dag → IsAncestor dag a b → height_at dag a ≤ height_at dag b
  anc_height a b lt h = elim (anc_lower a b lt h) [
    | inl same ↦ (let e = ap (λ (n : ℕ). height_at dag n) same in omega arith)
    | inr lower ↦ omega arith
  ]

  -- a block has one ancestor of each height
  pub anc_line : (a c b : ℕ) → b < count_of dag → IsAncestor dag a b → IsAncestor dag c b → height_at dag a ≡ height_at dag c → a ≡ c
  anc_line a c _ lt itself k h = elim (anc_lower c a lt k) [ inl e ↦ sym e | inr lower ↦ absurd (omega arith) ]
  anc_line a c _ lt (further high parent e j) k h = elim (anc_split c high k) [
    | inl same ↦ elim (anc_lower a high lt (further high parent e j)) [
      | inl here ↦ here ∙ sym same
      | inr lower ↦ absurd (let t = ap (λ (n : ℕ). height_at dag n) same in omega arith)
    ]
    | inr q ↦
        let less = parent_earlier dag g high parent lt e in
        let one : q.0 ≡ parent = (let s : Some q.0 ≡ Some parent = sym q.1 ∙ e in cc) in
        anc_line a c parent.0 (omega arith) j (subst (λ (p : UnitNo). IsAncestor dag c p.0) one q.2) h
  ]

  -- of two ancestors the one that isn't higher is an ancestor of the other
  pub anc_between : (a c b : ℕ) → b < count_of dag → IsAncestor dag a b → IsAncestor dag c b → height_at dag a ≤ height_at dag c → IsAncestor dag a c
  anc_between a c _ lt h itself le = h
  anc_between a c _ lt h (further high parent e j) le = elim (anc_split a high h) [
    | inl same ↦ absurd (
        let less = parent_earlier dag g high parent lt e in
        let next = height_next dag g high parent lt e in
        let below = anc_height c parent.0 (omega arith) j in
        let t = ap (λ (n : ℕ). height_at dag n) same in
        omega arith)
    | inr q ↦
        let less = parent_earlier dag g high parent lt e in
        let one : q.0 ≡ parent = (let s : Some q.0 ≡ Some parent = sym q.1 ∙ e in cc) in
        anc_between a c parent.0 (omega arith) (subst (λ (p : UnitNo). IsAncestor dag a p.0) one q.2) j le
  ]

  -- ---- the test

  pub over_anc : (n c b : ℕ) → is_over_within n dag c b ≡ true → IsAncestor dag c b
  unfolding is_over_within
  over_anc zero c b t = subst (λ (x : ℕ). IsAncestor dag c x) (eqb-true c b t) itself
  over_anc (suc n) c b t = elim (or_cases (c == b) (is_some_and (λ (p : UnitNo). is_over_within n dag c p.0) (unit_at dag b).parent) t) [
    | inl here ↦ subst (λ (x : ℕ). IsAncestor dag c x) (eqb-true c b here) itself
    | inr up ↦ (let p = passes_some (λ (p : UnitNo). is_over_within n dag c p.0) (unit_at dag b).parent up in further b p.0 p.1 (over_anc n c p.0.0 p.2))
  ]

  over_self : (n c : ℕ) → is_over_within n dag c c ≡ true
  unfolding is_over_within
  over_self zero c = eq-eqb c c refl
  over_self (suc n) c = or_left (c == c) _ (eq-eqb c c refl)

  anc_over_within : (c n b : ℕ) → b < count_of dag → b ≤ n → IsAncestor dag c b → is_over_within n dag c b ≡ true
  unfolding is_over_within
  anc_over_within c n _ lt le itself = over_self n c
  anc_over_within c zero _ lt le (further high parent e k) = absurd (let less = parent_earlier dag g high parent lt e in omega arith)
  anc_over_within c (suc n) _ lt le (further high parent e k) =
      let less = parent_earlier dag g high parent lt e in
      or_right (c == high) (is_some_and (λ (p : UnitNo). is_over_within n dag c p.0) (unit_at dag high).parent)
      (ap (is_some_and (λ (p : UnitNo). is_over_within n dag c p.0)) e ∙ anc_over_within c n parent.0 (omega arith) (omega arith) k)

  pub anc_over : (c b : ℕ) → b < count_of dag → IsAncestor dag c b → is_over dag c b ≡ true
  anc_over c b lt h = anc_over_within c (count_of dag) b lt (omega arith) h

  pub never_over : (c b : ℕ) → (IsAncestor dag c b → ⊥) → is_over dag c b ≡ false
  never_over c b never = go (is_over dag c b) refl
    where
      go : (t : Bool) → is_over dag c b ≡ t → t ≡ false
      go true e = absurd (never (over_anc (count_of dag) c b e))
      go false e = refl

  -- so it can be read off the one ancestor of that height
  pub over_test : (c found b : ℕ) → b < count_of dag → IsAncestor dag found b → height_at dag found ≡ height_at dag c → (found == c) ≡ is_over dag c b
  over_test c found b lt h e = go (found == c) refl
    where
      go : (t : Bool) → (found == c) ≡ t → t ≡ is_over dag c b
      go true same = sym (anc_over c b lt (subst (λ (n : ℕ). IsAncestor dag n b) (eqb-true found c same) h))
      go false differ = sym (never_over c b (λ k. never_both (found == c) (eq-eqb found c (anc_line found c b lt h k e)) differ))

  -- and a block above it isn't one
  pub over_higher : (c b : ℕ) → b < count_of dag → height_at dag b < height_at dag c → false ≡ is_over dag c b
  over_higher c b lt less = sym (never_over c b (λ k. let le = anc_height c b lt k in omega arith))

  -- ---- children

  pub child_height : (place : Option UnitNo) (c : ℕ) → IsChild dag place c → height_at dag c ≡ height_above dag place
  child_height place c k = ap (λ (o : Option ℕ). unwrap_or o 0) (height_is dag g c k.known k.block) ∙ ap (height_above dag) k.parent

  -- of the children of a place one is an ancestor of a block at most
  pub one_child : (place : Option UnitNo) (c d b : ℕ) → IsChild dag place c → IsChild dag place d → b < count_of dag → IsAncestor dag c b → IsAncestor dag d b → c ≡ d
  one_child place c d b k l lt h j = anc_line c d b lt h j (child_height place c k ∙ sym (child_height place d l))
