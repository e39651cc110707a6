-- The order of panoramas in numbers, and consistent ones.
use Rattle.std.proofs.Common.{◌≡◌, ℕ, zero, suc, ◌<◌, inl, inr, Bool, true, false, not, List, [], ◌∷◌, length, refl, sym, ap, subst, ◌∙◌, arith}
use Rattle.std.specs.Prelude.{◌||◌}
use Rattle.hw_types.specs.declared.unit.Obs.{Obs}
use Rattle.hw_types.specs.Graph.{Node, slot, slots, cites, obs_at_most, is_at_most, is_consistent}
use Rattle.hw_types.specs.Below.{Among}
use Rattle.hw_types.proofs.WordsLaws.{either, never_both, all_of, each_all, range_below, slots_in}
use Rattle.hw_dag.specs.declared.numbers.UnitNo.{UnitNo}
use Rattle.hw_dag.specs.declared.numbers.View.{View}
use Rattle.hw_dag.specs.declared.numbers.View.TheVariants as view
use Rattle.hw_dag.specs.Dag.{UnitGraph, unit_at, count_of, node_at, graph, view_at, obs_of, observations, IsPanorama}
use Rattle.hw_dag.specs.Admission.{IsGraph}
use Rattle.hw_dag.proofs.NodeLaws.{among_node, node_among}
use Rattle.hw_dag.proofs.SlotLaws.{slot_of, length-observations, number_cites, cited_number}
use Rattle.hw_dag.specs.Views.{is_met}
use Rattle.hw_dag.proofs.ViewLaws.{known_view, met_trans}

-- a slot with a number is one of the panorama's
pub correct_inside : (panorama : List View) (v : ℕ) (number : UnitNo) → view_at panorama v ≡ view.Correct number → v < length panorama
correct_inside [] v number e = absurd cc
correct_inside (w ∷ ws) zero number e = omega arith
correct_inside (w ∷ ws) (suc v) number e = let lt = correct_inside ws v number e in omega arith

-- ---- slot by slot

-- a panorama in numbers is at most a list of observations where each of its slots is,
pub all_met_by : (dag : UnitGraph) (low : List View) (high : List Obs) → ((v : ℕ) → v < length low → obs_at_most (graph dag) (obs_of dag (view_at low v)) (slot high v) ≡ true)
    → is_at_most (graph dag) (observations dag low) high ≡ true
unfolding is_at_most
all_met_by dag low high h =
    each_all (λ v. obs_at_most (graph dag) (slot (observations dag low) v) (slot high v)) (slots (observations dag low))
    (λ v m. ap (λ (o : Obs). obs_at_most (graph dag) o (slot high v)) (slot_of dag low v)
    ∙ h v (let lt = (range_below 0 (length (observations dag low)) v m).1 in let same = length-observations dag low in omega arith))

-- and only there
pub each_met_by : (dag : UnitGraph) (low : List View) (high : List Obs) → is_at_most (graph dag) (observations dag low) high ≡ true
    → (v : ℕ) → v < length low → obs_at_most (graph dag) (obs_of dag (view_at low v)) (slot high v) ≡ true
unfolding is_at_most
each_met_by dag low high h v lt =
    sym (ap (λ (o : Obs). obs_at_most (graph dag) o (slot high v)) (slot_of dag low v))
    ∙ all_of (λ u. obs_at_most (graph dag) (slot (observations dag low) u) (slot high u)) (slots (observations dag low)) h v
    (slots_in (observations dag low) v (let same = length-observations dag low in omega arith))

-- one panorama in numbers is at most another
abbrev pub is_below_all : UnitGraph → List View → List View → Bool
is_below_all dag low high = is_at_most (graph dag) (observations dag low) (observations dag high)

-- the panorama of the unit in a slot is at most the panorama
abbrev pub IsCitedBelow : UnitGraph → List View → ℕ → Type 0
IsCitedBelow dag panorama v = (number : UnitNo) → view_at panorama v ≡ view.Correct number → is_below_all dag (unit_at dag number.0).panorama panorama ≡ true

slot_met : (dag : UnitGraph) (w : View) (high : List View) (v : ℕ) → obs_at_most (graph dag) (obs_of dag w) (slot (observations dag high) v) ≡ is_met dag w (view_at high v)
slot_met dag w high v = ap (λ (o : Obs). obs_at_most (graph dag) (obs_of dag w) o) (slot_of dag high v)

pub all_met : (dag : UnitGraph) (low high : List View) → ((v : ℕ) → v < length low → is_met dag (view_at low v) (view_at high v) ≡ true) → is_below_all dag low high ≡ true
all_met dag low high h = all_met_by dag low (observations dag high) (λ v lt. slot_met dag (view_at low v) high v ∙ h v lt)

pub each_met : (dag : UnitGraph) (low high : List View) → is_below_all dag low high ≡ true → (v : ℕ) → v < length low → is_met dag (view_at low v) (view_at high v) ≡ true
each_met dag low high h v lt = sym (slot_met dag (view_at low v) high v) ∙ each_met_by dag low (observations dag high) h v lt

-- where one slot isn't met, the panorama isn't at most the other
pub one_not_met : (dag : UnitGraph) (low high : List View) (v : ℕ) → v < length low → is_met dag (view_at low v) (view_at high v) ≡ false → is_below_all dag low high ≡ false
one_not_met dag low high v lt unmet = elim (either (is_below_all dag low high)) [
  | inl below ↦ absurd (never_both (is_met dag (view_at low v) (view_at high v)) (each_met dag low high below v lt) unmet)
  | inr other ↦ other
]

-- ---- one step of a walk over the slots

pub met_step : (dag : UnitGraph) (low high : List View) (v : ℕ) (a b : View) (answer : Bool) → a ≡ view_at low v → b ≡ view_at high v → answer ≡ is_met dag a b → answer ≡ is_met dag (view_at low v) (view_at high v)
met_step dag low high v a b answer ea eb e = e ∙ ap (λ (w : View). is_met dag w b) ea ∙ ap (λ (w : View). is_met dag (view_at low v) w) eb

pub unmet_step : (dag : UnitGraph) (low high : List View) (v : ℕ) (a b : View) (answer : Bool) → v < length low → a ≡ view_at low v → b ≡ view_at high v → answer ≡ is_met dag a b → answer ≡ false
    → false ≡ is_below_all dag low high
unmet_step dag low high v a b answer lt ea eb e unmet = sym (one_not_met dag low high v lt (sym (met_step dag low high v a b answer ea eb e) ∙ unmet))

module _ (dag : UnitGraph) (g : IsGraph dag) where
  pub below_trans : (a b c : List View) → IsPanorama dag a → IsPanorama dag b → IsPanorama dag c → is_below_all dag a b ≡ true → is_below_all dag b c ≡ true → is_below_all dag a c ≡ true
  below_trans a b c ha hb hc h k =
      all_met dag a c (λ v lt. met_trans dag g (view_at a v) (view_at b v) (view_at c v) (known_view dag a ha v) (known_view dag b hb v) (known_view dag c hc v)
      (each_met dag a b h v lt) (each_met dag b c k v (let la = ha.length_is in let lb = hb.length_is in omega arith)))

  -- ---- consistent panoramas

  -- the panorama of the unit of a number, as the definitions see it
  unit_below : (n : ℕ) (panorama : List View) → n < count_of dag
      → is_at_most (graph dag) (node_at dag n).unit.panorama (observations dag panorama) ≡ is_below_all dag (unit_at dag n).panorama panorama
  unit_below n panorama lt = ap (λ (os : List Obs). is_at_most (graph dag) os (observations dag panorama)) (sym (g.settled n lt).observes)

  -- a panorama is consistent where those of the units in its slots are at most it,
  pub cited_below_consistent : (panorama : List View) → IsPanorama dag panorama → ((v : ℕ) → v < length panorama → IsCitedBelow dag panorama v)
      → is_consistent (graph dag) (observations dag panorama) ≡ true
  unfolding is_consistent
  cited_below_consistent panorama hp h = each_all (λ w. not (cites (observations dag panorama) w) || is_at_most (graph dag) w.unit.panorama (observations dag panorama)) (graph dag) (λ w m. at w m (cites (observations dag panorama) w) refl)
    where
      at : (w : Node) → Among w (graph dag) → (b : Bool) → cites (observations dag panorama) w ≡ b → (not b || is_at_most (graph dag) w.unit.panorama (observations dag panorama)) ≡ true
      at w m false e = refl
      at w m true e =
          let n = among_node dag w m in
          let c = cited_number dag g panorama n.0 hp.known n.1 (subst (λ (y : Node). cites (observations dag panorama) y ≡ true) (sym n.2) e) in
          let below : is_below_all dag (unit_at dag n.0).panorama panorama ≡ true = subst (λ (k : ℕ). is_below_all dag (unit_at dag k).panorama panorama ≡ true) c.3 (h c.0 (correct_inside panorama c.0 c.1 c.2) c.1 c.2) in
          subst (λ (y : Node). is_at_most (graph dag) y.unit.panorama (observations dag panorama) ≡ true) n.2 (unit_below n.0 panorama n.1 ∙ below)

  -- and only there
  pub consistent_cited_below : (panorama : List View) → IsPanorama dag panorama → is_consistent (graph dag) (observations dag panorama) ≡ true
      → (v : ℕ) → IsCitedBelow dag panorama v
  unfolding is_consistent
  consistent_cited_below panorama hp h v number e =
      let lt = hp.known v number e in
      let asked : (not (cites (observations dag panorama) (node_at dag number.0)) || is_at_most (graph dag) (node_at dag number.0).unit.panorama (observations dag panorama)) ≡ true =
      all_of (λ w. not (cites (observations dag panorama) w) || is_at_most (graph dag) w.unit.panorama (observations dag panorama)) (graph dag) h (node_at dag number.0) (node_among dag g number.0 lt) in
      sym (unit_below number.0 panorama lt)
      ∙ subst (λ (b : Bool). (not b || is_at_most (graph dag) (node_at dag number.0).unit.panorama (observations dag panorama)) ≡ true) (number_cites dag g panorama v number e) asked

  -- where that of one isn't, the panorama isn't consistent
  pub not_below_inconsistent : (panorama : List View) → IsPanorama dag panorama → (v : ℕ) (number : UnitNo) → view_at panorama v ≡ view.Correct number
      → is_below_all dag (unit_at dag number.0).panorama panorama ≡ false → is_consistent (graph dag) (observations dag panorama) ≡ false
  not_below_inconsistent panorama hp v number e above = elim (either (is_consistent (graph dag) (observations dag panorama))) [
    | inl ok ↦ absurd (never_both (is_below_all dag (unit_at dag number.0).panorama panorama) (consistent_cited_below panorama hp ok v number e) above)
    | inr other ↦ other
  ]

  pub unit_consistent : (n : ℕ) → n < count_of dag → is_consistent (graph dag) (observations dag (unit_at dag n).panorama) ≡ true
  unit_consistent n lt = subst (λ (os : List Obs). is_consistent (graph dag) os ≡ true) (sym (g.settled n lt).observes) (g.settled n lt).rules.consistent
