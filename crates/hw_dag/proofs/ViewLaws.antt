-- The order of slots in numbers.
use Rattle.std.proofs.Common.{◌≡◌, ℕ, ◌<◌, Bool, true, List, refl, sym, ap, subst, ◌∙◌}
use Rattle.hw_types.proofs.LaneLaws as lanes
use Rattle.hw_dag.specs.declared.numbers.UnitNo.{UnitNo}
use Rattle.hw_dag.specs.declared.numbers.View.{View}
use Rattle.hw_dag.specs.declared.numbers.View.TheVariants as view
use Rattle.hw_dag.specs.Dag.{UnitGraph, count_of, node_at, graph, view_at, IsPanorama}
use Rattle.hw_dag.specs.Admission.{IsGraph}
use Rattle.hw_dag.specs.Lanes.{is_lane_below}
use Rattle.hw_dag.proofs.NodeLaws.{node_among, node_found}
use Rattle.hw_dag.proofs.LaneLaws.{even_weights, all_faulty, lawful, on_lane_among, among_on_lane, on_own_lane}
use Rattle.hw_dag.specs.Views.{IsKnownView, is_met}

-- each slot of a panorama is known
pub known_view : (dag : UnitGraph) (panorama : List View) → IsPanorama dag panorama → (v : ℕ) → IsKnownView dag (view_at panorama v)
known_view dag panorama h v = go (view_at panorama v) refl
  where
    go : (w : View) → view_at panorama v ≡ w → IsKnownView dag w
    go view.Absent e = tt
    go view.Faulty e = tt
    go (view.Correct number) e = h.known v number e

-- everything is at most the mark of a fault
pub met_faulty : (dag : UnitGraph) (low : View) → is_met dag low view.Faulty ≡ true
met_faulty dag view.Absent = refl
met_faulty dag (view.Correct number) = refl
met_faulty dag view.Faulty = refl

module _ (dag : UnitGraph) (g : IsGraph dag) where
  -- two units are in the order of their lanes
  pub met_lane : (low high : UnitNo) → low.0 < count_of dag → high.0 < count_of dag → is_met dag (view.Correct low) (view.Correct high) ≡ is_lane_below dag low.0 high.0
  met_lane low high lo hi = rw (node_found dag g high.0 hi, node_found dag g low.0 lo) refl

  pub lane_itself : (n : ℕ) → n < count_of dag → is_lane_below dag n n ≡ true
  lane_itself n lt = among_on_lane dag g n n (on_own_lane dag g n lt)

  pub lane_trans : (low middle high : ℕ) → low < count_of dag → middle < count_of dag → is_lane_below dag low middle ≡ true → is_lane_below dag middle high ≡ true → is_lane_below dag low high ≡ true
  lane_trans low middle high lo mi h k =
      among_on_lane dag g low high
      (lanes.lane_trans (even_weights dag) all_faulty (graph dag) (lawful dag g) (node_at dag low) (node_at dag middle) (node_at dag high) (node_among dag g middle mi)
      (on_lane_among dag g low middle lo h) (on_lane_among dag g middle high mi k))

  pub met_itself : (w : View) → IsKnownView dag w → is_met dag w w ≡ true
  met_itself view.Absent h = refl
  met_itself view.Faulty h = refl
  met_itself (view.Correct number) h = met_lane number number h h ∙ lane_itself number.0 h

  pub met_same : (a b : View) → IsKnownView dag a → a ≡ b → is_met dag a b ≡ true
  met_same a b h e = subst (λ (w : View). is_met dag a w ≡ true) e (met_itself a h)

  pub met_trans : (a b c : View) → IsKnownView dag a → IsKnownView dag b → IsKnownView dag c → is_met dag a b ≡ true → is_met dag b c ≡ true → is_met dag a c ≡ true
  met_trans view.Absent b c ka kb kc h k = refl
  met_trans view.Faulty view.Absent c ka kb kc h k = absurd cc
  met_trans view.Faulty (view.Correct m) c ka kb kc h k = absurd cc
  met_trans view.Faulty view.Faulty c ka kb kc h k = k
  met_trans (view.Correct l) view.Absent c ka kb kc h k = absurd cc
  met_trans (view.Correct l) view.Faulty view.Absent ka kb kc h k = absurd cc
  met_trans (view.Correct l) view.Faulty (view.Correct n) ka kb kc h k = absurd cc
  met_trans (view.Correct l) view.Faulty view.Faulty ka kb kc h k = refl
  met_trans (view.Correct l) (view.Correct m) view.Absent ka kb kc h k = absurd cc
  met_trans (view.Correct l) (view.Correct m) view.Faulty ka kb kc h k = refl
  met_trans (view.Correct l) (view.Correct m) (view.Correct n) ka kb kc h k =
      met_lane l n ka kc ∙ lane_trans l.0 m.0 n.0 ka kb (sym (met_lane l m ka kb) ∙ h) (sym (met_lane m n kb kc) ∙ k)

  -- the answer for two units is that of their lanes
  pub met_by_lane : (a b : View) (low high : UnitNo) (answer : Bool) → a ≡ view.Correct low → b ≡ view.Correct high → IsKnownView dag a → IsKnownView dag b
      → answer ≡ is_lane_below dag low.0 high.0 → answer ≡ is_met dag a b
  met_by_lane a b low high answer ea eb ka kb e =
      let lo : low.0 < count_of dag = subst (λ (w : View). IsKnownView dag w) ea ka in
      let hi : high.0 < count_of dag = subst (λ (w : View). IsKnownView dag w) eb kb in
      e ∙ sym (met_lane low high lo hi) ∙ ap (λ (w : View). is_met dag w (view.Correct high)) (sym ea) ∙ ap (λ (w : View). is_met dag a w) (sym eb)
