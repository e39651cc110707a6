-- The join of two panoramas in numbers.
use Rattle.std.proofs.Common.{◌≡◌, ℕ, ◌<◌, ◌⊎◌, inl, inr, Bool, true, false, List, length, Some, refl, sym, subst, ◌∙◌, arith}
use Rattle.std.specs.Prelude.{if◌then◌else◌}
use Rattle.hw_types.specs.declared.unit.Digest.{Digest}
use Rattle.hw_types.specs.declared.unit.Obs.{Obs}
use Rattle.hw_types.specs.declared.unit.Obs.TheVariants.{Absent, Correct, Faulty}
use Rattle.hw_types.specs.Graph.{Node, is_some_and, is_faulty_mark, find_node, lane_of, is_on_lane, slot, obs_at_most, is_consistent}
use Rattle.hw_types.specs.Below.{Among}
use Rattle.hw_types.proofs.WordsLaws.{never_both, passes_some, named_among, find_node_is}
use Rattle.hw_types.proofs.LaneLaws as lanes
use Rattle.hw_dag.specs.declared.numbers.UnitNo.{UnitNo}
use Rattle.hw_dag.specs.declared.numbers.View.{View}
use Rattle.hw_dag.specs.declared.numbers.View.TheVariants as view
use Rattle.hw_dag.specs.Dag.{UnitGraph, unit_at, count_of, node_at, graph, view_at, obs_of, observations, IsPanorama}
use Rattle.hw_dag.specs.Admission.{IsGraph}
use Rattle.hw_dag.specs.Lanes.{is_lane_below}
use Rattle.hw_dag.proofs.NodeLaws.{graph_one_name, node_among, node_found}
use Rattle.hw_dag.proofs.LaneLaws.{even_weights, all_faulty, lawful, among_on_lane}
use Rattle.hw_dag.proofs.ChainLaws as chain
use Rattle.hw_dag.specs.Views.{IsKnownView, is_met}
use Rattle.hw_dag.specs.Join.{joined, IsLeastAbove}
use Rattle.hw_dag.proofs.ViewLaws.{known_view, met_faulty, met_lane, lane_itself, met_itself}
use Rattle.hw_dag.proofs.OrderLaws.{correct_inside, all_met_by, each_met_by, is_below_all, all_met, below_trans, cited_below_consistent, consistent_cited_below}

-- a number in the join is in one of the two
pub joined_from : (dag : UnitGraph) (left right : View) (number : UnitNo) → joined dag left right ≡ view.Correct number → (left ≡ view.Correct number) ⊎ (right ≡ view.Correct number)
joined_from dag view.Absent right number e = inr e
joined_from dag view.Faulty right number e = absurd cc
joined_from dag (view.Correct m) view.Absent number e = inl e
joined_from dag (view.Correct m) view.Faulty number e = absurd cc
joined_from dag (view.Correct m) (view.Correct n) number e = go (is_lane_below dag m.0 n.0) (is_lane_below dag n.0 m.0) e
  where
    go : (a b : Bool) → (if a then view.Correct n else if b then view.Correct m else view.Faulty) ≡ view.Correct number → (view.Correct m ≡ view.Correct number) ⊎ (view.Correct n ≡ view.Correct number)
    go true b h = inr h
    go false true h = inl h
    go false false h = absurd cc

-- the slots of a panorama are the joins of those of two
pub record AreJoined (dag : UnitGraph) (left right join : List View) : Type 0 where
  pub length_is : length join ≡ dag.validators
  pub slots : (v : ℕ) → v < dag.validators → view_at join v ≡ joined dag (view_at left v) (view_at right v)

module _ (dag : UnitGraph) (g : IsGraph dag) where
  -- ---- slots

  -- equal slots are their join
  pub joined_same : (a b : View) → IsKnownView dag a → a ≡ b → a ≡ joined dag a b
  joined_same a b ka e = subst (λ (w : View). a ≡ joined dag a w) e (itself a ka)
    where
      itself : (w : View) → IsKnownView dag w → w ≡ joined dag w w
      itself view.Absent k = refl
      itself view.Faulty k = refl
      itself (view.Correct m) k = rw (lane_itself dag g m.0 k) refl

  pub joined_above_left : (left right : View) → IsKnownView dag left → IsKnownView dag right → is_met dag left (joined dag left right) ≡ true
  joined_above_left view.Absent right kl kr = refl
  joined_above_left view.Faulty right kl kr = refl
  joined_above_left (view.Correct m) view.Absent kl kr = met_itself dag g (view.Correct m) kl
  joined_above_left (view.Correct m) view.Faulty kl kr = refl
  joined_above_left (view.Correct m) (view.Correct n) kl kr = go (is_lane_below dag m.0 n.0) refl (is_lane_below dag n.0 m.0)
    where
      go : (a : Bool) → is_lane_below dag m.0 n.0 ≡ a → (b : Bool) → is_met dag (view.Correct m) (if a then view.Correct n else if b then view.Correct m else view.Faulty) ≡ true
      go true e b = met_lane dag g m n kl kr ∙ e
      go false e true = met_itself dag g (view.Correct m) kl
      go false e false = refl

  pub joined_above_right : (left right : View) → IsKnownView dag left → IsKnownView dag right → is_met dag right (joined dag left right) ≡ true
  joined_above_right view.Absent right kl kr = met_itself dag g right kr
  joined_above_right view.Faulty right kl kr = met_faulty dag right
  joined_above_right (view.Correct m) view.Absent kl kr = refl
  joined_above_right (view.Correct m) view.Faulty kl kr = refl
  joined_above_right (view.Correct m) (view.Correct n) kl kr = go (is_lane_below dag m.0 n.0) (is_lane_below dag n.0 m.0) refl
    where
      go : (a b : Bool) → is_lane_below dag n.0 m.0 ≡ b → is_met dag (view.Correct n) (if a then view.Correct n else if b then view.Correct m else view.Faulty) ≡ true
      go true b e = met_itself dag g (view.Correct n) kr
      go false true e = met_lane dag g n m kr kl ∙ e
      go false false e = refl

  -- what meets a unit is on whose lane the unit lies
  meets_by_lane : (m : UnitNo) (d : Digest) → m.0 < count_of dag → obs_at_most (graph dag) (obs_of dag (view.Correct m)) (Correct d) ≡ true
      → (y : Node) × (find_node (graph dag) d ≡ Some y) × Among (node_at dag m.0) (lane_of (graph dag) y)
  meets_by_lane m d lt h =
      let y = passes_some (λ (z : Node). is_some_and (λ x. is_on_lane (graph dag) x z) (find_node (graph dag) (unit_at dag m.0).digest)) (find_node (graph dag) d) h in
      let x = passes_some (λ (x : Node). is_on_lane (graph dag) x y.0) (find_node (graph dag) (unit_at dag m.0).digest) y.2 in
      let same : x.0 ≡ node_at dag m.0 = (let e : Some x.0 ≡ Some (node_at dag m.0) = sym x.1 ∙ node_found dag g m.0 lt in cc) in (
        y.0,
        y.1,
        named_among (graph dag) (lane_of (graph dag) y.0) (node_at dag m.0) (graph_one_name dag)
            (lanes.lane_within (even_weights dag) all_faulty (graph dag) (lawful dag g) y.0) (node_among dag g m.0 lt) (subst (λ (z : Node). is_on_lane (graph dag) z y.0 ≡ true) same x.2),
      )

  -- Only the mark of a fault is above two units that aren't on one lane.
  apart_faulty : (m n : UnitNo) (o : Obs) → m.0 < count_of dag → n.0 < count_of dag → is_lane_below dag m.0 n.0 ≡ false → is_lane_below dag n.0 m.0 ≡ false
      → obs_at_most (graph dag) (obs_of dag (view.Correct m)) o ≡ true → obs_at_most (graph dag) (obs_of dag (view.Correct n)) o ≡ true → is_faulty_mark o ≡ true
  apart_faulty m n Absent lm ln a b h k = absurd cc
  apart_faulty m n Faulty lm ln a b h k = refl
  apart_faulty m n (Correct d) lm ln a b h k =
      let x = meets_by_lane m d lm h in
      let y = meets_by_lane n d ln k in
      let same : y.0 ≡ x.0 = (let e : Some y.0 ≡ Some x.0 = sym y.1 ∙ x.1 in cc) in
      let other : Among (node_at dag n.0) (lane_of (graph dag) x.0) = subst (λ (z : Node). Among (node_at dag n.0) (lane_of (graph dag) z)) same y.2 in
      elim (chain.lane_order (even_weights dag) all_faulty (graph dag) (lawful dag g) x.0 (node_at dag m.0) (node_at dag n.0) (find_node_is (graph dag) x.0 d x.1).0 x.2 other) [
        | inl low ↦ absurd (never_both (is_lane_below dag m.0 n.0) (among_on_lane dag g m.0 n.0 low) a)
        | inr high ↦ absurd (never_both (is_lane_below dag n.0 m.0) (among_on_lane dag g n.0 m.0 high) b)
      ]

  pub joined_least : (left right : View) (o : Obs) → IsKnownView dag left → IsKnownView dag right → obs_at_most (graph dag) (obs_of dag left) o ≡ true → obs_at_most (graph dag) (obs_of dag right) o ≡ true
      → obs_at_most (graph dag) (obs_of dag (joined dag left right)) o ≡ true
  joined_least view.Absent right o kl kr h k = k
  joined_least view.Faulty right o kl kr h k = h
  joined_least (view.Correct m) view.Absent o kl kr h k = h
  joined_least (view.Correct m) view.Faulty o kl kr h k = k
  joined_least (view.Correct m) (view.Correct n) o kl kr h k = go (is_lane_below dag m.0 n.0) refl (is_lane_below dag n.0 m.0) refl
    where
      go : (a : Bool) → is_lane_below dag m.0 n.0 ≡ a → (b : Bool) → is_lane_below dag n.0 m.0 ≡ b
          → obs_at_most (graph dag) (obs_of dag (if a then view.Correct n else if b then view.Correct m else view.Faulty)) o ≡ true
      go true e b f = k
      go false e true f = h
      go false e false f = apart_faulty m n o kl kr e f h k

  -- ---- panoramas

  module _ (left right join : List View) (hl : IsPanorama dag left) (hr : IsPanorama dag right) (slots_are : AreJoined dag left right join) where
    number_from : (v : ℕ) (number : UnitNo) → view_at join v ≡ view.Correct number → (view_at left v ≡ view.Correct number) ⊎ (view_at right v ≡ view.Correct number)
    number_from v number e =
        joined_from dag (view_at left v) (view_at right v) number (sym (slots_are.slots v (let lt = correct_inside join v number e in let same = slots_are.length_is in omega arith)) ∙ e)

    pub join_panorama : IsPanorama dag join
    join_panorama = record {
      length_is = slots_are.length_is;
      known = λ v number e. elim (number_from v number e) [ inl l ↦ hl.known v number l | inr r ↦ hr.known v number r ];
      creator_is = λ v number e. elim (number_from v number e) [ inl l ↦ hl.creator_is v number l | inr r ↦ hr.creator_is v number r ];
    }

    join_above_left : is_below_all dag left join ≡ true
    join_above_left = all_met dag left join (λ v lt. subst (λ (w : View). is_met dag (view_at left v) w ≡ true) (sym (slots_are.slots v (let same = hl.length_is in omega arith)))
        (joined_above_left (view_at left v) (view_at right v) (known_view dag left hl v) (known_view dag right hr v)))

    join_above_right : is_below_all dag right join ≡ true
    join_above_right = all_met dag right join (λ v lt. subst (λ (w : View). is_met dag (view_at right v) w ≡ true) (sym (slots_are.slots v (let same = hr.length_is in omega arith)))
        (joined_above_right (view_at left v) (view_at right v) (known_view dag left hl v) (known_view dag right hr v)))

    pub join_least : IsLeastAbove (graph dag) (observations dag left) (observations dag right) (observations dag join)
    join_least = record {
      above_left = join_above_left;
      above_right = join_above_right;
      least = λ other h k. all_met_by dag join other (λ v lt. subst (λ (w : View). obs_at_most (graph dag) (obs_of dag w) (slot other v) ≡ true) (sym (slots_are.slots v (let same = slots_are.length_is in omega arith)))
          (joined_least (view_at left v) (view_at right v) (slot other v) (known_view dag left hl v) (known_view dag right hr v)
          (each_met_by dag left other h v (let a = slots_are.length_is in let b = hl.length_is in omega arith))
          (each_met_by dag right other k v (let a = slots_are.length_is in let b = hr.length_is in omega arith))));
    }

    pub join_consistent : is_consistent (graph dag) (observations dag left) ≡ true → is_consistent (graph dag) (observations dag right) ≡ true → is_consistent (graph dag) (observations dag join) ≡ true
    join_consistent cl cr = cited_below_consistent dag g join join_panorama (λ v lt number e. elim (number_from v number e) [
      | inl l ↦ below_trans dag g (unit_at dag number.0).panorama left join (g.settled number.0 (hl.known v number l)).panorama_is hl join_panorama (consistent_cited_below dag g left hl cl v number l) join_above_left
      | inr r ↦ below_trans dag g (unit_at dag number.0).panorama right join (g.settled number.0 (hr.known v number r)).panorama_is hr join_panorama (consistent_cited_below dag g right hr cr v number r) join_above_right
    ])
