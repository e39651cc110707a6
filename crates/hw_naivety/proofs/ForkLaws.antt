-- Naive forks by number and by name.
use Rattle.std.proofs.Common.{◌≡◌, ℕ, ◌<◌, ◌≤◌, ◌⊎◌, inl, inr, Bool, true, false, List, [], None, refl, sym, subst, ◌∙◌, arith, eqb-true, eq-eqb}
use Rattle.std.specs.Prelude.{◌||◌, ◌&&◌, not, ◌==◌}
use Rattle.std.specs.List.{list_any}
use Rattle.hw_types.specs.declared.unit.Digest.{Digest}
use Rattle.hw_types.specs.declared.unit.Obs.{Obs}
use Rattle.hw_types.specs.Graph.{Node, past, are_comparable}
use Rattle.hw_types.specs.Below.{Among}
use Rattle.hw_types.specs.Rules.{has_naive_fork, is_naive, naive_of}
use Rattle.hw_types.proofs.ClosureLaws.{Within, Among-filter, filter-Among}
use Rattle.hw_types.proofs.PastLaws.{or_cases, or_left, or_right}
use Rattle.hw_types.proofs.WordsLaws.{none_any, any_none, and_none, not_false, never_both}
use Rattle.hw_dag.specs.declared.numbers.UnitNo.{UnitNo}
use Rattle.hw_dag.specs.declared.numbers.View.{View}
use Rattle.hw_dag.specs.declared.numbers.View.TheVariants as view
use Rattle.hw_dag.specs.Dag.{UnitGraph, unit_at, count_of, node_at, graph, creator_of, view_at, observations, IsPanorama}
use Rattle.hw_dag.specs.Admission.{IsGraph}
use Rattle.hw_dag.specs.Lanes.{is_lane_below, is_seen}
use Rattle.hw_dag.proofs.NodeLaws.{among_node}
use Rattle.hw_dag.proofs.LaneLaws.{lane_is_seen, seen_on_lane, seen_is_on_lane}
use Rattle.hw_naivety.specs.declared.fork.NaiveFork.{NaiveFork}
use Rattle.hw_naivety.specs.Tips.{IsNaive, IsOnLaneOf, LanesAre}
use Rattle.hw_naivety.specs.Forks.{IsNaiveFork, IsForkless}
use Rattle.hw_naivety.specs.Naivety.{IsNaiveOf, HasNoNaiveFork, IsLeastNaiveFork}
use Rattle.hw_naivety.proofs.BelowLaws.{under_within, comparable_under, number_of_naive, naive_of_number, lane_order}

and_not : (a c : Bool) → (a ≡ true → c ≡ true) → (a && not c) ≡ false
and_not true true f = refl
and_not true false f = absurd (let e = f refl in cc)
and_not false c f = refl

or_false : (a b : Bool) → a ≡ false → b ≡ false → (a || b) ≡ false
or_false false false e f = refl
or_false true b e f = absurd cc
or_false false true e f = absurd cc

-- a unit with this panorama and this endorsed list
abbrev pub with_list : UnitGraph → List View → List Digest → Node
with_list dag panorama endorsed = record {
  digest = record { 0 = [] };
  unit = record { instance = record { 0 = [] }; creator = 0; seq = 0; time = 0; exponent = 0; panorama = observations dag panorama; value = None; endorsed = endorsed };
}

module _ (dag : UnitGraph) (g : IsGraph dag) (panorama : List View) (panorama_is : IsPanorama dag panorama) (u : Node) (observes : observations dag panorama ≡ u.unit.panorama) where
  abbrev Naive : ℕ → ℕ → Type 0
  Naive v n = IsNaive dag panorama u.unit.endorsed v n

  -- of any two naive units of the creator one is on the other's lane
  abbrev pub IsOrdered : ℕ → Type 0
  IsOrdered v = (m n : ℕ) → Naive v m → Naive v n → (is_lane_below dag m n ≡ true) ⊎ (is_lane_below dag n m ≡ true)

  abbrev below_it : List Node
  below_it = past (graph dag) u.unit.panorama

  comparable_it : (x y : Node) → Among x below_it → Among y below_it → are_comparable (graph dag) x y ≡ are_comparable below_it x y
  comparable_it = subst (λ (os : List Obs). (x y : Node) → Among x (past (graph dag) os) → Among y (past (graph dag) os) → are_comparable (graph dag) x y ≡ are_comparable (past (graph dag) os) x y) observes
      (comparable_under dag g panorama panorama_is.known)

  within_it : Within below_it (graph dag)
  within_it = subst (λ (os : List Obs). Within (past (graph dag) os) (graph dag)) observes (under_within dag g panorama panorama_is.known)

  pub naive_at : (v : ℕ) (x : Node) → IsNaiveOf (graph dag) u v x → (n : ℕ) × (n < count_of dag) × (node_at dag n ≡ x) × Naive v n
  naive_at v x h =
      let k = among_node dag x (within_it x h.below) in
      (k.0, k.1, k.2, number_of_naive dag g panorama panorama_is.known u observes v k.0 k.1 (subst (λ (y : Node). IsNaiveOf (graph dag) u v y) (sym k.2) h))

  pub order_comparable : (m n : ℕ) → m < count_of dag → n < count_of dag → (is_lane_below dag m n ≡ true) ⊎ (is_lane_below dag n m ≡ true) → are_comparable (graph dag) (node_at dag m) (node_at dag n) ≡ true
  order_comparable m n lm ln (inl t) = or_left (is_seen dag m n) (is_seen dag n m) (lane_is_seen dag g m n lm ln t)
  order_comparable m n lm ln (inr t) = or_right (is_seen dag m n) (is_seen dag n m) (lane_is_seen dag g n m ln lm t)

  pub ordered_comparable : (v : ℕ) → IsOrdered v → (x y : Node) → IsNaiveOf (graph dag) u v x → IsNaiveOf (graph dag) u v y → are_comparable (graph dag) x y ≡ true
  ordered_comparable v order x y hx hy =
      let m = naive_at v x hx in
      let n = naive_at v y hy in
      let t = order_comparable m.0 n.0 m.1 n.1 (order m.0 n.0 m.3 n.3) in
      subst (λ (z : Node). are_comparable (graph dag) x z ≡ true) n.2 (subst (λ (z : Node). are_comparable (graph dag) z (node_at dag n.0) ≡ true) m.2 t)

  abbrev naive_it : List Node
  naive_it = naive_of below_it u.unit.endorsed

  pub ordered_forkless : ((v : ℕ) → IsOrdered v) → HasNoNaiveFork (graph dag) u
  unfolding has_naive_fork
  ordered_forkless order = none_any (λ x. list_any (λ y. (x.unit.creator == y.unit.creator) && not (are_comparable below_it x y)) naive_it) naive_it
      (λ x mx. none_any (λ y. (x.unit.creator == y.unit.creator) && not (are_comparable below_it x y)) naive_it (λ y my.
      let ax = Among-filter (is_naive below_it u.unit.endorsed) x below_it mx in
      let ay = Among-filter (is_naive below_it u.unit.endorsed) y below_it my in
      and_not (x.unit.creator == y.unit.creator) (are_comparable below_it x y) (λ t.
      sym (comparable_it x y ax.0 ay.0) ∙ ordered_comparable x.unit.creator (order x.unit.creator) x y (record { below = ax.0; naive = ax.1; creator_is = refl })
      (record { below = ay.0; naive = ay.1; creator_is = sym (eqb-true x.unit.creator y.unit.creator t) }))))

  pub forkless_ordered : HasNoNaiveFork (graph dag) u → (v : ℕ) → IsOrdered v
  unfolding has_naive_fork
  forkless_ordered none v m n hm hn =
      let xm = naive_of_number dag g panorama panorama_is.known u observes v m hm in
      let xn = naive_of_number dag g panorama panorama_is.known u observes v n hn in
      let fm = filter-Among (is_naive below_it u.unit.endorsed) (node_at dag m) below_it xm.below xm.naive in
      let fn = filter-Among (is_naive below_it u.unit.endorsed) (node_at dag n) below_it xn.below xn.naive in
      let outer = any_none (λ x. list_any (λ y. (x.unit.creator == y.unit.creator) && not (are_comparable below_it x y)) naive_it) naive_it none (node_at dag m) fm in
      let inner = any_none (λ y. ((node_at dag m).unit.creator == y.unit.creator) && not (are_comparable below_it (node_at dag m) y)) naive_it outer (node_at dag n) fn in
      let same : (creator_of (unit_at dag m) == creator_of (unit_at dag n)) ≡ true = eq-eqb (creator_of (unit_at dag m)) (creator_of (unit_at dag n)) (hm.creator_is ∙ sym hn.creator_is) in
      let comparable = not_false (are_comparable below_it (node_at dag m) (node_at dag n)) (and_none (creator_of (unit_at dag m) == creator_of (unit_at dag n)) (not (are_comparable below_it (node_at dag m) (node_at dag n))) inner same) in
      elim (or_cases (is_seen dag m n) (is_seen dag n m) (comparable_it (node_at dag m) (node_at dag n) xm.below xn.below ∙ comparable)) [
        | inl t ↦ inl (seen_on_lane dag g m n hm.known hn.known (hm.creator_is ∙ sym hn.creator_is) t)
        | inr t ↦ inr (seen_on_lane dag g n m hn.known hm.known (hn.creator_is ∙ sym hm.creator_is) t)
      ]

  pub fork_unordered : (v : ℕ) (fork : NaiveFork) → IsNaiveFork dag panorama u.unit.endorsed v fork → IsOrdered v → ⊥
  fork_unordered v fork f order = elim (order fork.left.0 fork.right.0 f.left f.right) [
    | inl t ↦ never_both (is_lane_below dag fork.left.0 fork.right.0) t f.left_apart
    | inr t ↦ never_both (is_lane_below dag fork.right.0 fork.left.0) t f.right_apart
  ]

  pub forkless_by_number : HasNoNaiveFork (graph dag) u → IsForkless dag panorama u.unit.endorsed
  forkless_by_number none v fork f = fork_unordered v fork f (forkless_ordered none v)

  fork_apart : (m n : ℕ) → m < count_of dag → n < count_of dag → creator_of (unit_at dag m) ≡ creator_of (unit_at dag n) → is_lane_below dag m n ≡ false → is_lane_below dag n m ≡ false
      → are_comparable (graph dag) (node_at dag m) (node_at dag n) ≡ false
  fork_apart m n lm ln e s t = or_false (is_seen dag m n) (is_seen dag n m) (seen_is_on_lane dag g m n lm ln e ∙ s) (seen_is_on_lane dag g n m ln lm (sym e) ∙ t)

  pub least_fork : (v : ℕ) (fork : NaiveFork) → IsNaiveFork dag panorama u.unit.endorsed v fork → ((w : ℕ) → w < v → IsOrdered w) → IsLeastNaiveFork dag u fork
  least_fork v fork f order =
      let same = f.creator_is in
      record {
        left_known = f.left.known;
        right_known = f.right.known;
        left = subst (λ (w : ℕ). IsNaiveOf (graph dag) u w (node_at dag fork.left.0)) (sym same) (naive_of_number dag g panorama panorama_is.known u observes v fork.left.0 f.left);
        right = subst (λ (w : ℕ). IsNaiveOf (graph dag) u w (node_at dag fork.right.0)) (sym same) (naive_of_number dag g panorama panorama_is.known u observes v fork.right.0 f.right);
        apart = fork_apart fork.left.0 fork.right.0 f.left.known f.right.known (f.left.creator_is ∙ sym f.right.creator_is) f.left_apart f.right_apart;
        least = λ w x y less hx hy. ordered_comparable w (order w (subst (λ (k : ℕ). w < k) same less)) x y hx hy;
      }

  -- ---- creators whose noted units are on one lane

  one_lane : (w : View) (m n : ℕ) → m < count_of dag → n < count_of dag → ((last : UnitNo) → w ≡ view.Correct last → last.0 < count_of dag) → (w ≡ view.Faulty → ⊥) → IsOnLaneOf dag m w → IsOnLaneOf dag n w
      → (is_lane_below dag m n ≡ true) ⊎ (is_lane_below dag n m ≡ true)
  one_lane view.Absent m n lm ln known other s t = absurd s
  one_lane (view.Correct last) m n lm ln known other s t = lane_order dag g last.0 m n (known last refl) lm ln s t
  one_lane view.Faulty m n lm ln known other s t = absurd (other refl)

  pub lane_ordered : (lanes : List View) (count v : ℕ) → LanesAre dag count lanes → count ≡ count_of dag → (view_at lanes v ≡ view.Faulty → ⊥) → IsOrdered v
  lane_ordered lanes count v are all other m n hm hn = one_lane (view_at lanes v) m n hm.known hn.known (λ last e. are.known v last e) other (at m hm) (at n hn)
    where
      at : (k : ℕ) → Naive v k → IsOnLaneOf dag k (view_at lanes v)
      at k h = subst (λ (w : ℕ). IsOnLaneOf dag k (view_at lanes w)) h.creator_is (are.on_lane k (subst (λ (c : ℕ). k < c) (sym all) h.known))

  -- no other creators have units
  pub beyond_ordered : (v : ℕ) → dag.validators ≤ v → IsOrdered v
  beyond_ordered v above m n hm hn = absurd (let less = (g.settled m hm.known).creator_is in let e = hm.creator_is in omega arith)
