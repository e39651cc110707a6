-- Lanes by number, and the starts of lanes as pruning has them.
use Rattle.std.proofs.Common.{◌≡◌, ℕ, ◌+◌, ◌≤◌, ◌<◌, ◌⊎◌, inl, inr, Bool, true, false, cond, max, List, Option, Some, None, refl, sym, ap, subst, ◌∙◌, arith}
use Rattle.std.specs.Prelude.{nat_le, is_some}
use Rattle.std.proofs.lemmas.Bool.{cases_lt, le-leb, lt-leb}
use Rattle.hw_types.specs.Graph.{Node, latest, observed, lane_of}
use Rattle.hw_types.specs.Below.{Among}
use Rattle.hw_types.proofs.LaneLaws as lanes
use Rattle.hw_dag.specs.declared.numbers.UnitNo.{UnitNo}
use Rattle.hw_dag.specs.declared.numbers.View.{View}
use Rattle.hw_dag.specs.declared.numbers.View.TheVariants as view
use Rattle.hw_dag.specs.Dag.{UnitGraph, unit_at, count_of, node_at, graph, creator_of, seq_of, view_at, obs_of, observations, IsPanorama}
use Rattle.hw_dag.specs.Admission.{IsGraph}
use Rattle.hw_dag.specs.Tables.{predecessor_of, lanes_of}
use Rattle.hw_dag.specs.Lanes.{is_lane_below}
use Rattle.hw_dag.proofs.NodeLaws.{among_node, node_among, same_node}
use Rattle.hw_dag.proofs.SlotLaws.{slot_of, latest_of}
use Rattle.hw_dag.proofs.SkipLaws.{depth_root}
use Rattle.hw_dag.proofs.DepthLaws.{number_some, lane_at_is, lane_depth, seq_next, follows_own}
use Rattle.hw_dag.proofs.LaneLaws.{even_weights, all_faulty, lawful, lane, lane_in, on_lane_among, among_on_lane, on_own_lane}
use Rattle.hw_dag.proofs.ChainLaws as chain
use Rattle.hw_safety.specs.Pruned.{least_from, begun}
use Rattle.hw_safety.proofs.PrunedLaws.{from_passes, from_least}
use Rattle.hw_horizon.specs.Starts.{IsStart, IsSlotStart}

-- ---- what a start of pruning is

-- a unit that doesn't pass is before the start
least_above : (test : Node → Bool) (xs : List Node) (x : Node) → Among x xs → test x ≡ false → x.unit.seq < least_from test xs
least_above test xs x m f = elim (cases_lt x.unit.seq (least_from test xs)) [
  | inl less ↦ less
  | inr le ↦ absurd (let bad : false ≡ true = sym f ∙ from_passes test xs x m le in cc)
]

begun_some : (units : List Node) (floor : ℕ) (test : Node → Bool) (u : Node) (start : ℕ) → floor ≤ start → start ≤ u.unit.seq
    → ((x : Node) → Among x (lane_of units u) → start ≤ x.unit.seq → test x ≡ true)
    → (start ≡ floor) ⊎ ((x : Node) × Among x (lane_of units u) × (test x ≡ false) × (x.unit.seq + 1 ≡ start)) → begun units floor test (Some u) ≡ Some start
unfolding begun
begun_some units floor test u start low high each least =
    let most = from_least test (lane_of units u) start each in
    let exact : max floor (least_from test (lane_of units u)) ≡ start = elim least [
      | inl e ↦ omega arith
      | inr x ↦ (let above = least_above test (lane_of units u) x.0 x.1 x.2 in let e = x.3 in omega arith)
    ] in
    let fits : nat_le (max floor (least_from test (lane_of units u))) u.unit.seq ≡ true = le-leb _ _ (omega arith) in
    ap (λ (b : Bool). cond b (Some (max floor (least_from test (lane_of units u)))) None) fits ∙ ap (λ (n : ℕ). Some n) exact

begun_none : (units : List Node) (floor : ℕ) (test : Node → Bool) (u : Node) → Among u (lane_of units u) → (u.unit.seq < floor) ⊎ (test u ≡ false) → begun units floor test (Some u) ≡ None
unfolding begun
begun_none units floor test u m why =
    let beyond : u.unit.seq < max floor (least_from test (lane_of units u)) = elim why [
      | inl less ↦ omega arith
      | inr f ↦ (let above = least_above test (lane_of units u) u m f in omega arith)
    ] in
    let no : nat_le (max floor (least_from test (lane_of units u))) u.unit.seq ≡ false = lt-leb _ _ beyond in
    ap (λ (b : Bool). cond b (Some (max floor (least_from test (lane_of units u)))) None) no

begun_is_some : (units : List Node) (floor : ℕ) (test : Node → Bool) (u : Node) → floor ≤ u.unit.seq → ((x : Node) → Among x (lane_of units u) → u.unit.seq ≤ x.unit.seq → test x ≡ true)
    → is_some (begun units floor test (Some u)) ≡ true
unfolding begun
begun_is_some units floor test u low each =
    let most = from_least test (lane_of units u) u.unit.seq each in
    let fits : nat_le (max floor (least_from test (lane_of units u))) u.unit.seq ≡ true = le-leb _ _ (omega arith) in
    ap (λ (b : Bool). is_some (cond b (Some (max floor (least_from test (lane_of units u)))) None)) fits

begun_nowhere : (units : List Node) (floor : ℕ) (test : Node → Bool) → begun units floor test None ≡ None
unfolding begun
begun_nowhere units floor test = refl

module _ (dag : UnitGraph) (g : IsGraph dag) where
  -- ---- lanes by number

  pub lane_self : (n : ℕ) → n < count_of dag → is_lane_below dag n n ≡ true
  lane_self n lt = among_on_lane dag g n n (on_own_lane dag g n lt)

  -- a lane has one unit of each number
  pub lane_same : (tip m n : ℕ) → tip < count_of dag → m < count_of dag → n < count_of dag → is_lane_below dag m tip ≡ true → is_lane_below dag n tip ≡ true → seq_of (unit_at dag m) ≡ seq_of (unit_at dag n) → m ≡ n
  lane_same tip m n lt lm ln s t e = same_node dag g m n lm ln
      (chain.lane_one (even_weights dag) all_faulty (graph dag) (lawful dag g) (node_at dag tip) (node_at dag m) (node_at dag n) (node_among dag g tip lt)
      (on_lane_among dag g m tip lm s) (on_lane_among dag g n tip ln t) e)

  -- no unit of a lane has a greater number than its last one
  pub lane_most : (tip n : ℕ) → tip < count_of dag → n < count_of dag → is_lane_below dag n tip ≡ true → seq_of (unit_at dag n) ≤ seq_of (unit_at dag tip)
  lane_most tip n lt ln t = elim (lanes.lane_seq (even_weights dag) all_faulty (graph dag) (lawful dag g) (node_at dag tip) (node_at dag n) (node_among dag g tip lt) (on_lane_among dag g n tip ln t)) [
    | inl same ↦ (let e = ap (λ (x : Node). x.unit.seq) same in omega arith)
    | inr less ↦ omega arith
  ]

  -- of two units of a lane the one of the lesser number is on the lane of the other
  pub lane_lower : (tip m n : ℕ) → tip < count_of dag → m < count_of dag → n < count_of dag → is_lane_below dag m tip ≡ true → is_lane_below dag n tip ≡ true
      → seq_of (unit_at dag m) ≤ seq_of (unit_at dag n) → is_lane_below dag m n ≡ true
  lane_lower tip m n lt lm ln s t le = among_on_lane dag g m n
      (chain.lane_chain (even_weights dag) all_faulty (graph dag) (lawful dag g) (node_at dag tip) (node_at dag m) (node_at dag n) (node_among dag g tip lt)
      (on_lane_among dag g m tip lm s) (on_lane_among dag g n tip ln t) le)

  -- what is on the lane of a unit of a lane is on that lane
  pub lane_above : (tip m n : ℕ) → m < count_of dag → n < count_of dag → is_lane_below dag m n ≡ true → is_lane_below dag n tip ≡ true → is_lane_below dag m tip ≡ true
  lane_above tip m n lm ln s t = among_on_lane dag g m tip
      (lanes.lane_trans (even_weights dag) all_faulty (graph dag) (lawful dag g) (node_at dag m) (node_at dag n) (node_at dag tip) (node_among dag g n ln)
      (on_lane_among dag g m n lm s) (on_lane_among dag g n tip ln t))

  -- the unit before it
  pub record IsBefore (tip n before : ℕ) : Type 0 where
    pub known : before < count_of dag
    pub on_lane : is_lane_below dag before tip ≡ true
    pub next : seq_of (unit_at dag n) ≡ seq_of (unit_at dag before) + 1

  pub before_is : (tip n : ℕ) (p : UnitNo) → n < count_of dag → is_lane_below dag n tip ≡ true → predecessor_of (unit_at dag n) ≡ Some p → IsBefore tip n p.0
  before_is tip n p ln t e =
      let own = number_some (view_at (unit_at dag n).panorama (creator_of (unit_at dag n))) p e in
      let known = (g.settled n ln).panorama_is.known (creator_of (unit_at dag n)) p own in
      record {
        known = known;
        on_lane = among_on_lane dag g p.0 tip (chain.lane_further (even_weights dag) all_faulty (graph dag) (lawful dag g) (node_at dag tip) (node_at dag p.0) (node_at dag n)
            (on_lane_among dag g n tip ln t) (node_among dag g p.0 known) (follows_own dag g n p ln own));
        next = seq_next dag g n p ln own;
      }

  pub first_is : (n : ℕ) → n < count_of dag → predecessor_of (unit_at dag n) ≡ None → seq_of (unit_at dag n) ≡ 0
  first_is n lt e = depth_root (lanes_of dag.units) n (seq_of (unit_at dag n)) (lane_at_is dag g n lt ∙ e) (lane_depth dag g n lt)

  -- ---- the start of a lane is that of pruning

  -- the two tests agree on the lane
  abbrev pub SameOn : ℕ → (Node → Bool) → (ℕ → Bool) → Type 0
  SameOn tip test passes = (n : ℕ) → n < count_of dag → is_lane_below dag n tip ≡ true → test (node_at dag n) ≡ passes n

  pub start_is_begun : (tip floor : ℕ) (passes : ℕ → Bool) (test : Node → Bool) → tip < count_of dag → SameOn tip test passes → (o : Option ℕ) → IsStart dag tip floor passes o
      → begun (graph dag) floor test (Some (node_at dag tip)) ≡ o
  start_is_begun tip floor passes test lt same None s = begun_none (graph dag) floor test (node_at dag tip) (on_own_lane dag g tip lt) (elim s [
    | inl less ↦ inl less
    | inr f ↦ inr (same tip lt (lane_self tip lt) ∙ f)
  ])
  start_is_begun tip floor passes test lt same (Some start) s = begun_some (graph dag) floor test (node_at dag tip) start s.above s.reached
      (λ x m le.
      let n = among_node dag x (lane_in dag g tip x m) in
      let t = among_on_lane dag g n.0 tip (subst (λ (z : Node). Among z (lane dag g tip)) (sym n.2) m) in
      let there : start ≤ seq_of (unit_at dag n.0) = subst (λ (z : Node). start ≤ z.unit.seq) (sym n.2) le in
      subst (λ (z : Node). test z ≡ true) n.2 (same n.0 n.1 t ∙ s.each n.0 n.1 t there))
      (elim s.least [
        | inl e ↦ inl e
        | inr n ↦ inr (node_at dag n.0, on_lane_among dag g n.0 tip n.1 n.2, same n.0 n.1 n.2 ∙ n.3, n.4)
      ])

  -- a lane has a start where its last unit passes and doesn't come before the floor
  pub tip_begins : (tip floor : ℕ) (passes : ℕ → Bool) (test : Node → Bool) → tip < count_of dag → SameOn tip test passes → floor ≤ seq_of (unit_at dag tip) → passes tip ≡ true
      → is_some (begun (graph dag) floor test (Some (node_at dag tip))) ≡ true
  tip_begins tip floor passes test lt same low p = begun_is_some (graph dag) floor test (node_at dag tip) low
      (λ x m le.
      let n = among_node dag x (lane_in dag g tip x m) in
      let t = among_on_lane dag g n.0 tip (subst (λ (z : Node). Among z (lane dag g tip)) (sym n.2) m) in
      let there : seq_of (unit_at dag tip) ≤ seq_of (unit_at dag n.0) = subst (λ (z : Node). seq_of (unit_at dag tip) ≤ z.unit.seq) (sym n.2) le in
      let most = lane_most tip n.0 lt n.1 t in
      let last : n.0 ≡ tip = lane_same tip n.0 tip lt n.1 lt t (lane_self tip lt) (omega arith) in
      subst (λ (z : Node). test z ≡ true) n.2 (same n.0 n.1 t ∙ ap passes last ∙ p))

  -- and so is that of a slot
  pub slot_start_is_begun : (panorama : List View) → IsPanorama dag panorama → (v floor : ℕ) (passes : ℕ → Bool) (test : Node → Bool)
      → ((tip : UnitNo) → view_at panorama v ≡ view.Correct tip → SameOn tip.0 test passes) → (o : Option ℕ) → IsSlotStart dag (view_at panorama v) floor passes o
      → begun (graph dag) floor test (latest (graph dag) (observations dag panorama) v) ≡ o
  slot_start_is_begun panorama ip v floor passes test same o s = go (view_at panorama v) refl s
    where
      nowhere : latest (graph dag) (observations dag panorama) v ≡ None → o ≡ None → begun (graph dag) floor test (latest (graph dag) (observations dag panorama) v) ≡ o
      nowhere e none = ap (begun (graph dag) floor test) e ∙ begun_nowhere (graph dag) floor test ∙ sym none

      go : (w : View) → view_at panorama v ≡ w → IsSlotStart dag w floor passes o → begun (graph dag) floor test (latest (graph dag) (observations dag panorama) v) ≡ o
      go view.Absent e h = nowhere (ap (observed (graph dag)) (slot_of dag panorama v ∙ ap (obs_of dag) e)) h
      go view.Faulty e h = nowhere (ap (observed (graph dag)) (slot_of dag panorama v ∙ ap (obs_of dag) e)) h
      go (view.Correct tip) e h =
          ap (begun (graph dag) floor test) (latest_of dag g panorama v tip e (ip.known v tip e))
          ∙ start_is_begun tip.0 floor passes test (ip.known v tip e) (same tip e) o h
