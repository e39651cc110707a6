-- Lanes of a graph by number.
use Rattle.std.proofs.Common.{◌≡◌, ℕ, ◌<◌, ◌⊎◌, inl, inr, Bool, true, false, List, replicate, refl, sym, ap, subst, ◌∙◌, arith, eqb-true, eq-eqb}
use Rattle.std.proofs.lemmas.List.{length-replicate}
use Rattle.std.specs.Prelude.{nat_eq}
use Rattle.hw_types.specs.declared.unit.Obs.TheVariants.{Faulty}
use Rattle.hw_types.specs.declared.unit.Digest.{Digest}
use Rattle.hw_types.specs.Graph.{Node, digest_eq, node_eq, past, lane_of, is_strictly_below}
use Rattle.hw_types.specs.Below.{Among}
use Rattle.hw_types.specs.Lawful.{IsLawful}
use Rattle.hw_types.proofs.ClosureLaws.{Within}
use Rattle.hw_types.proofs.PastLaws.{or_cases, or_left, or_right, reach_within}
use Rattle.hw_types.proofs.StableLaws.{both_ways}
use Rattle.hw_types.proofs.SettledLaws.{digest_self}
use Rattle.hw_types.proofs.WordsLaws.{among_is, named_among, never_both, either}
use Rattle.hw_types.proofs.LaneLaws as lanes
use Rattle.hw_dag.specs.declared.numbers.UnitNo.{UnitNo}
use Rattle.hw_dag.specs.declared.numbers.View.{View}
use Rattle.hw_dag.specs.declared.numbers.View.TheVariants as view
use Rattle.hw_dag.specs.Dag.{UnitGraph, unit_at, count_of, node_at, graph, creator_of, seq_of, view_at, obs_of}
use Rattle.hw_dag.specs.Admission.{IsGraph}
use Rattle.hw_dag.specs.Lanes.{IsLaneAt, is_lane_below, is_seen}
use Rattle.hw_dag.specs.Laws.{SeenIsOnLane, ApartIsFork, SeenByEntry}
use Rattle.hw_dag.proofs.NodeLaws.{graph_one_name, among_node, node_among, same_number, same_node}
use Rattle.hw_dag.proofs.SlotLaws.{slot_at, obs_number}
use Rattle.hw_dag.proofs.LawfulLaws.{graph_lawful}
use Rattle.hw_dag.proofs.ChainLaws as chain

-- weights that serve wherever none are asked for
abbrev pub even_weights : UnitGraph → List ℕ
even_weights dag = replicate dag.validators 1

abbrev pub all_faulty : ℕ → Bool
all_faulty v = true

module _ (dag : UnitGraph) (g : IsGraph dag) where
  pub lawful : IsLawful (even_weights dag) all_faulty (graph dag)
  lawful = graph_lawful dag g (even_weights dag) (length-replicate dag.validators 1)

  abbrev pub lane : ℕ → List Node
  lane n = lane_of (graph dag) (node_at dag n)

  abbrev pub history : ℕ → List Node
  history n = past (graph dag) (unit_at dag n).signed.unit.panorama

  pub lane_in : (n : ℕ) → Within (lane n) (graph dag)
  lane_in n = lanes.lane_within (even_weights dag) all_faulty (graph dag) lawful (node_at dag n)

  -- ---- tests and members

  pub on_lane_among : (low high : ℕ) → low < count_of dag → is_lane_below dag low high ≡ true → Among (node_at dag low) (lane high)
  on_lane_among low high lt t = named_among (graph dag) (lane high) (node_at dag low) (graph_one_name dag) (lane_in high) (node_among dag g low lt) t

  pub among_on_lane : (low high : ℕ) → Among (node_at dag low) (lane high) → is_lane_below dag low high ≡ true
  among_on_lane low high m = among_is (node_at dag low) (lane high) m

  pub on_own_lane : (n : ℕ) → n < count_of dag → Among (node_at dag n) (lane n)
  on_own_lane n lt = lanes.on_own_lane (even_weights dag) all_faulty (graph dag) lawful (node_at dag n) (node_among dag g n lt)

  pub seen_cases : (low high : ℕ) → low < count_of dag → high < count_of dag → is_seen dag low high ≡ true → (low ≡ high) ⊎ Among (node_at dag low) (history high)
  seen_cases low high lo hi t = elim (or_cases (node_eq (node_at dag low) (node_at dag high)) (is_strictly_below (graph dag) (node_at dag low) (node_at dag high)) t) [
    | inl same ↦ inl (same_number dag g low high lo hi same)
    | inr below ↦ inr (named_among (graph dag) (history high) (node_at dag low) (graph_one_name dag) (reach_within _ _ (graph dag)) (node_among dag g low lo) below)
  ]

  pub seen_itself : (n : ℕ) → is_seen dag n n ≡ true
  seen_itself n = or_left (node_eq (node_at dag n) (node_at dag n)) (is_strictly_below (graph dag) (node_at dag n) (node_at dag n)) (digest_self (unit_at dag n).digest)

  pub past_seen : (low high : ℕ) → Among (node_at dag low) (history high) → is_seen dag low high ≡ true
  past_seen low high m = or_right (node_eq (node_at dag low) (node_at dag high)) (is_strictly_below (graph dag) (node_at dag low) (node_at dag high)) (among_is (node_at dag low) (history high) m)

  pub same_seen : (low high : ℕ) → low ≡ high → is_seen dag low high ≡ true
  same_seen low high e = subst (λ (n : ℕ). is_seen dag low n ≡ true) e (seen_itself low)

  -- ---- laws

  pub lane_is_seen : (low high : ℕ) → low < count_of dag → high < count_of dag → is_lane_below dag low high ≡ true → is_seen dag low high ≡ true
  lane_is_seen low high lo hi t = elim (lanes.lane_below (even_weights dag) all_faulty (graph dag) lawful (node_at dag high) (node_at dag low) (node_among dag g high hi) (on_lane_among low high lo t)) [
    | inl same ↦ same_seen low high (g.distinct low high lo hi (ap (λ (x : Node). x.digest) same))
    | inr m ↦ past_seen low high m
  ]

  pub seen_on_lane : (low high : ℕ) → low < count_of dag → high < count_of dag → creator_of (unit_at dag low) ≡ creator_of (unit_at dag high) → is_seen dag low high ≡ true → is_lane_below dag low high ≡ true
  seen_on_lane low high lo hi same t = elim (seen_cases low high lo hi t) [
    | inl e ↦ among_on_lane low high (subst (λ (n : ℕ). Among (node_at dag low) (lane n)) e (on_own_lane low lo))
    | inr m ↦ among_on_lane low high (lanes.below_on_lane (even_weights dag) all_faulty (graph dag) lawful (node_at dag high) (node_at dag low) (node_among dag g high hi) same m)
  ]

  -- what is strictly below, by the entry of its creator
  pub seen_entry : (low high : ℕ) → low < count_of dag → high < count_of dag → Among (node_at dag low) (history high)
      → (view_at (unit_at dag high).panorama (creator_of (unit_at dag low)) ≡ view.Faulty)
      ⊎ ((number : UnitNo) × (view_at (unit_at dag high).panorama (creator_of (unit_at dag low)) ≡ view.Correct number) × (is_lane_below dag low number.0 ≡ true))
  seen_entry low high lo hi m = elim (lanes.entry_lane (even_weights dag) all_faulty (graph dag) lawful (node_at dag high) (node_at dag low) (node_among dag g high hi) m) [
    | inl marked ↦ inl (faulty_view (view_at (unit_at dag high).panorama (creator_of (unit_at dag low))) (sym (slot_at dag g high (creator_of (unit_at dag low)) hi) ∙ marked))
    | inr y ↦
        let k = obs_number dag (view_at (unit_at dag high).panorama (creator_of (unit_at dag low))) y.0.digest (sym (slot_at dag g high (creator_of (unit_at dag low)) hi) ∙ y.2) in
        let lt = (g.settled high hi).panorama_is.known (creator_of (unit_at dag low)) k.0 k.1 in
        let same : node_at dag k.0.0 ≡ y.0 = graph_one_name dag (node_at dag k.0.0) y.0 y.0.digest (node_among dag g k.0.0 lt) y.1 (subst (λ (d : Digest). digest_eq d y.0.digest ≡ true) (sym k.2) (digest_self y.0.digest)) (digest_self y.0.digest) in
        inr (k.0, k.1, among_on_lane low k.0.0 (subst (λ (z : Node). Among (node_at dag low) (lane_of (graph dag) z)) (sym same) y.3))
  ]
    where
      faulty_view : (w : View) → obs_of dag w ≡ Faulty → w ≡ view.Faulty
      faulty_view view.Faulty e = refl
      faulty_view view.Absent e = absurd cc
      faulty_view (view.Correct number) e = absurd cc

pub seen_is_on_lane : SeenIsOnLane
seen_is_on_lane dag g low high lo hi same = both_ways (is_seen dag low high) (is_lane_below dag low high) (seen_on_lane dag g low high lo hi same) (lane_is_seen dag g low high lo hi)

pub seen_by_entry : SeenByEntry
seen_by_entry dag g low high lo hi other t = elim (seen_cases dag g low high lo hi t) [
  | inl e ↦ absurd (other e)
  | inr m ↦ seen_entry dag g low high lo hi m
]

pub apart_is_fork : ApartIsFork
apart_is_fork dag g m n lm ln same apart =
    let f = lanes.incomparable_fork (even_weights dag) all_faulty (graph dag) (lawful dag g) (node_at dag m) (node_at dag n) (node_among dag g m lm) (node_among dag g n ln) same apart in
    let i = among_node dag f.0 f.2 in
    let j = among_node dag f.1 f.3 in (
      i.0,
      j.0,
      i.1,
      j.1,
      (λ e. never_both (node_eq f.0 f.1) (subst (λ (z : Node). node_eq f.0 z ≡ true) (sym i.2 ∙ ap (λ (k : ℕ). node_at dag k) e ∙ j.2) (digest_self f.0.digest)) f.7),
      ap (λ (z : Node). z.unit.creator) i.2 ∙ f.4,
      ap (λ (z : Node). z.unit.creator) j.2 ∙ f.5,
      ap (λ (z : Node). z.unit.seq) i.2 ∙ f.6 ∙ sym (ap (λ (z : Node). z.unit.seq) j.2),
    )

module _ (dag : UnitGraph) (g : IsGraph dag) where
  -- a unit isn't on the lane of one with a lower number
  pub never_higher : (low high : ℕ) → low < count_of dag → high < count_of dag → seq_of (unit_at dag high) < seq_of (unit_at dag low) → is_lane_below dag low high ≡ false
  never_higher low high lo hi less = elim (either (is_lane_below dag low high)) [
    | inl t ↦ absurd (elim (lanes.lane_seq (even_weights dag) all_faulty (graph dag) (lawful dag g) (node_at dag high) (node_at dag low) (node_among dag g high hi) (on_lane_among dag g low high lo t)) [
      | inl same ↦ let e = ap (λ (x : Node). x.unit.seq) same in omega arith
      | inr lower ↦ omega arith
    ])
    | inr f ↦ f
  ]

  -- a unit is on a lane where it is the one of its number there
  pub on_lane_by_number : (low high found : ℕ) → low < count_of dag → high < count_of dag → IsLaneAt dag high (seq_of (unit_at dag low)) found → nat_eq found low ≡ is_lane_below dag low high
  on_lane_by_number low high found lo hi f = both_ways (nat_eq found low) (is_lane_below dag low high)
      (λ t. subst (λ (n : ℕ). is_lane_below dag n high ≡ true) (eqb-true found low t) f.on_lane)
      (λ t. eq-eqb found low (same_node dag g found low f.known lo
      (chain.lane_one (even_weights dag) all_faulty (graph dag) (lawful dag g) (node_at dag high) (node_at dag found) (node_at dag low) (node_among dag g high hi)
      (on_lane_among dag g found high f.known f.on_lane) (on_lane_among dag g low high lo t) f.seq_is)))
