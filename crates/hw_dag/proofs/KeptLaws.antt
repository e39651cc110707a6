-- Look-ups in the tables that are kept beside a graph.
use Rattle.std.proofs.Common.{◌≡◌, ℕ, ◌-◌, ◌<◌, ◌≤◌, Bool, true, false, List, length, get_or, Option, Some, sym, ap, subst, ◌∙◌, arith}
use Rattle.std.specs.Prelude.{unwrap_or, position}
use Rattle.std.specs.List.{list_any}
use Rattle.std.proofs.lemmas.List.{get_or-map, length-map}
use Rattle.std.proofs.lemmas.List.Quantifiers.{position-Some}
use Rattle.hw_types.proofs.WordsLaws.{any_none, never_both}
use Rattle.hw_types.specs.declared.unit.Digest.{Digest}
use Rattle.hw_types.specs.Votes.{is_block}
use Rattle.hw_dag.specs.declared.numbers.UnitNo.{UnitNo}
use Rattle.hw_dag.specs.Dag.{SettledUnit, UnitGraph, stand_in, unit_at, count_of, node_at, seq_of}
use Rattle.hw_dag.specs.Admission.{IsGraph, IsNew}
use Rattle.hw_dag.specs.Lanes.{IsLaneAt, IsAncestorAt}
use Rattle.hw_dag.specs.Skips.{IsDepth, LeadsDown, back_from}
use Rattle.hw_dag.specs.Tables.{IsKept, lanes_of, chains_of}
use Rattle.hw_dag.proofs.PlaceLaws.{place_is_among}
use Rattle.hw_dag.proofs.DepthLaws.{lane_depth, lane_found, chain_depth, chain_found, length-lanes, length-chains, chain_at_is, parent_earlier}
use Rattle.hw_dag.proofs.SkipLaws.{depth_bound}

module _ (dag : UnitGraph) (names : List Digest) (lanes chains : List (Option UnitNo)) (k : IsKept dag names lanes chains) where
  pub kept_lanes : length lanes ≡ count_of dag
  kept_lanes = ap length k.lanes_are ∙ length-lanes dag k.graph_is

  pub kept_chains : length chains ≡ count_of dag
  kept_chains = ap length k.chains_are ∙ length-chains dag k.graph_is

  pub kept_lane_depth : (n s : ℕ) → n < count_of dag → s ≡ seq_of (unit_at dag n) → IsDepth lanes n s
  kept_lane_depth n s lt e =
      subst (λ (bs : List (Option UnitNo)). IsDepth bs n s) (sym k.lanes_are) (subst (λ (d : ℕ). IsDepth (lanes_of dag.units) n d) (sym e) (lane_depth dag k.graph_is n lt))

  pub kept_lane_found : (n s t m : ℕ) → n < count_of dag → s ≡ seq_of (unit_at dag n) → t ≤ s → back_from lanes (s - t) n ≡ Some m → IsLaneAt dag n t m
  kept_lane_found n s t m lt e le h =
      let way : back_from (lanes_of dag.units) (s - t) n ≡ Some m = subst (λ (bs : List (Option UnitNo)). back_from bs (s - t) n ≡ Some m) k.lanes_are h in
      let same : seq_of (unit_at dag n) - (s - t) ≡ t = omega arith in
      subst (λ (x : ℕ). IsLaneAt dag n x m) same (lane_found dag k.graph_is (s - t) n m lt way (omega arith))

  pub kept_chain_depth : (n h : ℕ) → n < count_of dag → h ≡ unwrap_or (unit_at dag n).height 0 → IsDepth chains n h
  kept_chain_depth n h lt e =
      subst (λ (bs : List (Option UnitNo)). IsDepth bs n h) (sym k.chains_are) (subst (λ (d : ℕ). IsDepth (chains_of dag.units) n d) (sym e) (chain_depth dag k.graph_is n lt))

  pub kept_chain_found : (n h t m : ℕ) → n < count_of dag → is_block (node_at dag n) ≡ true → h ≡ unwrap_or (unit_at dag n).height 0 → t ≤ h → back_from chains (h - t) n ≡ Some m → IsAncestorAt dag n t m
  kept_chain_found n h t m lt block e le f =
      let way : back_from (chains_of dag.units) (h - t) n ≡ Some m = subst (λ (bs : List (Option UnitNo)). back_from bs (h - t) n ≡ Some m) k.chains_are f in
      let same : unwrap_or (unit_at dag n).height 0 - (h - t) ≡ t = omega arith in
      subst (λ (x : ℕ). IsAncestorAt dag n x m) same (chain_found dag k.graph_is (h - t) n m lt block way (omega arith))

-- a unit is no higher than its number
pub height_bound : (dag : UnitGraph) → IsGraph dag → (n : ℕ) → n < count_of dag → unwrap_or (unit_at dag n).height 0 ≤ n
height_bound dag g n lt =
    let len = length-chains dag g in
    let down : LeadsDown (chains_of dag.units) = λ m p less e. let known : m < count_of dag = omega arith in parent_earlier dag g m p known (sym (chain_at_is dag g m known) ∙ e) in
    depth_bound (chains_of dag.units) down n (unwrap_or (unit_at dag n).height 0) (omega arith) (chain_depth dag g n lt)

-- ---- names

module _ (dag : UnitGraph) (names : List Digest) (lanes chains : List (Option UnitNo)) (k : IsKept dag names lanes chains) (test : Digest → Bool) (d : Digest) where
  name_at : (n : ℕ) → n < count_of dag → get_or names n d ≡ (unit_at dag n).digest
  name_at n lt = ap (λ (ds : List Digest). get_or ds n d) k.names_are ∙ get_or-map (λ (u : SettledUnit). u.digest) dag.units n stand_in d lt

  length-names : length names ≡ count_of dag
  length-names = ap length k.names_are ∙ (simp length-map)

  -- where no name passes the test for this one, it is new
  pub none_named : list_any test names ≡ false → test d ≡ true → IsNew dag d
  none_named none passes n lt e =
      let len = length-names in
      never_both (test d) passes (ap test (sym e ∙ sym (name_at n lt)) ∙ any_none test names none (get_or names n d) (place_is_among d names n (omega arith)))

  -- and where one does, it is a unit's
  pub one_named : (i : ℕ) → ((e : Digest) → test e ≡ true → d ≡ e) → position test names ≡ Some i → (i < count_of dag) × ((unit_at dag i).digest ≡ d)
  one_named i exact h =
      let p = position-Some test names i d h in
      let len = length-names in
      let lt : i < count_of dag = (let less = p.0 in omega arith) in
      (lt, sym (name_at i lt) ∙ sym (exact (get_or names i d) p.1))
