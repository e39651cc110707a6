-- The tables with one unit more.
use Rattle.std.proofs.Common.{◌≡◌, ℕ, ◌-◌, ◌^◌, ◌<◌, ◌≤◌, inl, inr, false, List, [], ◌∷◌, ◌++◌, length, Option, Some, None, refl, sym, ap, subst, ◌∙◌, arith, length-append}
use Rattle.std.specs.Prelude.{unwrap_or}
use Rattle.std.specs.List.{list_any}
use Rattle.std.proofs.lemmas.List.{get_or_push, map-append}
use Rattle.hw_types.specs.declared.unit.Digest.{Digest}
use Rattle.hw_types.specs.Graph.{digest_eq}
use Rattle.hw_types.specs.Below.{Among}
use Rattle.hw_types.proofs.SettledLaws.{digest_same}
use Rattle.hw_types.proofs.EntryLaws.{map_among}
use Rattle.hw_types.proofs.WordsLaws.{either, none_any}
use Rattle.hw_dag.specs.declared.numbers.UnitNo.{UnitNo}
use Rattle.hw_dag.specs.Dag.{SettledUnit, UnitGraph, stand_in, unit_at, count_of, seq_of}
use Rattle.hw_dag.specs.Admission.{IsNew, IsGraph, with_unit}
use Rattle.hw_dag.specs.Skips.{IsDepth, LeadsDown}
use Rattle.hw_dag.specs.Tables.{IsKept, predecessor_of, names_of, lanes_of, chains_of}
use Rattle.hw_dag.proofs.PlaceLaws.{among_place}
use Rattle.hw_dag.proofs.DepthLaws.{height_at, lane_depth, chain_depth, lanes_down, chains_down, length-lanes, length-chains, lane_at_is, chain_at_is}
use Rattle.hw_dag.proofs.SkipLaws.{last_first, last_next, depth_bound, down_more}

module _ (dag : UnitGraph) (u : SettledUnit) (names : List Digest) (lanes chains : List (Option UnitNo)) (k : IsKept dag names lanes chains) (more : IsGraph (with_unit dag u)) where
  abbrev later : UnitGraph
  later = with_unit dag u

  last_at : unit_at later (count_of dag) ≡ u
  last_at = get_or_push dag.units u stand_in (count_of dag) refl

  last_known : count_of dag < count_of later
  last_known = let longer = length-append dag.units (u ∷ []) in omega arith

  lanes_more : lanes_of later.units ≡ lanes ++ predecessor_of u ∷ []
  lanes_more = map-append predecessor_of dag.units (u ∷ []) ∙ ap (λ (bs : List (Option UnitNo)). bs ++ predecessor_of u ∷ []) (sym k.lanes_are)

  chains_more : chains_of later.units ≡ chains ++ u.parent ∷ []
  chains_more = map-append (λ (v : SettledUnit). v.parent) dag.units (u ∷ []) ∙ ap (λ (bs : List (Option UnitNo)). bs ++ u.parent ∷ []) (sym k.chains_are)

  kept_lanes_down : LeadsDown lanes
  kept_lanes_down = subst LeadsDown (sym k.lanes_are) (lanes_down dag k.graph_is)

  kept_chains_down : LeadsDown chains
  kept_chains_down = subst LeadsDown (sym k.chains_are) (chains_down dag k.graph_is)

  many_lanes : length lanes ≡ count_of dag
  many_lanes = ap length k.lanes_are ∙ length-lanes dag k.graph_is

  many_chains : length chains ≡ count_of dag
  many_chains = ap length k.chains_are ∙ length-chains dag k.graph_is

  lane_deep : IsDepth (lanes ++ predecessor_of u ∷ []) (length lanes) (seq_of u)
  lane_deep =
      subst (λ (n : ℕ). IsDepth (lanes ++ predecessor_of u ∷ []) n (seq_of u)) (sym many_lanes)
      (subst (λ (v : SettledUnit). IsDepth (lanes ++ predecessor_of u ∷ []) (count_of dag) (seq_of v)) last_at
      (subst (λ (bs : List (Option UnitNo)). IsDepth bs (count_of dag) (seq_of (unit_at later (count_of dag)))) lanes_more (lane_depth later more (count_of dag) last_known)))

  chain_deep : IsDepth (chains ++ u.parent ∷ []) (length chains) (unwrap_or u.height 0)
  chain_deep =
      subst (λ (n : ℕ). IsDepth (chains ++ u.parent ∷ []) n (unwrap_or u.height 0)) (sym many_chains)
      (subst (λ (v : SettledUnit). IsDepth (chains ++ u.parent ∷ []) (count_of dag) (unwrap_or v.height 0)) last_at
      (subst (λ (bs : List (Option UnitNo)). IsDepth bs (count_of dag) (height_at later more (count_of dag))) chains_more (chain_depth later more (count_of dag) last_known)))

  pub lane_known : (p : UnitNo) → predecessor_of u ≡ Some p → p.0 < length lanes
  lane_known p e =
      let below = lanes_down later more (count_of dag) p (let len = length-lanes later more in let lt = last_known in omega arith)
      (lane_at_is later more (count_of dag) last_known ∙ ap predecessor_of last_at ∙ e) in
      let len = many_lanes in omega arith

  pub lane_first : predecessor_of u ≡ None → seq_of u ≡ 0
  lane_first e = last_first lanes kept_lanes_down (predecessor_of u) (seq_of u) e lane_deep

  pub lane_next : (p : UnitNo) → predecessor_of u ≡ Some p → (1 ≤ seq_of u) × IsDepth lanes p.0 (seq_of u - 1)
  lane_next p e = last_next lanes kept_lanes_down (predecessor_of u) (seq_of u) p e (lane_known p e) lane_deep

  pub lane_small : seq_of u < 2 ^ 32
  lane_small =
      let known = length-append lanes (predecessor_of u ∷ []) in
      let low = depth_bound (lanes ++ predecessor_of u ∷ []) (down_more lanes kept_lanes_down (predecessor_of u) lane_known) (length lanes) (seq_of u) (omega arith) lane_deep in
      let many = many_lanes in
      let bounded = k.graph_is.bounded in
      omega arith

  pub chain_known : (p : UnitNo) → u.parent ≡ Some p → p.0 < length chains
  chain_known p e =
      let below = chains_down later more (count_of dag) p (let len = length-chains later more in let lt = last_known in omega arith)
      (chain_at_is later more (count_of dag) last_known ∙ ap (λ (v : SettledUnit). v.parent) last_at ∙ e) in
      let len = many_chains in omega arith

  pub chain_first : u.parent ≡ None → unwrap_or u.height 0 ≡ 0
  chain_first e = last_first chains kept_chains_down u.parent (unwrap_or u.height 0) e chain_deep

  pub chain_next : (p : UnitNo) → u.parent ≡ Some p → (1 ≤ unwrap_or u.height 0) × IsDepth chains p.0 (unwrap_or u.height 0 - 1)
  chain_next p e = last_next chains kept_chains_down u.parent (unwrap_or u.height 0) p e (chain_known p e) chain_deep

  pub chain_small : unwrap_or u.height 0 < 2 ^ 32
  chain_small =
      let known = length-append chains (u.parent ∷ []) in
      let low = depth_bound (chains ++ u.parent ∷ []) (down_more chains kept_chains_down u.parent chain_known) (length chains) (unwrap_or u.height 0) (omega arith) chain_deep in
      let many = many_chains in
      let bounded = k.graph_is.bounded in
      omega arith

  -- the tables of the graph with the unit
  pub kept_more : IsKept later (names ++ u.digest ∷ []) (lanes ++ predecessor_of u ∷ []) (chains ++ u.parent ∷ [])
  kept_more = record {
    graph_is = more;
    names_are = ap (λ (ds : List Digest). ds ++ u.digest ∷ []) k.names_are ∙ sym (map-append (λ (v : SettledUnit). v.digest) dag.units (u ∷ []));
    lanes_are = sym lanes_more;
    chains_are = sym chains_more;
  }

  -- a new name isn't among those that are kept
  pub name_fresh : (d : Digest) → IsNew dag d → list_any (digest_eq d) names ≡ false
  name_fresh d fresh = subst (λ (ds : List Digest). list_any (digest_eq d) ds ≡ false) (sym k.names_are) (none_any (digest_eq d) (names_of dag.units) each)
    where
      each : (e : Digest) → Among e (names_of dag.units) → digest_eq d e ≡ false
      each e m =
          let v = map_among (λ (v : SettledUnit). v.digest) e dag.units m in
          let n = among_place stand_in v.0 dag.units v.1 in
          let name : (unit_at dag n.0).digest ≡ e = ap (λ (v : SettledUnit). v.digest) n.2 ∙ v.2 in
          elim (either (digest_eq d e)) [
            | inl t ↦ absurd (fresh n.0 n.1 (name ∙ sym (digest_same d e t)))
            | inr f ↦ f
          ]

-- equal tables are as good
pub kept_as : (validators spare : ℕ) (units units' : List SettledUnit) (names names' : List Digest) (lanes lanes' chains chains' : List (Option UnitNo))
    → IsKept (record { validators = validators; spare = spare; units = units }) names lanes chains → units' ≡ units → names' ≡ names → lanes' ≡ lanes → chains' ≡ chains
    → IsKept (record { validators = validators; spare = spare; units = units' }) names' lanes' chains'
kept_as validators spare units units' names names' lanes lanes' chains chains' k a b c d =
    let e : IsKept (record { validators = validators; spare = spare; units = units' }) names lanes chains = subst (λ (us : List SettledUnit). IsKept (record { validators = validators; spare = spare; units = us }) names lanes chains) (sym a) k in
    record { graph_is = e.graph_is; names_are = b ∙ e.names_are; lanes_are = c ∙ e.lanes_are; chains_are = d ∙ e.chains_are }
