-- Lanes and parents as chains that lead back.
use Rattle.std.proofs.Common.{◌≡◌, ℕ, zero, suc, ◌+◌, ◌-◌, ◌<◌, ◌≤◌, inl, inr, Bool, true, length, Option, Some, None, refl, sym, ap, subst, ◌∙◌, arith}
use Rattle.std.specs.Prelude.{unwrap_or, if◌then◌else◌}
use Rattle.std.proofs.lemmas.List.{get_or-map, length-map}
use Rattle.hw_types.specs.declared.unit.Obs.{Obs}
use Rattle.hw_types.specs.Graph.{observes, slot, follows, is_absent, is_faulty_mark, observed}
use Rattle.hw_types.specs.Votes.{is_block}
use Rattle.hw_types.proofs.SettledLaws.{digest_self}
use Rattle.hw_types.proofs.WordsLaws.{either, never_both}
use Rattle.hw_types.proofs.LaneLaws as lanes
use Rattle.hw_dag.specs.declared.numbers.UnitNo.{UnitNo}
use Rattle.hw_dag.specs.declared.numbers.View.{View}
use Rattle.hw_dag.specs.declared.numbers.View.TheVariants as view
use Rattle.hw_dag.specs.Dag.{SettledUnit, UnitGraph, stand_in, unit_at, count_of, node_at, graph, creator_of, seq_of, view_at, obs_of}
use Rattle.hw_dag.specs.Admission.{IsGraph, height_above, fork_given}
use Rattle.hw_dag.specs.Lanes.{IsLaneAt, itself, further, IsAncestorAt}
use Rattle.hw_dag.specs.Skips.{back_at, back_from, IsDepth, LeadsDown}
use Rattle.hw_dag.specs.Tables.{number_of, predecessor_of, lanes_of, chains_of}
use Rattle.hw_dag.proofs.NodeLaws.{node_among}
use Rattle.hw_dag.proofs.SlotLaws.{slot_at, observed_number}
use Rattle.hw_dag.proofs.ChainLaws.{lane_further}
use Rattle.hw_dag.proofs.LaneLaws.{even_weights, all_faulty, lawful, on_lane_among, among_on_lane, on_own_lane}
use Rattle.hw_dag.proofs.SkipLaws.{back_from-none, first_step, root_depth, next_depth}

-- the slot of a unit's own creator
abbrev own_view : SettledUnit → View
own_view u = view_at u.panorama (creator_of u)

pub number_some : (w : View) (number : UnitNo) → number_of w ≡ Some number → w ≡ view.Correct number
number_some view.Absent number e = absurd cc
number_some view.Faulty number e = absurd cc
number_some (view.Correct other) number e = let same : other ≡ number = cc in ap view.Correct same

module _ (dag : UnitGraph) (g : IsGraph dag) where
  -- ---- lanes

  pub length-lanes : length (lanes_of dag.units) ≡ count_of dag
  length-lanes = simp length-map

  pub lane_at_is : (n : ℕ) → n < count_of dag → back_at (lanes_of dag.units) n ≡ predecessor_of (unit_at dag n)
  lane_at_is n lt = get_or-map predecessor_of dag.units n stand_in None lt

  -- a unit stands one behind its predecessor
  own_slot_is : (n : ℕ) → n < count_of dag → slot (unit_at dag n).signed.unit.panorama (creator_of (unit_at dag n)) ≡ obs_of dag (own_view (unit_at dag n))
  own_slot_is n lt = slot_at dag g n (creator_of (unit_at dag n)) lt

  own_known : (n : ℕ) (p : UnitNo) → n < count_of dag → own_view (unit_at dag n) ≡ view.Correct p → p.0 < count_of dag
  own_known n p lt e = (g.settled n lt).panorama_is.known (creator_of (unit_at dag n)) p e

  own_earlier : (n : ℕ) (p : UnitNo) → n < count_of dag → own_view (unit_at dag n) ≡ view.Correct p → p.0 < n
  own_earlier n p lt e = (g.settled n lt).earlier (creator_of (unit_at dag n)) p e

  pub seq_next : (n : ℕ) (p : UnitNo) → n < count_of dag → own_view (unit_at dag n) ≡ view.Correct p → seq_of (unit_at dag n) ≡ seq_of (unit_at dag p.0) + 1
  seq_next n p lt e = (g.settled n lt).rules.next (node_at dag p.0) (ap (observed (graph dag)) (own_slot_is n lt ∙ ap (obs_of dag) e) ∙ observed_number dag g p (own_known n p lt e))

  pub follows_own : (n : ℕ) (p : UnitNo) → n < count_of dag → own_view (unit_at dag n) ≡ view.Correct p → follows (node_at dag n) (node_at dag p.0) ≡ true
  follows_own n p lt e = ap (λ (o : Obs). observes o (unit_at dag p.0).digest) (own_slot_is n lt ∙ ap (obs_of dag) e) ∙ digest_self (unit_at dag p.0).digest

  pub lanes_down : LeadsDown (lanes_of dag.units)
  lanes_down n p less e =
      let len = length-lanes in
      let lt : n < count_of dag = omega arith in
      own_earlier n p lt (number_some (own_view (unit_at dag n)) p (sym (lane_at_is n lt) ∙ e))

  lane_depth_within : (fuel n : ℕ) → n < fuel → n < count_of dag → IsDepth (lanes_of dag.units) n (seq_of (unit_at dag n))
  lane_depth_within zero n less lt = absurd (omega arith)
  lane_depth_within (suc fuel) n less lt = go (own_view (unit_at dag n)) refl (lane_depth_within fuel)
    where
      go : (w : View) → own_view (unit_at dag n) ≡ w → ((m : ℕ) → m < fuel → m < count_of dag → IsDepth (lanes_of dag.units) m (seq_of (unit_at dag m))) → IsDepth (lanes_of dag.units) n (seq_of (unit_at dag n))
      go view.Absent e later =
          subst (λ (d : ℕ). IsDepth (lanes_of dag.units) n d) (sym ((g.settled n lt).rules.first (ap is_absent (own_slot_is n lt ∙ ap (obs_of dag) e))))
          (root_depth (lanes_of dag.units) n (lane_at_is n lt ∙ ap number_of e))
      go view.Faulty e later = absurd (never_both _ (ap is_faulty_mark (own_slot_is n lt ∙ ap (obs_of dag) e)) (g.settled n lt).rules.unmarked)
      go (view.Correct p) e later =
          let earlier = own_earlier n p lt e in
          let next = seq_next n p lt e in
          let same : suc (seq_of (unit_at dag p.0)) ≡ seq_of (unit_at dag n) = omega arith in
          subst (λ (d : ℕ). IsDepth (lanes_of dag.units) n d) same
          (next_depth (lanes_of dag.units) n (seq_of (unit_at dag p.0)) p (lane_at_is n lt ∙ ap number_of e) (later p.0 (omega arith) (own_known n p lt e)))

  pub lane_depth : (n : ℕ) → n < count_of dag → IsDepth (lanes_of dag.units) n (seq_of (unit_at dag n))
  lane_depth n lt = lane_depth_within (suc n) n (omega arith) lt

  -- steps back lead along the lane
  pub lane_found : (k n m : ℕ) → n < count_of dag → back_from (lanes_of dag.units) k n ≡ Some m → k ≤ seq_of (unit_at dag n) → IsLaneAt dag n (seq_of (unit_at dag n) - k) m
  lane_found zero n m lt h le =
      let same : n ≡ m = (let s : Some n ≡ Some m = sym (back_from-none (lanes_of dag.units) n) ∙ h in cc) in
      subst (λ (x : ℕ). IsLaneAt dag n (seq_of (unit_at dag n) - 0) x) same (record { known = lt; earlier = omega arith; on_lane = among_on_lane dag g n n (on_own_lane dag g n lt); seq_is = omega arith })
  lane_found (suc k) n m lt h le =
      let p = first_step (lanes_of dag.units) k n m h in
      let own = number_some (own_view (unit_at dag n)) p.0 (sym (lane_at_is n lt) ∙ p.1) in
      let known = own_known n p.0 lt own in
      let earlier = own_earlier n p.0 lt own in
      let next = seq_next n p.0 lt own in
      let rest = lane_found k p.0.0 m known p.2 (omega arith) in
      let before = rest.earlier in
      let less : seq_of (unit_at dag p.0.0) - k ≡ seq_of (unit_at dag n) - suc k = omega arith in
      let step = lane_further (even_weights dag) all_faulty (graph dag) (lawful dag g) (node_at dag n) (node_at dag p.0.0) (node_at dag n) (on_own_lane dag g n lt) (node_among dag g p.0.0 known) (follows_own n p.0 lt own) in
      record {
        known = rest.known;
        earlier = omega arith;
        on_lane = among_on_lane dag g m n (lanes.lane_trans (even_weights dag) all_faulty (graph dag) (lawful dag g) (node_at dag m) (node_at dag p.0.0) (node_at dag n) (node_among dag g p.0.0 known) (on_lane_among dag g m p.0.0 rest.known rest.on_lane) step);
        seq_is = rest.seq_is ∙ less;
      }

  -- ---- parents

  pub chain_at_is : (n : ℕ) → n < count_of dag → back_at (chains_of dag.units) n ≡ (unit_at dag n).parent
  chain_at_is n lt = get_or-map (λ (u : SettledUnit). u.parent) dag.units n stand_in None lt

  pub length-chains : length (chains_of dag.units) ≡ count_of dag
  length-chains = simp length-map

  -- a unit with a parent is a block, and the parent an earlier one
  parent_block : (n : ℕ) (p : UnitNo) → n < count_of dag → (unit_at dag n).parent ≡ Some p → is_block (node_at dag n) ≡ true
  parent_block n p lt e = elim (either (is_block (node_at dag n))) [
    | inl t ↦ t
    | inr f ↦ absurd (let none : None ≡ Some p = sym ((g.settled n lt).no_parent f) ∙ e in cc)
  ]

  given : (n : ℕ) (p : UnitNo) → n < count_of dag → (unit_at dag n).parent ≡ Some p → fork_given (unit_at dag n) ≡ Some p
  given n p lt e = ap (λ (b : Bool). if b then (unit_at dag n).parent else Some (unit_at dag n).vote) (parent_block n p lt e) ∙ e

  pub parent_earlier : (n : ℕ) (p : UnitNo) → n < count_of dag → (unit_at dag n).parent ≡ Some p → p.0 < n
  parent_earlier n p lt e = (g.settled n lt).fork_earlier p (given n p lt e)

  pub chains_down : LeadsDown (chains_of dag.units)
  chains_down n p less e = let len = length-chains in let lt : n < count_of dag = omega arith in parent_earlier n p lt (sym (chain_at_is n lt) ∙ e)

  pub parent_is_block : (n : ℕ) (p : UnitNo) → n < count_of dag → (unit_at dag n).parent ≡ Some p → is_block (node_at dag p.0) ≡ true
  parent_is_block n p lt e = (g.settled n lt).fork.block p (given n p lt e)

  pub height_is : (n : ℕ) → n < count_of dag → is_block (node_at dag n) ≡ true → (unit_at dag n).height ≡ Some (height_above dag (unit_at dag n).parent)
  height_is n lt t = (g.settled n lt).height_is ∙ ap (λ (b : Bool). if b then Some (height_above dag (unit_at dag n).parent) else None) t

  abbrev pub height_at : ℕ → ℕ
  height_at n = unwrap_or (unit_at dag n).height 0

  pub height_next : (n : ℕ) (p : UnitNo) → n < count_of dag → (unit_at dag n).parent ≡ Some p → height_at n ≡ height_at p.0 + 1
  height_next n p lt e = ap (λ (o : Option ℕ). unwrap_or o 0) (height_is n lt (parent_block n p lt e)) ∙ ap (height_above dag) e

  height_first : (n : ℕ) → n < count_of dag → (unit_at dag n).parent ≡ None → height_at n ≡ 0
  height_first n lt e = elim (either (is_block (node_at dag n))) [
    | inl t ↦ ap (λ (o : Option ℕ). unwrap_or o 0) (height_is n lt t) ∙ ap (height_above dag) e
    | inr f ↦ ap (λ (o : Option ℕ). unwrap_or o 0) ((g.settled n lt).height_is ∙ ap (λ (b : Bool). if b then Some (height_above dag (unit_at dag n).parent) else None) f)
  ]

  chain_depth_within : (fuel n : ℕ) → n < fuel → n < count_of dag → IsDepth (chains_of dag.units) n (height_at n)
  chain_depth_within zero n less lt = absurd (omega arith)
  chain_depth_within (suc fuel) n less lt = go (unit_at dag n).parent refl (chain_depth_within fuel)
    where
      go : (o : Option UnitNo) → (unit_at dag n).parent ≡ o → ((m : ℕ) → m < fuel → m < count_of dag → IsDepth (chains_of dag.units) m (height_at m)) → IsDepth (chains_of dag.units) n (height_at n)
      go None e later = subst (λ (d : ℕ). IsDepth (chains_of dag.units) n d) (sym (height_first n lt e)) (root_depth (chains_of dag.units) n (chain_at_is n lt ∙ e))
      go (Some p) e later =
          let earlier = parent_earlier n p lt e in
          let next = height_next n p lt e in
          let same : suc (height_at p.0) ≡ height_at n = omega arith in
          subst (λ (d : ℕ). IsDepth (chains_of dag.units) n d) same
          (next_depth (chains_of dag.units) n (height_at p.0) p (chain_at_is n lt ∙ e) (later p.0 (omega arith) (omega arith)))

  pub chain_depth : (n : ℕ) → n < count_of dag → IsDepth (chains_of dag.units) n (height_at n)
  chain_depth n lt = chain_depth_within (suc n) n (omega arith) lt

  -- steps back lead to ancestors
  pub chain_found : (k n m : ℕ) → n < count_of dag → is_block (node_at dag n) ≡ true → back_from (chains_of dag.units) k n ≡ Some m → k ≤ height_at n → IsAncestorAt dag n (height_at n - k) m
  chain_found zero n m lt t h le =
      let same : n ≡ m = (let s : Some n ≡ Some m = sym (back_from-none (chains_of dag.units) n) ∙ h in cc) in
      let height = height_is n lt t in
      let number : height_above dag (unit_at dag n).parent ≡ height_at n - 0 = ap (λ (o : Option ℕ). unwrap_or o 0) (sym height) ∙ omega arith in
      subst (λ (x : ℕ). IsAncestorAt dag n (height_at n - 0) x) same (record { known = lt; earlier = omega arith; block = t; ancestor = itself; height_is = height ∙ ap Some number })
  chain_found (suc k) n m lt t h le =
      let p = first_step (chains_of dag.units) k n m h in
      let parent = sym (chain_at_is n lt) ∙ p.1 in
      let earlier = parent_earlier n p.0 lt parent in
      let next = height_next n p.0 lt parent in
      let rest = chain_found k p.0.0 m (omega arith) (parent_is_block n p.0 lt parent) p.2 (omega arith) in
      let before = rest.earlier in
      let less : height_at p.0.0 - k ≡ height_at n - suc k = omega arith in
      record {
        known = rest.known;
        earlier = omega arith;
        block = rest.block;
        ancestor = further n p.0 parent rest.ancestor;
        height_is = rest.height_is ∙ ap Some less;
      }
