-- Votes by number are those of the definitions, and the walk down a lane finds where they begin.
use Rattle.std.proofs.Common.{◌≡◌, ℕ, ◌≤◌, ◌<◌, inl, inr, Bool, true, false, cond, List, length, Some, None, refl, sym, ap, subst, ◌∙◌, arith}
use Rattle.std.proofs.lemmas.Bool.{cases_lt}
use Rattle.hw_types.specs.Graph.{Node, is_some_and}
use Rattle.hw_types.specs.Votes.{ForkAt, is_block, is_ancestor_within, votes_for, unit_fork}
use Rattle.hw_types.proofs.StableLaws.{both_ways}
use Rattle.hw_dag.specs.declared.numbers.UnitNo.{UnitNo}
use Rattle.hw_dag.specs.Dag.{UnitGraph, unit_at, count_of, node_at, graph, seq_of}
use Rattle.hw_dag.specs.Admission.{IsGraph}
use Rattle.hw_dag.specs.Lanes.{AreWeights, is_lane_below}
use Rattle.hw_forks.specs.Walk.{is_over}
use Rattle.hw_forks.proofs.AncestorLaws.{over_anc, anc_over}
use Rattle.hw_horizon.specs.Starts.{IsStart, IsLeastStart, IsWalked, IsEarlierVote, votes_over}
use Rattle.hw_horizon.proofs.LaneLaws.{lane_self, lane_same, lane_most, lane_lower, lane_above, before_is, first_is}
use Rattle.hw_forks.proofs.DefinedLaws.{vote_at, defined_anc, anc_defined}
use Rattle.hw_types.proofs.HeightLaws.{past_short}

module _ (weights : List ℕ) (dag : UnitGraph) (g : IsGraph dag) (aw : AreWeights weights dag) where
  abbrev units : List Node
  units = graph dag

  abbrev fork_at : ForkAt
  fork_at = unit_fork weights units

  -- the votes of the definitions
  pub votes_are : (block n : ℕ) → block < count_of dag → n < count_of dag → votes_for (length units) fork_at (node_at dag block) (node_at dag n) ≡ votes_over dag block n
  unfolding votes_for
  votes_are block n lb ln =
      let vote = vote_at weights dag g aw n ln in
      ap (is_some_and (is_ancestor_within (length units) fork_at (node_at dag block))) vote.vote_is
      ∙ both_ways (is_ancestor_within (length units) fork_at (node_at dag block) (node_at dag (unit_at dag n).vote.0)) (is_over dag block (unit_at dag n).vote.0)
      (λ h. anc_over dag g block (unit_at dag n).vote.0 vote.known (defined_anc weights dag g aw (length units) block (unit_at dag n).vote.0 lb vote.known vote.block h))
      (λ h. anc_defined weights dag g aw block (length units) (unit_at dag n).vote.0 vote.known vote.block (past_short units (unit_at dag (unit_at dag n).vote.0).signed.unit.panorama) (over_anc dag g (count_of dag) block (unit_at dag n).vote.0 h))

-- what a unit votes for is in the graph
pub vote_known : (dag : UnitGraph) → IsGraph dag → (n : ℕ) → n < count_of dag → (unit_at dag n).vote.0 < count_of dag
vote_known dag g n lt = go (is_block (node_at dag n)) refl
  where
    go : (b : Bool) → is_block (node_at dag n) ≡ b → (unit_at dag n).vote.0 < count_of dag
    go true t = let own = (g.settled n lt).own_vote t in omega arith
    go false f = (g.settled n lt).fork.known (unit_at dag n).vote (ap (λ (b : Bool). cond b (unit_at dag n).parent (Some (unit_at dag n).vote)) f)

-- what a unit votes for is a block
pub vote_block : (dag : UnitGraph) → IsGraph dag → (n : ℕ) → n < count_of dag → is_block (node_at dag (unit_at dag n).vote.0) ≡ true
vote_block dag g n lt = go (is_block (node_at dag n)) refl
  where
    go : (b : Bool) → is_block (node_at dag n) ≡ b → is_block (node_at dag (unit_at dag n).vote.0) ≡ true
    go true t = subst (λ (m : ℕ). is_block (node_at dag m) ≡ true) (sym ((g.settled n lt).own_vote t)) t
    go false f = (g.settled n lt).fork.block (unit_at dag n).vote (ap (λ (b : Bool). cond b (unit_at dag n).parent (Some (unit_at dag n).vote)) f)

-- ---- the walk down a lane

module _ (dag : UnitGraph) (g : IsGraph dag) (tip : ℕ) (lt : tip < count_of dag) (block : ℕ) where
  abbrev passes : ℕ → Bool
  passes = votes_over dag block

  -- where it passes, what passes from the number after it on passes from it on
  one_more : (first : ℕ) → first < count_of dag → is_lane_below dag first tip ≡ true → passes first ≡ true
      → ((n : ℕ) → n < count_of dag → is_lane_below dag n tip ≡ true → seq_of (unit_at dag first) < seq_of (unit_at dag n) → passes n ≡ true)
      → (n : ℕ) → n < count_of dag → is_lane_below dag n tip ≡ true → seq_of (unit_at dag first) ≤ seq_of (unit_at dag n) → passes n ≡ true
  one_more first lf tf p each n ln t le = elim (cases_lt (seq_of (unit_at dag first)) (seq_of (unit_at dag n))) [
    | inl less ↦ each n ln t less
    | inr ge ↦ (let same = lane_same dag g tip first n lt lf ln tf t (omega arith) in subst (λ (k : ℕ). passes k ≡ true) same p)
  ]

  pub walked_first : passes tip ≡ true → IsWalked dag tip passes tip
  walked_first p = record {
    known = lt;
    on_lane = lane_self dag g tip lt;
    up_to = omega arith;
    each = one_more tip lt (lane_self dag g tip lt) p (λ n ln t less. absurd (let most = lane_most dag g tip n lt ln t in omega arith));
  }

  pub walked_more : (first : ℕ) (before : UnitNo) → IsWalked dag tip passes first → IsEarlierVote dag first block (Some before) → IsWalked dag tip passes before.0
  walked_more first before w e =
      let b = before_is dag g tip first before w.known w.on_lane e.0 in
      let next = b.next in
      let up = w.up_to in
      record {
        known = b.known;
        on_lane = b.on_lane;
        up_to = omega arith;
        each = one_more before.0 b.known b.on_lane e.1 (λ n ln t less. w.each n ln t (omega arith));
      }

  -- the walk goes down
  pub walked_down : (first : ℕ) (before : UnitNo) → IsWalked dag tip passes first → IsEarlierVote dag first block (Some before) → seq_of (unit_at dag before.0) < seq_of (unit_at dag first)
  walked_down first before w e = let b = before_is dag g tip first before w.known w.on_lane e.0 in let next = b.next in omega arith

  -- where it ends, the start is
  pub walked_start : (first : ℕ) → IsWalked dag tip passes first → IsEarlierVote dag first block None → IsStart dag tip 0 passes (Some (seq_of (unit_at dag first)))
  walked_start first w e = record {
    above = omega arith;
    reached = w.up_to;
    each = w.each;
    least = elim e [
      | inl none ↦ inl (first_is dag g first w.known none)
      | inr b ↦ (let k = before_is dag g tip first b.0 w.known w.on_lane b.1 in inr (b.0.0, k.known, k.on_lane, b.2, sym k.next))
    ];
  }

  -- where it comes to a unit from which the start is known, that is the start
  pub walked_known : (first start : ℕ) → IsWalked dag tip passes first → IsLeastStart dag first 0 passes start → IsLeastStart dag tip 0 passes start
  walked_known first start w k =
      let low = k.reached in
      let up = w.up_to in
      record {
        above = omega arith;
        reached = omega arith;
        each = λ n ln t le. elim (cases_lt (seq_of (unit_at dag n)) (seq_of (unit_at dag first))) [
          | inl less ↦ k.each n ln (lane_lower dag g tip n first lt ln w.known t w.on_lane (omega arith)) le
          | inr ge ↦ w.each n ln t ge
        ];
        least = elim k.least [
          | inl e ↦ inl e
          | inr n ↦ inr (n.0, n.1, lane_above dag g tip n.0 first n.1 w.known n.2 w.on_lane, n.3, n.4)
        ];
      }
