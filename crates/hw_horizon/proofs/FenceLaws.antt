-- Fences: what votes for a block votes for its ancestors, and walks go on from one another.
use Rattle.std.proofs.Common.{◌≡◌, ℕ, ◌≤◌, ◌<◌, ◌⊎◌, inl, inr, Bool, true, false, cond, List, Option, Some, None, refl, sym, ap, subst, arith}
use Rattle.std.proofs.lemmas.Bool.{cases_lt}
use Rattle.std.specs.Prelude.{slice_index_or}
use Rattle.hw_types.specs.Votes.{is_block}
use Rattle.hw_dag.specs.declared.numbers.UnitNo.{UnitNo}
use Rattle.hw_dag.specs.Dag.{UnitGraph, unit_at, count_of, node_at, seq_of}
use Rattle.hw_dag.specs.Admission.{IsGraph}
use Rattle.hw_dag.specs.Lanes.{IsAncestor, itself}
use Rattle.hw_forks.specs.Votes.{height_at}
use Rattle.hw_forks.specs.Walk.{is_over}
use Rattle.hw_forks.proofs.AncestorLaws.{over_anc, anc_over, anc_trans, anc_between}
use Rattle.hw_horizon.specs.declared.fences.Fence.{Fence}
use Rattle.hw_horizon.specs.Starts.{IsWalked, votes_over}
use Rattle.hw_horizon.specs.Kept.{IsFence, AreFences}
use Rattle.hw_horizon.proofs.LaneLaws.{lane_lower, lane_above}
use Rattle.hw_horizon.proofs.VoteLaws.{vote_known, walked_first}

module _ (dag : UnitGraph) (g : IsGraph dag) where
  -- a block is over itself
  pub over_itself : (block : ℕ) → block < count_of dag → is_over dag block block ≡ true
  over_itself block lt = anc_over dag g block block lt itself

  -- of two ancestors of a block the higher one is over the other
  pub over_at : (block upper at : ℕ) → upper < count_of dag → is_over dag block upper ≡ true → at < count_of dag → IsAncestor dag at upper → height_at dag block ≤ height_at dag at → is_over dag block at ≡ true
  over_at block upper at lt o known anc le = anc_over dag g block at known (anc_between dag g block at upper lt (over_anc dag g (count_of dag) block upper o) anc le)

  -- what votes for a block votes for each ancestor of it
  pub votes_lower : (block upper n : ℕ) → n < count_of dag → is_over dag block upper ≡ true → votes_over dag upper n ≡ true → votes_over dag block n ≡ true
  votes_lower block upper n ln o v =
      anc_over dag g block (unit_at dag n).vote.0 (vote_known dag g n ln)
      (anc_trans dag g block upper (unit_at dag n).vote.0 (over_anc dag g (count_of dag) block upper o) (over_anc dag g (count_of dag) upper (unit_at dag n).vote.0 v))

  -- so does a walk
  pub walked_lower : (tip block upper first : ℕ) → is_over dag block upper ≡ true → IsWalked dag tip (votes_over dag upper) first → IsWalked dag tip (votes_over dag block) first
  walked_lower tip block upper first o w = record {
    known = w.known;
    on_lane = w.on_lane;
    up_to = w.up_to;
    each = λ n ln t le. votes_lower block upper n ln o (w.each n ln t le);
  }

  -- a walk goes on from where another ended
  pub walked_on : (tip middle first : ℕ) (passes : ℕ → Bool) → tip < count_of dag → IsWalked dag tip passes middle → IsWalked dag middle passes first → IsWalked dag tip passes first
  walked_on tip middle first passes lt w k =
      let low = k.up_to in
      let up = w.up_to in
      record {
        known = k.known;
        on_lane = lane_above dag g tip first middle k.known w.known k.on_lane w.on_lane;
        up_to = omega arith;
        each = λ n ln t le. elim (cases_lt (seq_of (unit_at dag n)) (seq_of (unit_at dag middle))) [
          | inl less ↦ k.each n ln (lane_lower dag g tip n middle lt ln w.known t w.on_lane (omega arith)) le
          | inr ge ↦ w.each n ln t ge
        ];
      }

  -- the unit votes for what it votes for
  pub own_walked : (tip : ℕ) → tip < count_of dag → IsWalked dag tip (votes_over dag (unit_at dag tip).vote.0) tip
  own_walked tip lt = walked_first dag g tip lt (unit_at dag tip).vote.0 (over_itself (unit_at dag tip).vote.0 (vote_known dag g tip lt))

  -- the first unit of a walk passes
  pub first_walked : (tip block upper first : ℕ) → is_over dag block upper ≡ true → IsWalked dag tip (votes_over dag upper) first → IsWalked dag first (votes_over dag block) first
  first_walked tip block upper first o w = walked_first dag g first w.known block (votes_lower block upper first w.known o (w.each first w.known w.on_lane (omega arith)))

-- one fence more
pub fences_more : (dag : UnitGraph) (old new : List (Option Fence)) (fence : Fence) → AreFences dag old → IsFence dag fence
    → ((k : ℕ) (other : Fence) → slice_index_or new k None ≡ Some other → (other ≡ fence) ⊎ (slice_index_or old k None ≡ Some other)) → AreFences dag new
fences_more dag old new fence are is put k other e = elim (put k other e) [
  | inl same ↦ subst (λ (f : Fence). IsFence dag f) (sym same) is
  | inr before ↦ are k other before
]

-- what a unit votes for is a block
pub vote_block : (dag : UnitGraph) → IsGraph dag → (n : ℕ) → n < count_of dag → is_block (node_at dag (unit_at dag n).vote.0) ≡ true
vote_block dag g n lt = go (is_block (node_at dag n)) refl
  where
    go : (b : Bool) → is_block (node_at dag n) ≡ b → is_block (node_at dag (unit_at dag n).vote.0) ≡ true
    go true t = subst (λ (k : ℕ). is_block (node_at dag k) ≡ true) (sym ((g.settled n lt).own_vote t)) t
    go false f = (g.settled n lt).fork.block (unit_at dag n).vote (ap (λ (b : Bool). cond b (unit_at dag n).parent (Some (unit_at dag n).vote)) f)

-- a unit's own fence
pub own_is : (dag : UnitGraph) → IsGraph dag → (tip vote : UnitNo) → tip.0 < count_of dag → vote ≡ (unit_at dag tip.0).vote → IsFence dag (record { block = vote; tip = tip; first = tip })
own_is dag g tip vote lt e = subst (λ (b : UnitNo). IsFence dag (record { block = b; tip = tip; first = tip })) (sym e) (record {
  known = lt;
  block_known = vote_known dag g tip.0 lt;
  block = vote_block dag g tip.0 lt;
  walked = own_walked dag g tip.0 lt;
})

-- where the walk jumps over the fence
pub jump_walked : (dag : UnitGraph) (g : IsGraph dag) (tip : ℕ) (known : Fence) (from result : UnitNo) → tip < count_of dag → IsFence dag known → IsWalked dag tip (votes_over dag known.block.0) from.0
    → ((from ≡ known.tip) × (result ≡ known.first)) ⊎ (result ≡ from) → IsWalked dag tip (votes_over dag known.block.0) result.0 × (seq_of (unit_at dag result.0) ≤ seq_of (unit_at dag from.0))
jump_walked dag g tip known from result lt is w j = elim j [
  | inl both ↦
      let here : IsWalked dag tip (votes_over dag known.block.0) known.tip.0 = subst (λ (n : UnitNo). IsWalked dag tip (votes_over dag known.block.0) n.0) both.0 w in
      let there : IsWalked dag tip (votes_over dag known.block.0) known.first.0 = walked_on dag g tip known.tip.0 known.first.0 (votes_over dag known.block.0) lt here is.walked in
      let up = is.walked.up_to in
      let low : seq_of (unit_at dag result.0) ≡ seq_of (unit_at dag known.first.0) = ap (λ (n : UnitNo). seq_of (unit_at dag n.0)) both.1 in
      let high : seq_of (unit_at dag from.0) ≡ seq_of (unit_at dag known.tip.0) = ap (λ (n : UnitNo). seq_of (unit_at dag n.0)) both.0 in
      (subst (λ (n : UnitNo). IsWalked dag tip (votes_over dag known.block.0) n.0) (sym both.1) there, omega arith)
  | inr same ↦
      let e : seq_of (unit_at dag result.0) ≡ seq_of (unit_at dag from.0) = ap (λ (n : UnitNo). seq_of (unit_at dag n.0)) same in
      (subst (λ (n : UnitNo). IsWalked dag tip (votes_over dag known.block.0) n.0) (sym same) w, omega arith)
]

-- the fence of one unit, for an ancestor of the block of a fence that begins there
pub stop_is : (dag : UnitGraph) (g : IsGraph dag) (fence : Fence) (block : UnitNo) → IsFence dag fence → block.0 < count_of dag → is_block (node_at dag block.0) ≡ true
    → is_over dag block.0 fence.block.0 ≡ true → IsFence dag (record { block = block; tip = fence.first; first = fence.first })
stop_is dag g fence block is known t o = record {
  known = is.walked.known;
  block_known = known;
  block = t;
  walked = first_walked dag g fence.tip.0 block.0 fence.block.0 fence.first.0 o is.walked;
}
