use Rattle.std.proofs.Common.{◌≡◌, ◌≤◌, true, Option, ℕ, sym, ap, subst, ◌∙◌, arith}
use Rattle.std.specs.Prelude.{unwrap_or}
use Rattle.hw_dag.specs.declared.numbers.UnitNo.{UnitNo}
use Rattle.hw_forks.specs.Votes.{height_at}
use Rattle.hw_forks.specs.Walk.{is_over}
use Rattle.hw_horizon.specs.Kept.{AskedWalks}
use Rattle.hw_horizon.specs.Starts.{IsWalked, votes_over}
use Rattle.hw_horizon.proofs.FenceLaws.{fences_more, walked_lower, over_at}
use Rattle.hw_horizon.proofs.votes.nearest.Goals as goal

pub lowest_fence-lowest-requires-clause-own_over : goal.lowest_fence-lowest-requires-clause-own_over
lowest_fence-lowest-requires-clause-own_over c = subst (λ (b : UnitNo). is_over c.args.dag.now c.args.block.0 b.0 ≡ true) (sym c.own_fence-own.ensures.block) c.requires.votes

pub loop-slot-init : goal.loop-slot-init
loop-slot-init c = record {
  low = c.lowest_fence-lowest.ensures.slot;
  fence = c.lowered-fence.ensures.fence;
  over = subst (λ (b : UnitNo). is_over c.args.dag.now c.args.block.0 b.0 ≡ true) (sym c.lowered-fence.ensures.block) c.lowest_fence-lowest.ensures.over;
  tip = c.lowered-fence.ensures.tip ∙ c.own_fence-own.ensures.tip;
  fences = fences_more c.args.dag.now c.args.kept.now.fences c.put_fence.new.self.fences c.lowered-fence.result c.requires.fences c.lowered-fence.ensures.fence c.put_fence.ensures.fences;
  rest = c.put_fence.ensures.rest;
}

pub loop-slot-preserved-in-Some : goal.loop-slot-preserved-in-Some
loop-slot-preserved-in-Some c =
    let i = c.loop-slot.invariant in
    let low = i.low in
    let at = c.in-Some.ensures.at in
    let height : height_at c.args.dag.now c.in-Some.lower.block.0 ≡ _ = ap (λ (o : Option ℕ). unwrap_or o 0) at.height_is in
    let reached : height_at c.args.dag.now c.args.block.0 ≤ height_at c.args.dag.now c.in-Some.lower.block.0 = (let own = c.height_of-height.ensures in omega arith) in
    record {
      low = omega arith;
      fence = c.in-Some.ensures.fence;
      over = over_at c.args.dag.now c.requires.graph c.args.block.0 c.loop-slot.fence.block.0 c.in-Some.lower.block.0 i.fence.block_known i.over at.known at.ancestor reached;
      tip = c.in-Some.ensures.tip ∙ i.tip;
      fences = fences_more c.args.dag.now c.loop-slot.kept.fences c.put_fence-in-Some.new.self.fences c.in-Some.lower i.fences c.in-Some.ensures.fence c.put_fence-in-Some.ensures.fences;
      rest = c.put_fence-in-Some.ensures.rest ∙ ap (λ (k : AskedWalks). record k { fences = c.put_fence-in-Some.new.self.fences }) i.rest;
    }

pub returns-clause-walked : goal.returns-clause-walked
returns-clause-walked c =
    let i = c.loop-slot.invariant in
    walked_lower c.args.dag.now c.requires.graph c.args.tip.0 c.args.block.0 c.loop-slot.fence.block.0 c.loop-slot.fence.first.0 i.over
    (subst (λ (t : UnitNo). IsWalked c.args.dag.now t.0 (votes_over c.args.dag.now c.loop-slot.fence.block.0) c.loop-slot.fence.first.0) i.tip i.fence.walked)
