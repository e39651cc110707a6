use Rattle.std.proofs.Common.{◌≡◌, List, Option, Some, sym, subst, ◌∙◌, arith}
use Rattle.hw_dag.specs.declared.numbers.UnitNo.{UnitNo}
use Rattle.hw_horizon.specs.declared.fences.Fence.{Fence}
use Rattle.hw_horizon.specs.Kept.{IsWalk, AreFences}
use Rattle.hw_horizon.proofs.votes.put_vote_starts.Goals as goal

pub loop-v-init : goal.loop-v-init
loop-v-init c = record {
  walks = c.ask.ensures.length ∙ c.requires.walks;
  kept = λ v walk e. c.requires.kept.walks c.args.block (c.ask.ensures.before v walk e) v walk (c.ask.ensures.same v walk e);
  fences = subst (λ (fs : List (Option Fence)). AreFences c.args.dag.now fs) (sym c.ask.ensures.fences) c.requires.kept.fences;
  block = c.ask.ensures.block;
  long = c.requires.length;
  starts = λ v lt. absurd (omega arith);
}

pub returns-clause-kept : goal.returns-clause-kept
returns-clause-kept c = record {
  walks = λ block e v walk w.
      let same : c.args.block ≡ block = (let s : Some c.args.block ≡ Some block = sym c.loop-v.invariant.block ∙ e in cc) in
      subst (λ (b : UnitNo). IsWalk c.args.dag.now b.0 walk) same (c.loop-v.invariant.kept v walk w);
  fences = c.loop-v.invariant.fences;
}
