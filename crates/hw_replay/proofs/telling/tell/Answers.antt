use Rattle.std.proofs.Common.{◌∙◌, refl, arith}
use Rattle.hw_replay.specs.Chain.{told_chain}
use Rattle.hw_replay.proofs.TellingLaws.{took_none, took_more}
use Rattle.hw_replay.proofs.telling.tell.Goals as goal

pub loop-index-init : goal.loop-index-init
loop-index-init g c = record {
  more = omega arith;
  took = took_none (told_chain c.args.core.now) c.args.from _;
  faults = refl;
  wants = refl;
  kind = refl;
}

pub loop-index-preserved : goal.loop-index-preserved
loop-index-preserved g c = record {
  more = omega (arith, c.loop-index.invariant.more);
  took = took_more _ c.args.from c.loop-index.index _ _ _ _ c.loop-index.invariant.more c.block_at-height.ensures c.loop-index.invariant.took c.in_ok-give.ensures.consumed;
  faults = c.in_ok-give.ensures.cause.failed ∙ c.loop-index.invariant.faults;
  wants = c.in_ok-give.ensures.want ∙ c.loop-index.invariant.wants;
  kind = c.in_ok-give.ensures.kind ∙ c.loop-index.invariant.kind;
}
