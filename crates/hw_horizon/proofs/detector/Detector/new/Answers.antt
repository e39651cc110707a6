use Rattle.std.proofs.Common.{length, ap, subst, arith}
use Rattle.hw_types.specs.Below.{Among}
use Rattle.hw_horizon.specs.Blocks.{FoundBlocks}
use Rattle.hw_horizon.proofs.LevelLaws.{few_validators}
use Rattle.hw_horizon.proofs.detector.Detector.new.Goals as goal

pub overflow_cast-validators : goal.overflow_cast-validators
overflow_cast-validators c = let few = few_validators c.args.config.now c.requires in let is = c.len-validators.ensures in omega arith

pub returns-clause-kept : goal.returns-clause-kept
returns-clause-kept c = λ dag. record {
  walks = c.in_ok-new.ensures.walks dag;
  bounds = c.in_ok-new-2.ensures.bounds c.in_ok-copy.field-0.weights dag;
  known = λ f m. absurd (subst (λ (bs : FoundBlocks). Among f bs.blocks) c.new-3.ensures m);
  few = (let none = ap (λ (bs : FoundBlocks). length bs.blocks) c.new-3.ensures in omega arith);
}
