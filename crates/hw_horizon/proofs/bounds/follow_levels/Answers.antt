use Rattle.std.proofs.Common.{◌≡◌, ◌<◌, ◌+◌, inl, inr, ℕ, [], length, set, get_or, get_or-set_same, sym, ap, subst, refl, ◌∙◌, arith}
use Rattle.std.proofs.Math.ListN.{length-set}
use Rattle.std.proofs.lemmas.Bool.{cases_eq}
use Rattle.std.proofs.lemmas.List.{get_or_read}
use Rattle.hw_horizon.specs.Bounds.{LevelBound, bound_of, AreLowered}
use Rattle.hw_horizon.proofs.FollowLaws.{HasFollowed, followed_more, support_below, put_level, put_level_other}
use Rattle.hw_horizon.proofs.bounds.follow_levels.Goals as goal

pub follow_level-moves-requires-clause-supported : goal.follow_level-moves-requires-clause-supported
follow_level-moves-requires-clause-supported c =
    support_below c.args.question.now.weights.now c.args.question.now.dag.now c.args.question.now.panorama.now c.args.tips.now c.args.question.now.block.0 c.args.asked.0 c.args.question.now.quorum c.args.levels.now c.loop-level.levels c.loop-level.lower c.loop-level.moves.down c.loop-level.level c.loop-level.invariant.followed

pub loop-level-preserved : goal.loop-level-preserved
loop-level-preserved c =
    let i = c.loop-level.invariant in
    let done = c.follow_level-moves.ensures in
    let less = c.loop-level-test.true in
    let kept = c.loop-level.auto.levels in
    let inside : c.loop-level.level < length c.loop-level.levels = omega arith in
    let long : length (set c.loop-level.levels c.loop-level.level c.follow_level-moves.new.bound) ≡ length c.loop-level.levels = length-set c.loop-level.levels c.loop-level.level c.follow_level-moves.new.bound in
    let entry : get_or c.loop-level.levels c.loop-level.level c.index-levels-level.result ≡ bound_of c.loop-level.levels c.loop-level.level =
    sym c.index-levels-level.is ∙ get_or_read c.loop-level.levels c.loop-level.level c.index-levels-level.result inside c.index-levels-level.is (record { firsts = []; support = [] }) in
    let lower : c.copy_from.new.self ≡ c.follow_level-moves.new.bound = c.copy_from.ensures ∙ (rw get_or-set_same refl) in
    let here = put_level c.loop-level.levels c.loop-level.level c.follow_level-moves.new.bound inside in
    let wide_firsts : length c.follow_level-moves.new.bound.firsts ≡ c.args.question.now.dag.now.validators = done.firsts_length ∙ ap (λ (b : LevelBound). length b.firsts) entry ∙ i.firsts c.loop-level.level inside in
    let wide_support : length c.follow_level-moves.new.bound.support ≡ c.args.question.now.dag.now.validators = done.support_length ∙ ap (λ (b : LevelBound). length b.support) entry ∙ i.support c.loop-level.level inside in
    record {
      followed = subst (λ (b : LevelBound). HasFollowed c.args.question.now.weights.now c.args.question.now.dag.now c.args.question.now.panorama.now c.args.tips.now c.args.question.now.block.0 c.args.asked.0 c.args.question.now.quorum c.args.levels.now (set c.loop-level.levels c.loop-level.level c.follow_level-moves.new.bound) b c.follow_level-moves.result.down (c.loop-level.level + 1)) (sym lower)
          (followed_more c.args.question.now.weights.now c.args.question.now.dag.now c.args.question.now.asked.graph_is c.args.question.now.panorama.now c.args.tips.now c.args.question.now.block.0 c.args.asked.0 c.args.question.now.quorum c.args.levels.now c.requires.bounded
          c.loop-level.levels (set c.loop-level.levels c.loop-level.level c.follow_level-moves.new.bound) c.loop-level.lower c.follow_level-moves.new.bound c.loop-level.moves.down c.follow_level-moves.result.down c.loop-level.level i.followed inside refl
          done.firsts done.support (subst (λ (b : LevelBound). AreLowered b c.follow_level-moves.new.bound c.follow_level-moves.result.down) entry done.lowered));
      firsts = λ j lj. elim (cases_eq j c.loop-level.level) [
        | inl same ↦ ap (λ (k : ℕ). length (bound_of (set c.loop-level.levels c.loop-level.level c.follow_level-moves.new.bound) k).firsts) same ∙ ap (λ (b : LevelBound). length b.firsts) here ∙ wide_firsts
        | inr other ↦ ap (λ (b : LevelBound). length b.firsts) (put_level_other c.loop-level.levels c.loop-level.level j c.follow_level-moves.new.bound other) ∙ i.firsts j (omega arith)
      ];
      support = λ j lj. elim (cases_eq j c.loop-level.level) [
        | inl same ↦ ap (λ (k : ℕ). length (bound_of (set c.loop-level.levels c.loop-level.level c.follow_level-moves.new.bound) k).support) same ∙ ap (λ (b : LevelBound). length b.support) here ∙ wide_support
        | inr other ↦ ap (λ (b : LevelBound). length b.support) (put_level_other c.loop-level.levels c.loop-level.level j c.follow_level-moves.new.bound other) ∙ i.support j (omega arith)
      ];
      lower_firsts = ap (λ (b : LevelBound). length b.firsts) lower ∙ wide_firsts;
      lower_support = ap (λ (b : LevelBound). length b.support) lower ∙ wide_support;
      edges = done.edges ∙ i.edges;
    }
