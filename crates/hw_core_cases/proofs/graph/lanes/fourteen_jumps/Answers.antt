use Rattle.std.proofs.Common.{◌≡◌, ◌+◌, ℕ, refl, ap, ◌∙◌}
use Rattle.hw_dag.specs.Jumps.{jump_count, jump_count_within}
use lib.Count.{count_leading_zeros, count_trailing_zeros}
use Rattle.hw_core_cases.proofs.graph.lanes.fourteen_jumps.Goals as goal

way : jump_count 1000 1 ≡ 14
unfolding jump_count jump_count_within count_leading_zeros count_trailing_zeros
way = refl

pub returns : goal.returns
returns g c =
    c.lane_at.ensures.jumps ∙ ap (λ (s : ℕ). c.args.steps.now + jump_count s 1) c.requires.from ∙ ap (λ (k : ℕ). c.args.steps.now + k) way
