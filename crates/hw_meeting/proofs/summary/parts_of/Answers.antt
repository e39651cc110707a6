use Rattle.std.proofs.Common.{◌∷◌, [], ◌++◌, map, sym, ap, ◌∙◌, arith}
use Rattle.std.specs.List.{range_with_len}
use Rattle.std.proofs.lemmas.List.FromFn.{map-range_with_len_more}
use Rattle.hw_meeting.specs.Lanes.{tip_at, mark_at, lane_summary}
use Rattle.hw_meeting.proofs.summary.parts_of.Goals as goal

pub loop-validator-preserved : goal.loop-validator-preserved
loop-validator-preserved c =
    let n = c.loop-validator.validator in
    c.in_ok-push.ensures.ok ∙ ap (λ p. p ++ c.lane_summary.result ∷ []) c.loop-validator.invariant
    ∙ ap (λ x. map (λ v. lane_summary c.args.dag.now (tip_at c.args.tips.now v) (mark_at c.args.marks.now v)) (range_with_len 0 n) ++ x ∷ []) c.lane_summary.ensures
    ∙ sym (map-range_with_len_more (λ v. lane_summary c.args.dag.now (tip_at c.args.tips.now v) (mark_at c.args.marks.now v)) 0 n n (omega arith))
