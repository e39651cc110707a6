use Rattle.std.proofs.Common.{ℕ, ap, ◌+◌, ◌∷◌, ◌++◌, ◌∙◌}
use Rattle.hw_text.specs.Text.{number_text}
use Rattle.hw_explain.specs.Searched.{start_or_zero}
use Rattle.hw_explain.proofs.CommitteeLaws.{part_more}
use Rattle.hw_explain.proofs.committee.put_member.Goals as goal

pub loop-below-preserved : goal.loop-below-preserved
loop-below-preserved c =
    let l = c.loop-below in
    let part = λ (j : ℕ). 44 ∷ number_text (start_or_zero c.args.search.now (j + 1) c.args.validator) in
    c.in_ok-put_numbered-3.ensures.ok
    ∙ ap (λ n. l.text ++ (44 ∷ number_text n)) c.start-in-loop-below.ensures
    ∙ ap (λ t. t ++ part l.below) l.invariant ∙ part_more part c.put_numbered-2.new.out l.below
