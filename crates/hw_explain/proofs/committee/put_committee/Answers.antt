use Rattle.std.proofs.Common.{ap, ◌++◌, ◌∙◌}
use Rattle.hw_explain.specs.Searched.{part_in}
use Rattle.hw_explain.proofs.CommitteeLaws.{part_more}
use Rattle.hw_explain.proofs.committee.put_committee.Goals as goal

pub loop-validator-preserved : goal.loop-validator-preserved
loop-validator-preserved c =
    let l = c.loop-validator in
    let part = part_in c.args.search.now c.args.level in
    c.in_ok-put_if_member.ensures ∙ ap (λ t. t ++ part l.validator) l.invariant ∙ part_more part c.put_word.new.out l.validator
