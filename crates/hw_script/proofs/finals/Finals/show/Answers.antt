use Rattle.std.proofs.Common.{◌++◌, codes, ap, ◌∙◌, append_assoc}
use Rattle.hw_types.specs.Real.{received_in}
use Rattle.hw_explain.specs.Report.{exceeded_line, exceeded_in}
use Rattle.hw_script.proofs.ToldLaws.{shown_none}
use Rattle.hw_script.proofs.finals.Finals.show.Goals as goal

pub returns-then-self-eq0 : goal.returns-then-self-eq0
returns-then-self-eq0 c =
    let core = c.args.core.now in
    let exceeded = exceeded_line (exceeded_in core.config (received_in core)) in
    c.in_ok-put_exceeded.ensures
    ∙ ap (λ o. c.put_word.new.out ++ exceeded_line o) c.exceeded.ensures
    ∙ ap (λ t. t ++ exceeded) c.in_ok-put_word.ensures.ok
    ∙ append_assoc c.args.out.now (codes "final -\n") exceeded
    ∙ ap (λ l. c.args.out.now ++ l) (shown_none c.args.names.now c.args.self.now core c.requires c.if-self-eq0.true)
