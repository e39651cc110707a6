use Rattle.std.proofs.Common.{◌≡◌, List, map, ap, ◌∙◌}
use Rattle.hw_dag.specs.declared.numbers.UnitNo.{UnitNo}
use Rattle.hw_light.specs.Under.{number_in}
use Rattle.hw_light.proofs.UnderLaws.{with_number, without_number}
use Rattle.hw_light.proofs.under.marked_numbers.Goals.{then-marked-number+in_ok-push, else-marked-number}
use Rattle.hw_light.proofs.under.marked_numbers.Goals as goal

pub loop-number-preserved : goal.loop-number-preserved
loop-number-preserved c =
    let marked = c.args.marked.now in
    let i = c.loop-number.invariant in
    elim c.if-marked-number.branch [
      | then-marked-number+in_ok-push w ↦ with_number marked c.loop-number.number c.loop-number.numbers.items c.if-marked-number.numbers.items w.if-marked-number.true i (ap (λ (v : Rattle.std.proofs.Common.Vec UnitNo Rattle.std.proofs.Common.Global). v.items) w.numbers-is ∙ w.in_ok-push.ensures.items)
      | else-marked-number w ↦ ap (λ (v : Rattle.std.proofs.Common.Vec UnitNo Rattle.std.proofs.Common.Global). map number_in v.items) w.numbers-is ∙ without_number marked c.loop-number.number c.loop-number.numbers.items w.if-marked-number.false i
    ]
