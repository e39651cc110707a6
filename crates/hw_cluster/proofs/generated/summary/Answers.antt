use Rattle.std.proofs.Common.{◌≡◌, ◌-◌, length, List, ◌∙◌, arith}
use Rattle.hw_types.specs.declared.answers.Decision.{Decision}
use Rattle.hw_types.specs.Real.{setting_of}
use Rattle.hw_safety.specs.Decided.{decisions_of}
use Rattle.hw_cluster.proofs.GeneratedLaws.{totals_are_those, no_last, the_last}
use Rattle.hw_cluster.proofs.generated.summary.Goals as goal
use Rattle.hw_cluster.proofs.generated.summary.Goals.{then-finals-gt0, else-finals-gt0}

pub returns : goal.returns
returns c =
    let s = setting_of c.args.core.now.config in
    let ds : List Decision = decisions_of s c.args.core.now.journal in
    let finals = c.decision_count-finals.result in
    let count : finals ≡ length ds = c.decision_count-finals.ensures in
    totals_are_those s c.args.core.now.journal c.from.result finals c.if-finals-gt0.last (c.from.ensures ∙ c.settled_count.ensures) count (elim c.if-finals-gt0.branch [
      | then-finals-gt0 w ↦ w.last-is ∙ the_last ds (finals - 1) w.decision.result.now (let some = w.if-finals-gt0.true in omega arith) w.decision.ensures
      | else-finals-gt0 w ↦ w.last-is ∙ no_last ds (let none = w.if-finals-gt0.false in omega arith)
    ])
