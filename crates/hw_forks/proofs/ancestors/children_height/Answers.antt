use Rattle.std.proofs.Common.{◌<◌, ap, subst, ◌∙◌, arith, ℕ, Option}
use Rattle.std.specs.Prelude.{unwrap_or, IfSome}
use Rattle.hw_dag.specs.declared.numbers.UnitNo.{UnitNo}
use Rattle.hw_dag.specs.Dag.{SettledUnit, count_of}
use Rattle.hw_dag.proofs.KeptLaws.{height_bound}
use Rattle.hw_forks.proofs.ancestors.children_height.Goals as goal

pub overflow_add-result : goal.overflow_add-result
overflow_add-result c =
    let known : c.in-Some.block.0 < count_of c.args.dag.now = subst (λ (o : Option UnitNo). IfSome o (λ p. p.0 < count_of c.args.dag.now)) c.in-Some.is c.requires.known in
    let bounded = c.requires.graph.bounded in
    let low = height_bound c.args.dag.now c.requires.graph c.in-Some.block.0 known in
    let height = c.unwrap_or.ensures ∙ ap (λ (o : Option ℕ). unwrap_or o 0) (c.height.ensures ∙ ap (λ (u : SettledUnit). u.height) c.unit.ensures) in
    omega arith
