use Rattle.std.proofs.Common.{◌<◌, sym, ap, subst, ◌∙◌, arith, ℕ, Option}
use Rattle.std.specs.Prelude.{unwrap_or, IfSome}
use Rattle.std.proofs.lemmas.List.{get_or_read}
use Rattle.hw_dag.specs.declared.numbers.UnitNo.{UnitNo}
use Rattle.hw_dag.specs.Dag.{UnitGraph, SettledUnit, stand_in, count_of}
use Rattle.hw_dag.proofs.KeptLaws.{height_bound}
use Rattle.hw_dag.proofs.graph.Dag.height_above.Goals as goal

pub overflow_add-result : goal.overflow_add-result
overflow_add-result c =
    let known : c.in-Some.parent.0 < count_of c.args.self.now = subst (λ (o : Option UnitNo). IfSome o (λ p. p.0 < count_of c.args.self.now)) c.in-Some.is c.requires in
    let same = ap (λ (d : UnitGraph). count_of d) c.self.view_is in
    let graph = c.self.invariant.0.graph_is in
    let bounded = graph.bounded in
    let low = height_bound _ graph c.in-Some.parent.0 (subst (λ (n : ℕ). c.in-Some.parent.0 < n) (sym same) known) in
    let read = get_or_read c.self.inside.units.items c.in-Some.parent.0 c.index.result.now (subst (λ (n : ℕ). c.in-Some.parent.0 < n) (sym same) known) c.index.ensures stand_in in
    let height = c.unwrap_or.ensures ∙ ap (λ (o : Option ℕ). unwrap_or o 0) (c.height.ensures ∙ ap (λ (u : SettledUnit). u.height) read) in
    omega arith
