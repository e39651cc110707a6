use Rattle.std.proofs.Common.{sym, ◌∙◌}
use Rattle.hw_dag.proofs.ResolveLaws.{near_new}
use Rattle.hw_dag.proofs.graph.Dag.has_near.Goals as goal

pub returns : goal.returns
returns c =
    let told = near_new c.args.self.now c.args.name.now c.find_near.result c.find_near.ensures.known c.find_near.ensures.unknown in
    ((λ f. told.0 (sym c.is_some.ensures ∙ f)), (λ new. c.is_some.ensures ∙ told.1 new))
