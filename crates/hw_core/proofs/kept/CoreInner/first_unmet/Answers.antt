use Rattle.std.proofs.Common.{List, length, take, ap, ◌∙◌}
use Rattle.hw_types.specs.declared.unit.Need.{Need}
use Rattle.hw_types.specs.Real.{CoreState}
use Rattle.hw_core.specs.Readers.{unmet_in}
use Rattle.hw_core.proofs.OrderLaws.{awaited_is}
use Rattle.hw_core.proofs.kept.CoreInner.first_unmet.Goals as goal

pub returns-clause-first : goal.returns-clause-first
returns-clause-first c =
    let core = c.self.inside in
    let most = length c.args.list.now in
    c.first_needs.ensures.first
    ∙ ap (λ (ns : List Need). take most ns) (awaited_is core.journal.items core.park core.state c.self.invariant.node core.names.entries c.self.invariant.table core.shown.asked)
    ∙ ap (λ (k : CoreState). take most (unmet_in k)) c.self.view_is
