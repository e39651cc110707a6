use Rattle.std.proofs.Common.{[], refl, ap, ◌∙◌}
use Rattle.std.specs.Prelude.{unwrap_or}
use Rattle.hw_types.specs.declared.unit.SignedUnit.{SignedUnit}
use Rattle.hw_dag.specs.Dag.{UnitGraph, SettledUnit, graph}
use Rattle.hw_eras.specs.Eras.{next_config}
use Rattle.hw_eras.proofs.EndedLaws.{never_new, next_is, answered_next}
use Rattle.hw_eras.proofs.opening.config_after.Goals as goal

pub unreachable-requires : goal.unreachable-requires
unreachable-requires c =
    let settled = ap (λ (d : UnitGraph). graph d) c.dag-dag.ensures.dag ∙ c.state-state.ensures.settled in
    never_new c.args.core.now c.requires.made c.args.block.now c.requires.last c.dag-dag.result.now c.recall_graph.ensures settled (c.in-None.ensures.none.0 refl)

pub returns-clause-next : goal.returns-clause-next
returns-clause-next c =
    let settled = ap (λ (d : UnitGraph). graph d) c.dag-dag.ensures.dag ∙ c.state-state.ensures.settled in
    let says = c.value_of.ensures ∙ ap (λ (s : SignedUnit). unwrap_or s.unit.value []) (c.signed.ensures ∙ ap (λ (u : SettledUnit). u.signed) c.unit.ensures) in
    answered_next c.args.core.now c.next_config.result (next_config c.config.result.now c.args.block.now c.value_of.result.now)
    (next_is c.args.core.now c.requires.made c.args.block.now c.requires.last c.dag-dag.result.now c.recall_graph.ensures settled
    c.in-Some.no.0 c.in-Some.ensures.found.0 c.in-Some.ensures.found.1 c.config.result.now c.value_of.result.now (c.config.ensures.config ∙ c.state-state.ensures.config) says)
    c.next_config.ensures.next
