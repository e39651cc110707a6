use Rattle.std.proofs.Common.{not, List, sym, ap, subst, ◌∙◌}
use Rattle.hw_types.specs.declared.unit.Obs.{Obs}
use Rattle.hw_types.specs.Graph.{is_consistent}
use Rattle.hw_dag.specs.declared.numbers.View.{View}
use Rattle.hw_dag.specs.Dag.{IsPanorama, graph, observations}
use Rattle.hw_rules.proofs.CaseLaws.{panorama_is, consistent_below}
use Rattle.hw_rules.proofs.citations.is_inconsistent.Goals as goal

pub consistent-requires : goal.consistent-requires
consistent-requires c = subst (λ (ws : List View). IsPanorama c.args.dag.now ws) (sym c.panorama.ensures) (panorama_is c.args.dag.now c.args.prepared.now c.requires.case c.requires.slots)

pub returns : goal.returns
returns c = ap not (c.consistent.ensures ∙ ap (λ (ws : List View). is_consistent (graph c.args.dag.now) (observations c.args.dag.now ws)) c.panorama.ensures
    ∙ ap (λ (os : List Obs). is_consistent (graph c.args.dag.now) os) c.requires.case.resolved.observes ∙ sym (consistent_below c.args.dag.now c.args.prepared.now c.requires.case))
