use Rattle.std.proofs.Common.{List, sym, ap, ◌∙◌}
use Rattle.hw_types.specs.declared.unit.SignedUnit.{SignedUnit}
use Rattle.hw_dag.specs.declared.numbers.View.{View}
use Rattle.hw_dag.specs.Dag.{observations}
use Rattle.hw_dag.specs.Admission.{node_prepared}
use Rattle.hw_naivety.specs.Tips.{HasLists}
use Rattle.hw_naivety.proofs.BelowLaws.{lists_kept}
use Rattle.hw_naivety.proofs.NotedLaws.{moved}
use Rattle.hw_naivety.proofs.tracker.Naivety.check_consistent.Goals as goal

pub check_marked-requires-clause-lists : goal.check_marked-requires-clause-lists
check_marked-requires-clause-lists c =
    moved (λ ws ds. HasLists c.args.dag.now ws ds) c.args.prepared.now.panorama c.panorama.result.now c.args.prepared.now.signed.unit.endorsed c.as_slice-endorsed.result.now (sym c.panorama.ensures)
    (sym (c.as_slice-endorsed.ensures ∙ ap (λ (s : SignedUnit). s.unit.endorsed) c.signed.ensures))
    (lists_kept c.args.dag.now c.recall_graph.ensures c.args.prepared.now.panorama c.requires.panorama.known (node_prepared c.args.prepared.now) c.requires.resolved.observes c.requires.endorsed)

pub returns-clause-none : goal.returns-clause-none
returns-clause-none c = c.check_marked.ensures.none (node_prepared c.args.prepared.now) (record {
  observes = ap (λ (ws : List View). observations c.args.dag.now ws) c.panorama.ensures ∙ c.requires.resolved.observes;
  endorsed_is = c.as_slice-endorsed.ensures ∙ ap (λ (s : SignedUnit). s.unit.endorsed) c.signed.ensures;
})

pub returns-clause-least : goal.returns-clause-least
returns-clause-least c = c.check_marked.ensures.least (node_prepared c.args.prepared.now) (record {
  observes = ap (λ (ws : List View). observations c.args.dag.now ws) c.panorama.ensures ∙ c.requires.resolved.observes;
  endorsed_is = c.as_slice-endorsed.ensures ∙ ap (λ (s : SignedUnit). s.unit.endorsed) c.signed.ensures;
})
