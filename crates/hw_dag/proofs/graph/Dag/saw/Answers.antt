use Rattle.std.proofs.Common.{List, refl, sym, ap, subst, ◌∙◌}
use Rattle.std.proofs.lemmas.List.{get_or_read}
use Rattle.hw_dag.specs.declared.numbers.View.{View}
use Rattle.hw_dag.specs.declared.numbers.View.TheVariants as view
use Rattle.hw_dag.specs.Dag.{SettledUnit, view_at}
use Rattle.hw_dag.specs.Admission.{IsGraph}
use Rattle.hw_dag.specs.Walks.{Cites}
use Rattle.hw_dag.proofs.PlaceLaws.{read_unit}
use Rattle.hw_dag.proofs.MarkLaws.{seen_along, seen_through}
use Rattle.hw_dag.proofs.graph.Dag.saw.Goals as goal

pub returns-then-shows : goal.returns-then-shows
returns-then-shows c = λ t.
    let graph = subst IsGraph c.self.view_is c.self.invariant.0.graph_is in
    let first = c.first_marking-first.ensures in
    let views = c.views-slot-items.ensures ∙ c.panorama.ensures ∙ ap (λ (u : SettledUnit). u.panorama) (read_unit _ c.args.self.now c.first_marking-first.result.0 c.index.result.now c.self.view_is first.known c.index.ensures) in
    let seen = c.view.ensures ∙ get_or_read c.views-slot-items.result.now c.loop-slot.slot-index c.slot-item.result c.loop-slot-test.true c.slot-item.is view.Absent in
    let shown = c.shows.ensures c.if-shows.true in
    let cites : Cites c.args.self.now c.first_marking-first.result.0 shown.0.0 = record {
      slot = c.loop-slot.slot-index;
      number = shown.0;
      seen = ap (λ (ws : List View). view_at ws c.loop-slot.slot-index) (sym views) ∙ sym seen ∙ shown.1;
      is = refl;
    } in
    seen_along c.args.self.now graph c.args.low.0 c.first_marking-first.result.0 c.args.high.0 c.requires.low_known first.known c.requires.high_known
    (seen_through c.args.self.now graph c.args.low.0 shown.0.0 c.first_marking-first.result.0 c.requires.low_known first.known shown.2 cites) first.on_lane
