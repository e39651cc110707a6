use Rattle.std.proofs.Common.{sym, ap, subst, ◌∙◌}
use Rattle.hw_dag.specs.Dag.{SettledUnit, unit_at}
use Rattle.hw_dag.specs.Admission.{IsGraph}
use Rattle.hw_dag.proofs.PlaceLaws.{read_unit, read_slot}
use Rattle.hw_dag.proofs.MarkLaws.{seen_on_cited}
use Rattle.hw_dag.proofs.graph.Dag.shows.Goals as goal

pub returns-in-Correct-get : goal.returns-in-Correct-get
returns-in-Correct-get c = λ t.
    let graph = subst IsGraph c.self.view_is c.self.invariant.0.graph_is in
    let known = c.requires.known c.in-Correct.no c.in-Correct.is in
    let panorama = c.panorama.ensures ∙ ap (λ (u : SettledUnit). u.panorama) (read_unit _ c.args.self.now c.in-Correct.no.0 c.index.result.now c.self.view_is known c.index.ensures) in
    let slot = read_slot (unit_at c.args.self.now c.in-Correct.no.0).panorama c.panorama.result.now _ c.args.creator c.get.result panorama (sym c.requires.creator) c.get.ensures in
    (c.in-Correct.no, c.in-Correct.is, seen_on_cited c.args.self.now graph c.args.low.0 c.in-Correct.no.0 c.in-Correct-get.last c.requires.low_known known (slot ∙ c.in-Correct-get.is) (sym c.on_lane_of.ensures ∙ t))
