use Rattle.std.proofs.Common.{List, ap, subst, ◌∙◌}
use Rattle.hw_types.specs.declared.unit.Vertex.{Vertex}
use Rattle.hw_types.specs.Real.{CoreState}
use Rattle.hw_core.specs.Readers.{unit_in}
use Rattle.hw_core.proofs.ReaderLaws.{Given, NoneGiven, given_is, given_fits}
use Rattle.hw_core.proofs.kept.CoreInner.unit_of.Goals as goal

pub returns-clause-unit : goal.returns-clause-unit
returns-clause-unit c =
    let core = c.self.inside in
    given_is core.instance core.journal.items core.names.entries core.park core.dropped.entries core.dropped.room core.state core.fork core.decided core.shown c.self.invariant c.known_unit.result c.args.unit.now (subst (λ (vs : List Vertex). Given core.names.entries vs c.known_unit.result c.args.unit.now) c.as_slice.ensures.value c.known_unit.ensures.found)
    (subst (λ (vs : List Vertex). NoneGiven core.names.entries vs c.known_unit.result c.args.unit.now) c.as_slice.ensures.value c.known_unit.ensures.none) ∙ ap (λ (k : CoreState). unit_in k c.args.unit.now) c.self.view_is

pub returns-clause-fits : goal.returns-clause-fits
returns-clause-fits c =
    let core = c.self.inside in
    given_fits core.instance core.journal.items core.names.entries core.park core.dropped.entries core.dropped.room core.state core.fork core.decided core.shown c.self.invariant c.known_unit.result c.args.unit.now (subst (λ (vs : List Vertex). Given core.names.entries vs c.known_unit.result c.args.unit.now) c.as_slice.ensures.value c.known_unit.ensures.found)
