use Rattle.std.proofs.Common.{◌≡◌, refl, sym, subst}
use Rattle.std.specs.Prelude.{◌<◌}
use Rattle.hw_types.specs.Real.{CoreState}
use Rattle.hw_dag.specs.Dag.{UnitGraph, count_of, unit_at}
use Rattle.hw_dag.specs.Admission.{IsNew}
use Rattle.hw_core.specs.declared.place.Place.TheVariants as place
use Rattle.hw_core.specs.Readers.{IsPlace, IsUnsettled}
use Rattle.hw_core.proofs.ReaderLaws.{settled_place, dropped_place, unsettled}
use Rattle.hw_core.proofs.kept.CoreInner.place_of.Goals as goal

pub returns-in-Some : goal.returns-in-Some
returns-in-Some c =
    let core = c.self.inside in
    let number = c.in-Some.no in
    let found = subst (λ (d : UnitGraph). (number.0 < count_of d) × ((unit_at d number.0).digest ≡ c.args.unit.now)) c.dag.ensures.dag c.in-Some.ensures.found in
    subst (λ (k : CoreState). IsPlace k c.args.unit.now (place.Settled number)) c.self.view_is (settled_place core.instance core.journal.items core.names.entries core.park core.dropped.entries core.dropped.room core.state core.fork core.decided core.shown c.self.invariant c.args.unit.now number c.dag.ensures.graph found.0 found.1)

pub returns-in-Some-get : goal.returns-in-Some-get
returns-in-Some-get c =
    let core = c.self.inside in
    subst (λ (k : CoreState). IsPlace k c.args.unit.now (place.Dropped c.in-Some-get.rule.now)) c.self.view_is (dropped_place core.instance core.journal.items core.names.entries core.park core.dropped.entries core.dropped.room core.state core.fork core.decided core.shown c.self.invariant c.args.unit.now c.in-Some-get.rule.now (sym c.in-Some-get.ensures.value))

pub place_of_unsettled-requires : goal.place_of_unsettled-requires
place_of_unsettled-requires c =
    let core = c.self.inside in
    let fresh = subst (λ (d : UnitGraph). IsNew d c.args.unit.now) c.dag.ensures.dag (c.in-None.ensures.none.0 refl) in
    subst (λ (k : CoreState). IsUnsettled k c.args.unit.now) c.self.view_is (unsettled core.instance core.journal.items core.names.entries core.park core.dropped.entries core.dropped.room core.state core.fork core.decided core.shown c.self.invariant c.args.unit.now fresh c.in-None-get.ensures.value)
