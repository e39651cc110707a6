use Rattle.std.proofs.Common.{◌≡◌, ℕ, List, Some, sym, subst, arith}
use Rattle.std.specs.Prelude.{slice_get}
use Rattle.hw_types.specs.Settled.{missing_of}
use Rattle.hw_types.specs.declared.unit.SignedUnit.{SignedUnit}
use Rattle.hw_types.specs.declared.unit.Vertex.{Vertex}
use Rattle.hw_types.specs.declared.unit.Vertex.TheVariants as vertex
use Rattle.hw_types.specs.Graph.{digest_eq}
use Rattle.std.specs.Map.{lookup}
use Rattle.hw_types.specs.Real.{CoreState}
use Rattle.hw_dag.specs.Dag.{graph}
use Rattle.hw_core.specs.declared.place.Place.TheVariants as place
use Rattle.hw_core.specs.declared.unmet.SearchEnd.{SearchEnd}
use Rattle.hw_core.specs.Settle.{known_in}
use Rattle.hw_core.specs.Missing.{IsFoundIn}
use Rattle.hw_core.specs.Readers.{IsPlace, IsUnsettled}
use Rattle.hw_core.proofs.ReaderLaws.{unit_found, unit_none, known_for, never_so_many, parked_place}
use Rattle.hw_core.proofs.kept.CoreInner.place_of_unsettled.Goals as goal

pub missing_at-requires : goal.missing_at-requires
missing_at-requires c =
    let core = c.self.inside in
    let found = c.in-Some.ensures.found in
    let known = unit_found core.instance core.journal.items core.names.entries core.park core.dropped.entries core.dropped.room core.state core.fork core.decided core.shown c.self.invariant c.args.unit.now c.in-Some.known.now found.0 found.1 (subst (λ (vs : List Vertex). slice_get vs found.0 ≡ Some (vertex.Unit c.in-Some.known.now)) c.as_slice.ensures.value found.2) in
    (known_for core.instance core.journal.items core.names.entries core.park core.dropped.entries core.dropped.room core.state core.fork core.decided core.shown c.self.invariant c.args.unit.now c.in-Some.known.now known).length_is

pub unreachable-requires : goal.unreachable-requires
unreachable-requires c =
    let core = c.self.inside in
    let found = c.in-Some.ensures.found in
    let known = unit_found core.instance core.journal.items core.names.entries core.park core.dropped.entries core.dropped.room core.state core.fork core.decided core.shown c.self.invariant c.args.unit.now c.in-Some.known.now found.0 found.1 (subst (λ (vs : List Vertex). slice_get vs found.0 ≡ Some (vertex.Unit c.in-Some.known.now)) c.as_slice.ensures.value found.2) in
    let at = subst (λ (r : SearchEnd). IsFoundIn (missing_of core.state.config (known_in core.state) (graph core.state.dag) (record { digest = c.args.unit.now; unit = c.in-Some.known.now.unit })) 4294967295 r) c.in-Found.is (c.missing_at.ensures c.args.unit.now) in
    never_so_many core.instance core.journal.items core.names.entries core.park core.dropped.entries core.dropped.room core.state core.fork core.decided core.shown c.self.invariant c.args.unit.now c.in-Some.known.now known _ 4294967295 (omega arith) at

pub returns-in-None : goal.returns-in-None
returns-in-None c =
    let core = c.self.inside in
    subst (λ (k : CoreState). IsPlace k c.args.unit.now place.Unknown) c.self.view_is (unit_none core.instance core.journal.items core.names.entries core.park core.dropped.entries core.dropped.room core.state core.fork core.decided core.shown c.self.invariant c.args.unit.now (subst (λ (vs : List Vertex). (n : ℕ) (u : SignedUnit) → lookup (digest_eq c.args.unit.now) core.names.entries ≡ Some n → slice_get vs n ≡ Some (vertex.Unit u) → ⊥) c.as_slice.ensures.value c.in-None.ensures.none))

pub returns-in-Passed : goal.returns-in-Passed
returns-in-Passed c =
    let core = c.self.inside in
    let found = c.in-Some.ensures.found in
    let known = unit_found core.instance core.journal.items core.names.entries core.park core.dropped.entries core.dropped.room core.state core.fork core.decided core.shown c.self.invariant c.args.unit.now c.in-Some.known.now found.0 found.1 (subst (λ (vs : List Vertex). slice_get vs found.0 ≡ Some (vertex.Unit c.in-Some.known.now)) c.as_slice.ensures.value found.2) in
    let misses = subst (λ (k : CoreState). IsUnsettled k c.args.unit.now) (sym c.self.view_is) c.requires in
    let passed = subst (λ (r : SearchEnd). IsFoundIn (missing_of core.state.config (known_in core.state) (graph core.state.dag) (record { digest = c.args.unit.now; unit = c.in-Some.known.now.unit })) 4294967295 r) c.in-Passed.is (c.missing_at.ensures c.args.unit.now) in
    subst (λ (k : CoreState). IsPlace k c.args.unit.now (place.Parked c.in-Passed.count)) c.self.view_is (parked_place core.instance core.journal.items core.names.entries core.park core.dropped.entries core.dropped.room core.state core.fork core.decided core.shown c.self.invariant c.args.unit.now c.in-Some.known.now known misses c.in-Passed.count 4294967295 passed)
