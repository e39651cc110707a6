use Rattle.std.proofs.Common.{◌≡◌, ℕ, zero, suc, List, [], take, Some, None, Option, refl, sym, ap, subst, ◌∙◌}
use Rattle.std.specs.Prelude.{slice_get}
use Rattle.std.specs.Map.{lookup}
use Rattle.hw_types.specs.declared.unit.Need.{Need}
use Rattle.hw_types.specs.declared.unit.SignedUnit.{SignedUnit}
use Rattle.hw_types.specs.declared.unit.Vertex.{Vertex}
use Rattle.hw_types.specs.declared.unit.Vertex.TheVariants as vertex
use Rattle.hw_types.specs.Graph.{digest_eq}
use Rattle.hw_types.specs.Real.{CoreState}
use Rattle.hw_core.specs.Readers.{missing_needs, missed_by}
use Rattle.hw_core.proofs.ReaderLaws.{unit_found, unit_none, known_for, missed_is}
use Rattle.hw_core.proofs.kept.CoreInner.first_missing.Goals as goal

none_of : {A : Type 0} (n : ℕ) → take {A = A} n [] ≡ []
none_of zero = refl
none_of (suc n) = refl

pub missing-requires : goal.missing-requires
missing-requires c =
    let core = c.self.inside in
    let found = c.in-Some.ensures.found in
    let known = unit_found core.instance core.journal.items core.names.entries core.park core.dropped.entries core.dropped.room core.state core.fork core.decided core.shown c.self.invariant c.args.unit.now c.in-Some.known.now found.0 found.1 (subst (λ (vs : List Vertex). slice_get vs found.0 ≡ Some (vertex.Unit c.in-Some.known.now)) c.as_slice.ensures.value found.2) in
    (known_for core.instance core.journal.items core.names.entries core.park core.dropped.entries core.dropped.room core.state core.fork core.decided core.shown c.self.invariant c.args.unit.now c.in-Some.known.now known).length_is

pub returns-in-None : goal.returns-in-None
returns-in-None c =
    let core = c.self.inside in
    let none = unit_none core.instance core.journal.items core.names.entries core.park core.dropped.entries core.dropped.room core.state core.fork core.decided core.shown c.self.invariant c.args.unit.now (subst (λ (vs : List Vertex). (n : ℕ) (u : SignedUnit) → lookup (digest_eq c.args.unit.now) core.names.entries ≡ Some n → slice_get vs n ≡ Some (vertex.Unit u) → ⊥) c.as_slice.ensures.value c.in-None.ensures.none) in
    c.new.ensures ∙ sym (none_of c.args.most)
    ∙ ap (λ (o : Option SignedUnit). take c.args.most (missed_by (record { config = core.state.config; journal = core.journal.items; asked = core.shown.asked }) o)) (sym none)
    ∙ ap (λ (k : CoreState). take c.args.most (missing_needs k c.args.unit.now)) c.self.view_is

pub returns-in_ok-needs-in-Some : goal.returns-in_ok-needs-in-Some
returns-in_ok-needs-in-Some c =
    let core = c.self.inside in
    let found = c.in-Some.ensures.found in
    let known = unit_found core.instance core.journal.items core.names.entries core.park core.dropped.entries core.dropped.room core.state core.fork core.decided core.shown c.self.invariant c.args.unit.now c.in-Some.known.now found.0 found.1 (subst (λ (vs : List Vertex). slice_get vs found.0 ≡ Some (vertex.Unit c.in-Some.known.now)) c.as_slice.ensures.value found.2) in
    c.from_vec.ensures ∙ c.truncate.ensures.items
    ∙ ap (λ (ns : List Need). take c.args.most ns) (c.in_ok-needs-in-Some.ensures c.args.unit.now ∙ missed_is core.instance core.journal.items core.names.entries core.park core.dropped.entries core.dropped.room core.state core.fork core.decided core.shown c.self.invariant c.args.unit.now c.in-Some.known.now known)
    ∙ ap (λ (k : CoreState). take c.args.most (missing_needs k c.args.unit.now)) c.self.view_is
