use Rattle.std.proofs.Common.{ℕ, List, filter, Option, Some, sym, ap, ◌∙◌}
use Rattle.std.specs.Prelude.{slice_get}
use Rattle.std.specs.Option.{option_and_then, option_copied}
use Rattle.hw_types.specs.declared.unit.Vertex.{Vertex}
use Rattle.hw_core.specs.Journal.{JournalState, tells}
use Rattle.hw_core.proofs.JournalLaws.{got, told_found}
use Rattle.hw_core.proofs.NeedPlaceLaws.{places_found}
use Rattle.hw_core.proofs.journal.Journal.told_at.Goals as goal

pub returns-in_err-found : goal.returns-in_err-found
returns-in_err-found c =
    let journal = c.self.inside.vertices.items in
    let told = c.self.inside.told.entries in
    let at = places_found told c.key_of.result c.args.need.now (Some c.in_ok-places.places.now) c.key_of.ensures c.in_ok-places.ensures.value in
    ap (λ (o : Option _). option_copied o) c.from_residual-in_err-found.ensures
    ∙ ap (λ (o : Option ℕ). option_and_then (λ p. slice_get journal p) o) (c.in_err-found.ensures ∙ ap (λ (ns : List ℕ). slice_get ns c.args.place) (sym at))
    ∙ told_found journal told c.args.need.now c.args.place c.self.invariant
    ∙ ap (λ (j : JournalState). slice_get (filter (tells c.args.need.now) j.items) c.args.place) c.self.view_is

pub returns-in-Some : goal.returns-in-Some
returns-in-Some c =
    let journal = c.self.inside.vertices.items in
    let told = c.self.inside.told.entries in
    let found = c.in_ok-found.found in
    let at = places_found told c.key_of.result c.args.need.now (Some c.in_ok-places.places.now) c.key_of.ensures c.in_ok-places.ensures.value in
    ap (λ (v : Vertex). Some v) c.vertex.ensures
    ∙ sym (ap (λ (o : Option _). option_copied o) c.in-Some.is)
    ∙ got c.deref.result.now found c.get-3.result c.get-3.ensures.lookup.0 c.get-3.ensures.lookup.1
    ∙ ap (λ (vs : List Vertex). slice_get vs found) c.deref.ensures.value
    ∙ ap (λ (o : Option ℕ). option_and_then (λ p. slice_get journal p) o) (c.in_ok-found.ensures ∙ ap (λ (ns : List ℕ). slice_get ns c.args.place) (sym at))
    ∙ told_found journal told c.args.need.now c.args.place c.self.invariant
    ∙ ap (λ (j : JournalState). slice_get (filter (tells c.args.need.now) j.items) c.args.place) c.self.view_is

pub returns-in-None : goal.returns-in-None
returns-in-None c =
    let journal = c.self.inside.vertices.items in
    let told = c.self.inside.told.entries in
    let found = c.in_ok-found.found in
    let at = places_found told c.key_of.result c.args.need.now (Some c.in_ok-places.places.now) c.key_of.ensures c.in_ok-places.ensures.value in
    sym (ap (λ (o : Option _). option_copied o) c.in-None.is)
    ∙ got c.deref.result.now found c.get-3.result c.get-3.ensures.lookup.0 c.get-3.ensures.lookup.1
    ∙ ap (λ (vs : List Vertex). slice_get vs found) c.deref.ensures.value
    ∙ ap (λ (o : Option ℕ). option_and_then (λ p. slice_get journal p) o) (c.in_ok-found.ensures ∙ ap (λ (ns : List ℕ). slice_get ns c.args.place) (sym at))
    ∙ told_found journal told c.args.need.now c.args.place c.self.invariant
    ∙ ap (λ (j : JournalState). slice_get (filter (tells c.args.need.now) j.items) c.args.place) c.self.view_is
