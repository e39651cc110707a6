use Rattle.std.proofs.Common.{length, Option, refl, sym, ap, ◌∙◌, arith}
use Rattle.std.specs.Map.{lookup}
use Rattle.std.specs.Option.{option_copied}
use Rattle.std.proofs.lemmas.List.Quantifiers.{position-Some}
use Rattle.std.proofs.lemmas.Option.{slice_get_read}
use Rattle.hw_types.specs.Graph.{digest_eq}
use Rattle.hw_core.specs.Entries.{Entries}
use Rattle.hw_core.proofs.EntryLaws.{found_nowhere, found_at}
use Rattle.hw_core.proofs.digest_map.DigestMap.get.Goals as goal

pub returns-in_err-place : goal.returns-in_err-place
returns-in_err-place g c =
    let name = c.args.name.now in
    record {
      value = ap (λ (o : Option _). option_copied o) c.from_residual.ensures
          ∙ sym (found_nowhere (digest_eq name) c.self.inside.names.names c.self.inside.values.items (sym c.in_err-place.ensures.found))
          ∙ ap (λ (e : Entries g.row.V.Denot). lookup (digest_eq name) e.entries) c.self.view_is;
    }

pub index-requires : goal.index-requires
index-requires g c =
    let first = (position-Some (digest_eq c.args.name.now) c.self.inside.names.names c.in_ok-place.place c.args.name.now (sym c.in_ok-place.ensures.place)).0 in
    let same = c.self.invariant.0 in
    let ok = c.self.inside.values.ok in
    omega arith

pub returns : goal.returns
returns g c =
    let name = c.args.name.now in
    let values = c.self.inside.values.items in
    let place = c.in_ok-place.place in
    let first = (position-Some (digest_eq name) c.self.inside.names.names place name (sym c.in_ok-place.ensures.place)).0 in
    let same = c.self.invariant.0 in
    record {
      value = sym (slice_get_read values (length values) place c.index.result.now refl (omega arith) c.index.ensures)
          ∙ found_at (digest_eq name) c.self.inside.names.names values place same (sym c.in_ok-place.ensures.place)
          ∙ ap (λ (e : Entries g.row.V.Denot). lookup (digest_eq name) e.entries) c.self.view_is;
    }
