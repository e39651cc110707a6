use Rattle.std.proofs.Common.{List, [], ◌∷◌, ◌++◌, length, zip, sym, ap, subst, ◌∙◌, length-append, arith}
use Rattle.std.specs.List.{IsDistinct}
use Rattle.std.specs.Map.{lookup}
use Rattle.std.proofs.lemmas.Map.Keys.{IsDistinct-push}
use Rattle.hw_types.specs.declared.unit.Digest.{Digest}
use Rattle.hw_types.specs.Graph.{digest_eq}
use Rattle.hw_core.specs.Entries.{Entries}
use Rattle.hw_core.proofs.EntryLaws.{digests_alike, passes_nowhere, zip_push}
use Rattle.hw_core.proofs.digest_map.DigestMap.push.Goals as goal

pub push-requires-clause-fresh : goal.push-requires-clause-fresh
push-requires-clause-fresh g c =
    passes_nowhere (digest_eq c.args.name) c.self.inside.names.names c.self.inside.values.items c.self.invariant.0
    (ap (λ (e : Entries g.row.V.Denot). lookup (digest_eq c.args.name) e.entries) c.self.view_is ∙ c.requires.fresh)

pub invariant_of-self : goal.invariant_of-self
invariant_of-self g c =
    let name = c.args.name in
    let names = c.self.inside.names.names in
    let fresh = passes_nowhere (digest_eq name) names c.self.inside.values.items c.self.invariant.0 (ap (λ (e : Entries g.row.V.Denot). lookup (digest_eq name) e.entries) c.self.view_is ∙ c.requires.fresh) in
    let more_names = ap (λ (ds : List Digest). length ds) c.push.ensures.names ∙ length-append names (name ∷ []) in
    let more_values = ap (λ (vs : List g.row.V.Denot). length vs) c.push_reserved.ensures.items ∙ length-append c.self.inside.values.items (c.args.value ∷ []) in
    let same = c.self.invariant.0 in
    (omega arith, subst (λ (ds : List Digest). IsDistinct digest_eq ds) (sym c.push.ensures.names) (IsDistinct-push digests_alike names name c.self.invariant.1 fresh))

pub returns-clause-entries : goal.returns-clause-entries
returns-clause-entries g c =
    (λ i. zip (c.push.ensures.names i) (c.push_reserved.ensures.items i))
    ∙ zip_push c.self.inside.names.names c.self.inside.values.items c.args.name c.args.value c.self.invariant.0
    ∙ ap (λ (e : Entries g.row.V.Denot). e.entries ++ (c.args.name, c.args.value) ∷ []) c.self.view_is
