use Rattle.std.proofs.Common.{sym, ap, ◌∙◌}
use Rattle.std.specs.Map.{lookup}
use Rattle.hw_types.specs.Graph.{digest_eq}
use Rattle.hw_core.specs.Entries.{Entries, insert_entry}
use Rattle.hw_core.proofs.EntryLaws.{found_nowhere, inserted_new, inserted_old}
use Rattle.hw_core.proofs.digest_map.DigestMap.insert.Goals as goal

pub push-requires-clause-fresh : goal.push-requires-clause-fresh
push-requires-clause-fresh g c =
    ap (λ (e : Entries g.row.V.Denot). lookup (digest_eq c.args.name) e.entries) (sym c.self.view_is)
    ∙ found_nowhere (digest_eq c.args.name) c.self.inside.names.names c.self.inside.values.items (sym c.in-None.ensures.found)

pub returns-in-Some-clause-entries : goal.returns-in-Some-clause-entries
returns-in-Some-clause-entries g c =
    inserted_old digest_eq c.args.name c.args.value c.self.inside.names.names c.self.inside.values.items c.in-Some.place c.self.invariant.0 (sym c.in-Some.ensures.place)
    ∙ ap (λ (e : Entries g.row.V.Denot). insert_entry digest_eq e.entries c.args.name c.args.value) c.self.view_is

pub returns-in-None-clause-entries : goal.returns-in-None-clause-entries
returns-in-None-clause-entries g c =
    c.push.ensures.entries ∙ sym (inserted_new digest_eq c.args.name c.args.value c.args.self.now.entries
    (ap (λ (e : Entries g.row.V.Denot). lookup (digest_eq c.args.name) e.entries) (sym c.self.view_is)
    ∙ found_nowhere (digest_eq c.args.name) c.self.inside.names.names c.self.inside.values.items (sym c.in-None.ensures.found)))
