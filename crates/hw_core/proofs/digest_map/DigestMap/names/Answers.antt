use Rattle.std.proofs.Common.{sym, ap, ◌∙◌}
use Rattle.std.specs.Map.{keys_of}
use Rattle.std.proofs.lemmas.Slice.Zip.{firsts-zip}
use Rattle.hw_core.specs.Entries.{Entries}
use Rattle.hw_core.proofs.digest_map.DigestMap.names.Goals as goal

pub returns : goal.returns
returns g c =
    c.as_slice.ensures ∙ sym (firsts-zip c.self.inside.names.names c.self.inside.values.items c.self.invariant.0)
    ∙ ap (λ (e : Entries g.row.V.Denot). keys_of e.entries) c.self.view_is
