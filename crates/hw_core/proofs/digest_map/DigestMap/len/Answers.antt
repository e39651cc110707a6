use Rattle.std.proofs.Common.{List, length, sym, ap, subst, arith}
use Rattle.std.specs.List.{IsDistinct}
use Rattle.std.specs.Map.{keys_of}
use Rattle.std.proofs.lemmas.Slice.Zip.{length-zip, firsts-zip}
use Rattle.hw_types.specs.declared.unit.Digest.{Digest}
use Rattle.hw_types.specs.Graph.{digest_eq}
use Rattle.hw_core.specs.Entries.{Entries}
use Rattle.hw_core.proofs.digest_map.DigestMap.len.Goals as goal

pub returns-clause-len : goal.returns-clause-len
returns-clause-len g c =
    let many = length-zip c.self.inside.names.names c.self.inside.values.items in
    let same = c.self.invariant.0 in
    let len = c.len.ensures in
    let ok = c.self.inside.values.ok in
    let shown = ap (λ (e : Entries g.row.V.Denot). length e.entries) c.self.view_is in
    omega arith

pub returns-clause-distinct : goal.returns-clause-distinct
returns-clause-distinct g c =
    subst (λ (e : Entries g.row.V.Denot). IsDistinct digest_eq (keys_of e.entries)) c.self.view_is
    (subst (λ (ks : List Digest). IsDistinct digest_eq ks) (sym (firsts-zip c.self.inside.names.names c.self.inside.values.items c.self.invariant.0)) c.self.invariant.1)
