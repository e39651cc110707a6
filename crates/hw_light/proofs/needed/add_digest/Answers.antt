use Rattle.std.proofs.Common.{List, [], ◌∷◌, ◌++◌, sym, ap, ◌∙◌}
use Rattle.std.specs.List.{list_any}
use Rattle.hw_types.specs.declared.unit.Digest.{Digest}
use Rattle.hw_types.specs.Graph.{digest_eq}
use Rattle.hw_light.proofs.GatherLaws.{digest_there, digest_last}
use Rattle.hw_light.proofs.needed.add_digest.Goals as goal

pub returns-then-is_some : goal.returns-then-is_some
returns-then-is_some c d = digest_there c.args.listed.now.names c.args.digest d (sym c.find.ensures.found ∙ sym c.is_some.ensures ∙ c.if-is_some.true)

pub push-requires-clause-fresh : goal.push-requires-clause-fresh
push-requires-clause-fresh c =
    ap (λ (ds : List Digest). list_any (digest_eq c.args.digest) ds) c.reserve.ensures.names ∙ sym c.find.ensures.found ∙ sym c.is_some.ensures ∙ c.if-is_some.false

pub returns : goal.returns
returns c d =
    ap (λ (ds : List Digest). list_any (digest_eq d) ds) (c.push.ensures.names ∙ ap (λ (ds : List Digest). ds ++ c.args.digest ∷ []) c.reserve.ensures.names)
    ∙ digest_last c.args.listed.now.names c.args.digest d
