use Rattle.std.specs.Map.{lookup}
use Rattle.hw_types.specs.declared.unit.Digest.{Digest}
use Rattle.hw_types.specs.Graph.{digest_eq}
use Rattle.std.proofs.Common.{Option, ◌∙◌, ap}
use Rattle.hw_audit.specs.Clashes.{KnownUnits, known_with}
use Rattle.hw_audit.proofs.clash.known_with.Goals as goal

pub returns-in-Some : goal.returns-in-Some
returns-in-Some c =
    c.with.ensures ∙ ap (λ (k : Option KnownUnits). known_with k c.args.unit.now.signed.unit) c.in-Some.ensures.value
    ∙ ap (λ (n : Digest). known_with (lookup (digest_eq n) c.args.known.now.entries) c.args.unit.now.signed.unit) c.name.ensures.name
