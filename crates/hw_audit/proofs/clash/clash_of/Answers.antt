use Rattle.std.specs.Map.{lookup}
use Rattle.hw_types.specs.declared.unit.Digest.{Digest}
use Rattle.hw_types.specs.Graph.{digest_eq}
use Rattle.std.proofs.Common.{Option, ◌∙◌, ap}
use Rattle.hw_audit.specs.Clashes.{KnownUnits, unlike, clash_with}
use Rattle.hw_audit.proofs.clash.clash_of.Goals as goal

pub returns-in-Some : goal.returns-in-Some
returns-in-Some c =
    c.clash_with.ensures ∙ ap (λ (k : Option KnownUnits). clash_with (unlike k c.args.unit.now.signed.unit) c.args.unit.now.signed.unit) c.in-Some.ensures.value
    ∙ ap (λ (n : Digest). clash_with (unlike (lookup (digest_eq n) c.args.known.now.entries) c.args.unit.now.signed.unit) c.args.unit.now.signed.unit) c.name.ensures.name
