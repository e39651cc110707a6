use Rattle.std.proofs.Common.{cond, Some, ◌∙◌, ap}
use Rattle.std.specs.Map.{lookup}
use Rattle.hw_types.specs.declared.unit.Digest.{Digest}
use Rattle.hw_types.specs.Graph.{digest_eq}
use Rattle.hw_audit.proofs.KnownLaws.{known_step}
use Rattle.hw_audit.proofs.clash.note.Goals as goal

pub returns : goal.returns
returns c units table =
    known_step c.args.known.now.entries _ units c.args.unit.now c.known_with-next.result table c.known_with-next.ensures
    (λ d. c.in_ok-insert.ensures.updates.0 d ∙ ap (λ (n : Digest). cond (digest_eq n d) (Some c.known_with-next.result) (lookup (digest_eq d) c.args.known.now.entries)) c.name.ensures.name)
