use Rattle.std.proofs.Common.{List, [], ◌∷◌, ◌++◌, take, ap, sym, ◌∙◌}
use Rattle.std.proofs.lemmas.List.{map-append}
use Rattle.hw_types.specs.declared.unit.Digest.{Digest}
use Rattle.hw_types.specs.declared.answers.Decision.{Decision}
use Rattle.hw_safety.specs.Verdicts.{chain_of}
use Rattle.hw_core.specs.Decided.{decided_in}
use Rattle.hw_safety.proofs.FrontLaws.{front_more}
use Rattle.hw_audit.proofs.nodes.blocks.Goals as goal

pub loop-index-preserved : goal.loop-index-preserved
loop-index-preserved c =
    c.in_ok-push.ensures.items ∙ ap (λ (bs : List Digest). bs ++ c.decision.result.now.block ∷ []) c.loop-index.invariant
    ∙ sym (ap (λ (ds : List Decision). chain_of ds) (front_more (decided_in c.args.core.now) c.loop-index.index c.decision.result.now c.decision.ensures)
    ∙ map-append (λ (d : Decision). d.block) (take c.loop-index.index (decided_in c.args.core.now)) (c.decision.result.now ∷ []))
