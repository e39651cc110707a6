-- A conflict is told.
use Rattle.std.proofs.Common.{◌≡◌, inl, inr, List, Option, Some, None, Ok, refl, ap, ◌∙◌}
use Rattle.hw_types.specs.declared.unit.Vertex.{Vertex}
use Rattle.hw_types.specs.declared.config.Config.{Config}
use Rattle.hw_types.specs.Real.{setting_of}
use Rattle.hw_safety.specs.Decided.{decisions_of}
use Rattle.hw_safety.specs.Verdicts.{chain_of}
use Rattle.hw_audit.specs.declared.chains.Parting.{Parting}
use Rattle.hw_audit.specs.Clashes.{UnitPair}
use Rattle.hw_audit.specs.Chains.{parting_of}
use Rattle.hw_audit.proofs.ChainLaws.{no_part}
use Rattle.hw_safety.specs.Chain.{Begins}
use Rattle.hw_audit.proofs.ToldLaws.{none_first}
use Rattle.hw_replay.specs.Taken.{Taken}
use Rattle.hw_commands.specs.Commands.{Request}
use Rattle.hw_commands.specs.Audited.{chains_ended, clash_or, audit_ended}
use Rattle.hw_commands.specs.Program.{◌>>=◌, Part, ended, audited_against, request_said, run_of}
use Rattle.hw_commands.specs.Laws.{ConflictIsReported}

-- ---- a conflict is told

module _ (config : Config) (left right : List Vertex) where
  differing : (p : Option Parting) → parting_of (chain_of (decisions_of (setting_of config) left)) (chain_of (decisions_of (setting_of config) right)) ≡ p
      → (Begins (chain_of (decisions_of (setting_of config) left)) (chain_of (decisions_of (setting_of config) right)) → ⊥)
      → (Begins (chain_of (decisions_of (setting_of config) right)) (chain_of (decisions_of (setting_of config) left)) → ⊥)
      → (chains_ended (setting_of config) left right p).status ≡ 3
  differing (Some p) is left_longer right_longer = refl
  differing None is left_longer right_longer = elim (no_part (decisions_of (setting_of config) left) (decisions_of (setting_of config) right) is).begins [ inl b ↦ absurd (left_longer b) | inr b ↦ absurd (right_longer b) ]

pub conflict_is_reported : ConflictIsReported
unfolding run_of audit_ended
conflict_is_reported words held left right first second asked first_is second_is none left_longer right_longer =
    let s = setting_of first.core.config in
    let parting = parting_of (chain_of (decisions_of s first.core.journal)) (chain_of (decisions_of s second.core.journal)) in
    ap (λ (o : Option Request). (ended (request_said held o)).status) asked
    ∙ ap (λ (p : Part Taken). (ended (p >>= λ l. audited_against held l.core right)).status) first_is
    ∙ ap (λ (p : Part Taken). (ended (p >>= λ t. Ok (audit_ended s first.core.journal t.core.journal))).status) second_is
    ∙ ap (λ (o : Option UnitPair). (clash_or o (chains_ended s first.core.journal second.core.journal parting)).status) (none_first s first.core.journal second.core.journal none)
    ∙ differing first.core.config first.core.journal second.core.journal parting refl left_longer right_longer
