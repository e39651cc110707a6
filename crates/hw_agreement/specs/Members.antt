-- That there is what these laws speak of: validators that lived, and copies of a log.
-- Source: ours.
use Rattle.std.specs.Prelude.{◌≡◌, ℕ, ◌<◌, ◌≤◌, ◌==◌, List, [], ◌∷◌, ◌++◌, length, codes, Some}
use Rattle.hw_types.specs.Below.{Among}
use Rattle.hw_types.specs.Real.{setting_of}
use Rattle.hw_culprits.specs.Innocence.{weight_of_others}
use Rattle.hw_session.specs.Node.{IsSound}
use Rattle.hw_session.specs.Standing.{Standing}
use Rattle.hw_commands.specs.Commands.{Word, Audit, request_of}
use Rattle.hw_commands.specs.Program.{Held}
use Rattle.hw_run_laws.specs.Calls.{IsReady}
use Rattle.hw_run_laws.specs.Members.{Turn, turns_of, MayAllTurn, alone}
use Rattle.hw_agreement.specs.Lives.{Life, HasLived, AreHonest}
use Rattle.hw_agreement.specs.Logs.{AgreesOrClashes, IsLogOf}

-- ---- lives

-- From each node that is sound and ready there is a life of whatever calls, one after the other. Its peers send nothing.
abbrev pub LivesBegin : Type 0
LivesBegin = (me : ℕ) (a : Standing) (turns : List Turn) → me < length a.node.core.config.weights → IsSound a.node → IsReady me a → MayAllTurn me turns
    → (life : Life me) × (life.first ≡ a) × (turns_of me life.first life.more life.calls ≡ turns)

-- The journal that the node has at any moment of a life holds what went out in it, and no other unit by the validator.
abbrev pub OwnJournalsAreLived : Type 0
OwnJournalsAreLived = (me : ℕ) (life : Life me) (b : Standing) → Among b (life.first ∷ life.more) → HasLived b.node.core.journal me

-- ---- two logs

-- under each name a copy of the node's log
abbrev pub copies_of : Standing → Held
copies_of b name = b.held b.node.log

abbrev pub audit_words : List Word
audit_words = codes "audit" ∷ codes "left" ∷ codes "right" ∷ []

-- the premises of the law on the logs of lives, met by two copies of one log
pub record CopiesAreAudited {me : ℕ} (life : Life me) (b : Standing) : Type 0 where
  pub asked : request_of audit_words ≡ Some (Audit (codes "left") (codes "right"))
  pub left : IsLogOf life (copies_of b (codes "left")) b
  pub right : IsLogOf life (copies_of b (codes "right")) b
  pub honest : AreHonest (setting_of b.node.core.config) (b.node.core.journal ++ b.node.core.journal) (λ v. v == me)
  -- so the law holds of them
  pub told : AgreesOrClashes audit_words (copies_of b)

-- So it is at any moment of a life whose validator is so heavy that all others weigh no more than the threshold.
abbrev pub CopiesAreThere : Type 0
CopiesAreThere = (me : ℕ) (life : Life me) (b : Standing) → Among b (life.first ∷ life.more)
    → weight_of_others (setting_of b.node.core.config) (λ v. v == me) ≤ b.node.core.config.ftt → CopiesAreAudited life b

-- One validator alone is.
abbrev pub OneIsHeavy : Type 0
OneIsHeavy = weight_of_others (setting_of alone) (λ v. v == 0) ≤ alone.ftt
