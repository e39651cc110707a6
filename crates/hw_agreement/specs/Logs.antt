-- The logs of validators as they run, and the audit of two of them: the statements.
-- Source: ours, after Highway.
use Rattle.std.specs.Prelude.{◌≡◌, ◌⊎◌, ℕ, Bool, List, ◌∷◌, ◌++◌, Option, Some, None, Ok}
use Rattle.hw_types.specs.Below.{Among}
use Rattle.hw_types.specs.Real.{setting_of}
use Rattle.hw_replay.specs.Taken.{Taken}
use Rattle.hw_session.specs.Node.{NodeState, IsSound}
use Rattle.hw_session.specs.Restart.{HasLog}
use Rattle.hw_session.specs.Standing.{Standing}
use Rattle.hw_commands.specs.Commands.{Word, Audit, request_of}
use Rattle.hw_commands.specs.Program.{Held, log_replayed, run_of}
use Rattle.hw_agreement.specs.Lives.{Life, AreHonest}

-- the audit of two logs ends with 0, they agree, or with 9, two different units of theirs have one digest
abbrev pub AgreesOrClashes : List Word → Held → Type 0
AgreesOrClashes words held = ((run_of words held).status ≡ 0) ⊎ ((run_of words held).status ≡ 9)

-- Let two logs of one configuration be replayed, whoever wrote them. Where the validators of whose units they hold some
-- are such as above, their audit reports no conflict.
abbrev pub LogsAgree : Type 0
LogsAgree = (words : List Word) (held : Held) (left right : Word) (first second : Taken) (honest : ℕ → Bool)
    → request_of words ≡ Some (Audit left right) → log_replayed held None left ≡ Ok first → log_replayed held (Some first.core.config) right ≡ Ok second → second.core.config ≡ first.core.config
    → AreHonest (setting_of first.core.config) (first.core.journal ++ second.core.journal) honest → AgreesOrClashes words held

-- So it is of the logs of two nodes of one configuration, at any moment,
abbrev pub NodesLogsAgree : Type 0
NodesLogsAgree = (words : List Word) (held : Held) (left right : Word) (one other : NodeState) (honest : ℕ → Bool)
    → request_of words ≡ Some (Audit left right) → IsSound one → IsSound other → HasLog one (held left) → HasLog other (held right) → other.core.config ≡ one.core.config
    → AreHonest (setting_of one.core.config) (one.core.journal ++ other.core.journal) honest → AgreesOrClashes words held

-- the file holds what is in the log of the validator's node at this moment of its life
pub record IsLogOf {me : ℕ} (life : Life me) (file : Option (List ℕ)) (at : Standing) : Type 0 where
  pub moment : Among at (life.first ∷ life.more)
  pub copied : file ≡ at.held at.node.log

-- and so of the logs that two of the validators write through their lives, at whatever moment of each.
abbrev pub LivesLogsAgree : Type 0
LivesLogsAgree = (words : List Word) (held : Held) (left right : Word) (me you : ℕ) (mine : Life me) (yours : Life you) (one other : Standing) (honest : ℕ → Bool)
    → request_of words ≡ Some (Audit left right) → IsLogOf mine (held left) one → IsLogOf yours (held right) other → other.node.core.config ≡ one.node.core.config
    → AreHonest (setting_of one.node.core.config) (one.node.core.journal ++ other.node.core.journal) honest → AgreesOrClashes words held
