-- Words that name logs to be reported ask for no run of a node.
use Rattle.std.proofs.Common.{◌≡◌, ℕ, Bool, true, false, cond, List, [], ◌∷◌, Option, None, refl, sym, subst}
use Rattle.std.specs.Prelude.{codes}
use Rattle.std.specs.List.{list_all}
use Rattle.hw_commands.specs.Commands.{Word, is_word}
use Rattle.hw_commands.specs.Program.{Held}
use Rattle.hw_theorem.specs.Reports.{asks_replay, asks_explain, asks_audit, CanBeReported, replay, explain, audit, SaysOfLogs}
use Rattle.hw_program.specs.Services.{Service, IsWorkedOut, of_many, service_of}

-- as no words do that are too few
few_ask_none : (words : List Word) → of_many words ≡ None → IsWorkedOut words
unfolding service_of
few_ask_none words none = go (list_all is_word words)
  where
    go : (b : Bool) → cond b (of_many words) None ≡ None
    go true = none
    go false = refl

log_is_worked : (command log : Word) → IsWorkedOut (command ∷ log ∷ [])
log_is_worked command log = few_ask_none (command ∷ log ∷ []) refl

logs_are_worked : (command left right : Word) → IsWorkedOut (command ∷ left ∷ right ∷ [])
logs_are_worked command left right = few_ask_none (command ∷ left ∷ right ∷ []) refl

pub reported_is_worked : (words : List Word) (held : Held) → CanBeReported words held → IsWorkedOut words
reported_is_worked words held (replay log are passes file) = subst IsWorkedOut (sym are) (log_is_worked (codes "replay") log)
reported_is_worked words held (explain log are passes file) = subst IsWorkedOut (sym are) (log_is_worked (codes "explain") log)
reported_is_worked words held (audit left right are p q files) = subst IsWorkedOut (sym are) (logs_are_worked (codes "audit") left right)

-- a run of a node says nothing of logs that its words name so
pub node_says_none : (words : List Word) (held : Held) (status : ℕ) (old new : Option (List ℕ)) → (IsWorkedOut words → ⊥) → SaysOfLogs words held status old new
node_says_none words held status old new node = record {
  replay = λ log are. absurd (node (subst IsWorkedOut (sym are) (log_is_worked (codes "replay") log)));
  explain = λ log are. absurd (node (subst IsWorkedOut (sym are) (log_is_worked (codes "explain") log)));
  audit = λ left right are. absurd (node (subst IsWorkedOut (sym are) (logs_are_worked (codes "audit") left right)));
}
