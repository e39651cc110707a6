-- A session that nothing outside disturbs ends as Done: the statements.
-- Source: ours.
use Rattle.std.specs.Prelude.{◌≡◌, ◌⊎◌, ℕ, ◌≤◌, Bool, List, ◌++◌, length, Option}
use Rattle.hw_io.specs.Faults.{Rose, raised}
use Rattle.hw_link.specs.declared.end.SessionEnd.{SessionEnd}
use Rattle.hw_link.specs.declared.end.SessionEnd.TheVariants as end
use Rattle.hw_link.specs.Frames.{byte_limit}
use Rattle.hw_session.specs.declared.stage.PeerMark.{PeerMark}
use Rattle.hw_session.specs.Node.{NodeState}
use Rattle.hw_session.specs.Handling.{IsLinkEnd, IsLogEnd}
use Rattle.hw_session.specs.Serving.{served}
use Rattle.hw_session.specs.Sessions.{Serves}
use Rattle.hw_session.specs.Driving.{driven}
use Rattle.hw_session.specs.Drives.{Drives}
use Rattle.hw_session.specs.Standing.{standing, driver_standing}

-- The peer's bytes didn't end, and neither a call of the door nor an append failed.
pub record IsUndisturbed (ends_old ends_new : ℕ) (e : SessionEnd) : Type 0 where
  pub goes_on : ends_new ≡ raised ends_old → ⊥
  pub door_old : ℕ
  pub door_new : ℕ
  pub link : IsLinkEnd door_old door_new e
  pub no_link : Rose door_old door_new → ⊥
  pub log_old : ℕ
  pub log_new : ℕ
  pub log : IsLogEnd log_old log_new e
  pub no_log : Rose log_old log_new → ⊥

-- it ended as Done, or memory ran out
abbrev pub IsWhole : SessionEnd → Type 0
IsWhole e = (e ≡ end.Done) ⊎ (e ≡ end.OutOfMemory)

-- Where what the peer sent, with what it would still send, are frames of a whole session, up to its Done, a node that
-- serves it ends so.
abbrev pub ServesAreComplete : Type 0
ServesAreComplete = (n m : NodeState) (read written : List ℕ) (tells : Bool) (held_old held_new : List ℕ → Option (List ℕ)) (ends_old ends_new : ℕ) (e : SessionEnd)
    → Serves tells (standing n held_old) read written (standing m held_new) ends_old ends_new e → IsUndisturbed ends_old ends_new e
    → (more : List ℕ) → length (read ++ more) ≤ byte_limit → (served n (read ++ more)).end ≡ end.Done → IsWhole e

-- And so does one that drives it.
abbrev pub DrivesAreComplete : Type 0
DrivesAreComplete = (n m : NodeState) (mark now : PeerMark) (read written : List ℕ) (tells : Bool) (held_old held_new : List ℕ → Option (List ℕ)) (ends_old ends_new : ℕ) (e : SessionEnd)
    → Drives tells (driver_standing n mark held_old) read written (driver_standing m now held_new) ends_old ends_new e → IsUndisturbed ends_old ends_new e
    → (more : List ℕ) → length (read ++ more) ≤ byte_limit → (driven n mark (read ++ more)).end ≡ end.Done → IsWhole e
