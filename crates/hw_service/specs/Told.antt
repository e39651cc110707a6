-- One session, and what is reported of it: the consumers are passed what is decided now, and then its line is written.
-- Source: ours.
use Rattle.std.specs.Prelude.{◌≡◌, ◌≢◌, ℕ, Bool, true, false, List, Option, Some, Result, Ok, Err}
use Rattle.std.specs.Io.KnownBytes.{Appends}
use Rattle.hw_io.specs.Sinks.{AppendsPrefix}
use Rattle.hw_link.specs.declared.end.SessionEnd.{SessionEnd}
use Rattle.hw_link.specs.declared.end.SessionEnd.TheVariants as end
use Rattle.hw_replay.specs.Fates.{Sight}
use Rattle.hw_replay.specs.Feed.{IsPassed}
use Rattle.hw_session.specs.Node.{NodeState}
use Rattle.hw_service.specs.declared.fault.ServiceFault.{ServiceFault}
use Rattle.hw_service.specs.declared.fault.ServiceFault.TheVariants as fault
use Rattle.hw_service.specs.Scene.{Scene, moment_of}
use Rattle.hw_service.specs.Talk.{Talks, talker_in}
use Rattle.hw_service.specs.Lines.{end_line}

-- the run goes on after a session with this end
abbrev pub GoesOn : SessionEnd → Type 0
GoesOn end.AppendFault = ⊥
GoesOn end.Clash = ⊥
GoesOn end.OutOfMemory = ⊥
GoesOn e = Unit {0}

-- a call of the door failed in it
abbrev pub is_link_fault : SessionEnd → Bool
is_link_fault end.LinkFault = true
is_link_fault e = false

-- The line of a session with this end is written, and a first part of it where the output takes no more. Where the
-- session ends the run, nothing is written.
abbrev pub TellsEnd : List ℕ → ℕ → SessionEnd → NodeState → Option (List ℕ) → Option (List ℕ) → Result Bool ServiceFault → Type 0
TellsEnd who number e n old new (Ok failed) = GoesOn e × (failed ≡ is_link_fault e) × Appends old new (end_line who number e)
TellsEnd who number e n old new (Err fault.Write) = GoesOn e × AppendsPrefix old new (end_line who number e)
TellsEnd who number e n old new (Err fault.Append) = (e ≡ end.AppendFault) × (new ≡ old)
TellsEnd who number e n old new (Err (fault.Clash units)) = (e ≡ end.Clash) × (n.clash ≡ Some units) × (new ≡ old)
TellsEnd who number e n old new (Err fault.OutOfMemory) = (e ≢ end.AppendFault) × AppendsPrefix old new (end_line who number e)
TellsEnd who number e n old new (Err (fault.Settings f)) = ⊥
TellsEnd who number e n old new (Err (fault.Keys at)) = ⊥
TellsEnd who number e n old new (Err (fault.Log f)) = ⊥
TellsEnd who number e n old new (Err fault.NoValidator) = ⊥
TellsEnd who number e n old new (Err fault.Read) = ⊥

-- A session of this number with a peer, and what was reported of it.
pub record HoldsSession {B K : Type 0} (sight : Sight B K) (talks : Talks) (who : List ℕ) (number : ℕ) (old new : Scene B) (result : Result Bool ServiceFault) : Type 0 where
  pub end : SessionEnd
  pub talked : talks (talker_in old) (talker_in new) end
  pub passed : IsPassed sight (moment_of old) (moment_of new)
  pub told : TellsEnd who number end new.node old.around.written new.around.written result
