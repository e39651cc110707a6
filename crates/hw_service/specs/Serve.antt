-- A node that serves a number of sessions, one after the other, and then reports.
-- Source: ours.
use Rattle.std.specs.Prelude.{◌⊎◌, ℕ, Bool, codes, None, Result}
use Rattle.hw_link.specs.declared.end.SessionEnd.{SessionEnd}
use Rattle.hw_replay.specs.Fates.{Sight}
use Rattle.hw_session.specs.Sessions.{ServesPeer, ServesNone}
use Rattle.hw_session.specs.Standing.{standing}
use Rattle.hw_service.specs.declared.fault.ServiceFault.{ServiceFault}
use Rattle.hw_service.specs.declared.ended.Served.{Served}
use Rattle.hw_service.specs.Scene.{sessions_told, Outside}
use Rattle.hw_service.specs.Begin.{Names}
use Rattle.hw_service.specs.Talk.{Talker, AcceptsOne}
use Rattle.hw_service.specs.Run.{StepOver, runner}
use Rattle.hw_service.specs.Held.{holds_session, Holds}

-- the node served a peer that came, or memory ran out before
pub record ServesOne (tells : Bool) (old new : Talker) (e : SessionEnd) : Type 0 where
  pub served :
      ServesPeer tells (standing old.node old.files) (standing new.node new.files) (sessions_told old.door) (sessions_told new.door) e
      ⊎ ServesNone tells (standing old.node old.files) (standing new.node new.files) old.door.sessions new.door.sessions e
  pub came : AcceptsOne old.door new.door

-- each step is such a session
abbrev pub serves_session : {B K : Type 0} → Sight B K → Bool → StepOver B (Unit {0})
serves_session sight tells = holds_session sight (ServesOne tells) (codes "session")

-- The outcome of a run that serves this number of sessions, numbered from 1.
abbrev pub Serves : {B K : Type 0} → Sight B K → Bool → Names → ℕ → Outside B → Outside B → Result Served ServiceFault → Type 0
Serves sight tells names count before after result = Holds (runner sight tells names None) (ServesOne tells) (codes "session") 1 count before after result
