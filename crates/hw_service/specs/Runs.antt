-- A node that meets peers, and then reports.
-- Source: ours.
use Rattle.std.specs.Prelude.{◌≡◌, ℕ, Bool, List, codes, None, Result}
use Rattle.hw_link.specs.declared.end.SessionEnd.{SessionEnd}
use Rattle.hw_replay.specs.Fates.{Sight}
use Rattle.hw_meeting_node.specs.declared.end.MeetEnd.{MeetEnd}
use Rattle.hw_service.specs.declared.fault.ServiceFault.{ServiceFault}
use Rattle.hw_service.specs.declared.ended.Served.{Served}
use Rattle.hw_service.specs.Scene.{Outside}
use Rattle.hw_service.specs.Begin.{Names}
use Rattle.hw_service.specs.Talk.{Talker, AcceptsOne, DialsOne}
use Rattle.hw_service.specs.Run.{StepOver, runner}
use Rattle.hw_service.specs.Held.{holds_session, Holds}
use Rattle.hw_service.specs.Ends.{session_end}
use Rattle.hw_service.specs.Meets.{NodeCalls, NodeHosts}

-- ---- one session

-- the node was dialled and met the peer
pub record HostsOne (tells : Bool) (old new : Talker) (e : SessionEnd) : Type 0 where
  pub end : MeetEnd
  pub is : e ≡ session_end end
  pub met : NodeHosts tells old new end
  pub came : AcceptsOne old.door new.door

-- the node dialled this address and met the peer
pub record CallsOne (tells : Bool) (address : List ℕ) (old new : Talker) (e : SessionEnd) : Type 0 where
  pub end : MeetEnd
  pub is : e ≡ session_end end
  pub met : NodeCalls address tells old new end
  pub called : DialsOne old.door new.door

-- ---- the run

-- each step is a session in which the node is dialled
abbrev pub hosts_session : {B K : Type 0} → Sight B K → Bool → StepOver B (Unit {0})
hosts_session sight tells = holds_session sight (HostsOne tells) (codes "session")

-- The outcome of a run in which this number of peers dial the node, one after the other. They are numbered from 1.
abbrev pub Hosts : {B K : Type 0} → Sight B K → Bool → Names → ℕ → Outside B → Outside B → Result Served ServiceFault → Type 0
Hosts sight tells names count before after result = Holds (runner sight tells names None) (HostsOne tells) (codes "session") 1 count before after result

-- the one step is a session with the peer of this address
abbrev pub calls_peer : {B K : Type 0} → Sight B K → Bool → List ℕ → StepOver B (Unit {0})
calls_peer sight tells address = holds_session sight (CallsOne tells address) (codes "peer")

-- The outcome of a run in which a node dials the peer of this address, which has the number 0.
abbrev pub Calls : {B K : Type 0} → Sight B K → Bool → Names → List ℕ → Outside B → Outside B → Result Served ServiceFault → Type 0
Calls sight tells names address before after result = Holds (runner sight tells names None) (CallsOne tells address) (codes "peer") 0 1 before after result
