-- What a meeting leaves of a node and its log.
-- Source: ours.
use Rattle.std.specs.Prelude.{◌≡◌, ◌⊎◌, ℕ, Bool, IsTrue, List, [], ◌∷◌, ◌++◌, fold, Option, Some, None}
use Rattle.hw_types.specs.declared.unit.Vertex.{Vertex}
use Rattle.hw_io.specs.Files.{SameFiles}
use Rattle.hw_keys.specs.Signed.{verdict_of}
use Rattle.hw_session.specs.Node.{NodeState}
use Rattle.hw_session.specs.Accept.{given_to, taken_by}
use Rattle.hw_session.specs.Grows.{Logs, LogsAllBut}
use Rattle.hw_meeting_node.specs.declared.end.MeetEnd.{MeetEnd}
use Rattle.hw_meeting_node.specs.declared.end.MeetEnd.TheVariants as end
use Rattle.hw_meeting_node.specs.declared.meeter.Side.{Side}
use Rattle.hw_meeting_node.specs.declared.meeter.Side.TheVariants.{Caller, Host}
use Rattle.hw_meeting_node.specs.Sessions.{MeetsPeer}
use Rattle.hw_meeting_node.specs.Taking.{taken_in}
use Rattle.hw_service.specs.Talk.{Talker}
use Rattle.hw_service.specs.Scene.{sessions_told}

-- ---- the node

-- a node after a vertex of a peer, with the verdict of its keys
abbrev pub after_vertex : NodeState → Vertex → NodeState
after_vertex n v = taken_by n v (given_to n v)

-- after these vertices, one after the other
abbrev pub after_all : NodeState → List Vertex → NodeState
after_all n vertices = fold after_vertex n vertices

-- the vertices that it takes in a meeting with a peer that sends these bytes, in order
abbrev pub vertices_of : Side → NodeState → List ℕ → List Vertex
vertices_of side n bytes = taken_in side n.core (verdict_of n.keys) bytes

-- a node that has met a peer that sends these bytes
abbrev pub after_meeting : Side → NodeState → List ℕ → NodeState
after_meeting side n bytes = after_all n (vertices_of side n bytes)

-- ---- what is left

-- the node and its log are as the first of these bytes leave them
pub record StandsBefore (side : Side) (n : NodeState) (read : List ℕ) (m : NodeState) (tells : Bool) (held_old held_new : List ℕ → Option (List ℕ)) : Type 0 where
  pub first : List ℕ
  pub part : List ℕ
  pub split : read ≡ first ++ part
  pub state : m ≡ after_meeting side n first
  pub logs : Logs n m tells held_old held_new

-- The last vertex was accepted, and its entry may be cut.
pub record StandsCut (side : Side) (n : NodeState) (read : List ℕ) (m : NodeState) (tells : Bool) (held_old held_new : List ℕ → Option (List ℕ)) : Type 0 where
  pub first : List ℕ
  pub part : List ℕ
  pub split : read ≡ first ++ part
  pub vertex : Vertex
  pub last : vertices_of side n read ≡ vertices_of side n first ++ vertex ∷ []
  pub logs : LogsAllBut n (after_meeting side n first) vertex m tells held_old held_new

-- The node and its log are as the bytes leave them. After a failed append the last entry may be cut. After running out
-- of memory the node may be as before the last bytes.
abbrev pub Leaves : MeetEnd → Side → NodeState → List ℕ → NodeState → Bool → (List ℕ → Option (List ℕ)) → (List ℕ → Option (List ℕ)) → Type 0
Leaves end.AppendFault side n read m tells held_old held_new = StandsCut side n read m tells held_old held_new
Leaves end.OutOfMemory side n read m tells held_old held_new = StandsBefore side n read m tells held_old held_new ⊎ StandsCut side n read m tells held_old held_new
Leaves e side n read m tells held_old held_new = (m ≡ after_meeting side n read) × Logs n m tells held_old held_new

-- ---- one session

-- A node with its log met a peer. The door has the session after the others, with the address that was dialled, if one
-- was.
pub record NodeMeets (side : Side) (address : Option (List ℕ)) (tells : Bool) (old new : Talker) (e : MeetEnd) : Type 0 where
  pub meets : MeetsPeer side address old.node.core (verdict_of old.node.keys) new.node.core (sessions_told old.door) (sessions_told new.door) e
  pub left : Leaves e side old.node meets.read new.node tells old.files new.files

-- memory ran out before a peer was accepted or dialled, and nothing was done
pub record NodeMeetsNone (tells : Bool) (old new : Talker) (e : MeetEnd) : Type 0 where
  pub ended : e ≡ end.OutOfMemory
  pub state : new.node ≡ old.node
  pub files : IsTrue tells → SameFiles old.files new.files
  pub told : new.door.sessions ≡ old.door.sessions

-- a node dialled this address and met the peer, or memory ran out before
abbrev pub NodeCalls : List ℕ → Bool → Talker → Talker → MeetEnd → Type 0
NodeCalls address tells old new e = NodeMeets Caller (Some address) tells old new e ⊎ NodeMeetsNone tells old new e

-- one was dialled and met the peer, or memory ran out before
abbrev pub NodeHosts : Bool → Talker → Talker → MeetEnd → Type 0
NodeHosts tells old new e = NodeMeets Host None tells old new e ⊎ NodeMeetsNone tells old new e
