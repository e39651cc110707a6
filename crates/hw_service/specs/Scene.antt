-- What is seen of a node's run at a moment.
use Rattle.std.specs.Prelude.{◌≡◌, ◌≤◌, ℕ, List, [], length, Option}
use Rattle.std.specs.List.{range_with_len}
use Rattle.std.specs.declared.dyn_box.DynBox.{DynBox}
use Rattle.hw_io.specs.declared.outside.Files.{Ghosts as Files}
use Rattle.hw_io.specs.declared.outside.Sink.{Ghosts as Sink}
use Rattle.hw_io.specs.declared.outside.Door.{Ghosts as Door}
use Rattle.hw_io.specs.declared.outside.Consumer.{Ghosts as Consumer}
use Rattle.hw_io.specs.Doors.{Session}
use Rattle.hw_replay.specs.State.{FanoutState}
use Rattle.hw_replay.specs.Chain.{told_chain}
use Rattle.hw_replay.specs.Fates.{Sight, seen}
use Rattle.hw_replay.specs.Feed.{Moment, moment}
use Rattle.hw_session.specs.Node.{NodeState}
use Rattle.hw_link.specs.Told.{DoorTold}

-- what is seen of a door: its sessions, how often it was asked to accept and to dial a peer, and how often a peer's
-- bytes ended
pub record DoorSeen : Type 0 where
  pub sessions : Option (List Session)
  pub accepts : ℕ
  pub dials : ℕ
  pub ends : ℕ

-- these together
abbrev pub door_seen : Option (List Session) → ℕ → ℕ → ℕ → DoorSeen
door_seen sessions accepts dials ends = record { sessions = sessions; accepts = accepts; dials = dials; ends = ends }

-- what is seen of its sessions
abbrev pub sessions_told : DoorSeen → DoorTold
sessions_told door = record { sessions = door.sessions; ends = door.ends }

-- of a door, by its ghosts
abbrev pub door_of : {D : Type 0} → Door D → D → DoorSeen
door_of tells door = door_seen (tells.sessions door) (tells.accepts door) (tells.dials door) (tells.ends door)

-- what contracts see of a boxed consumer: what they see of a consumer of its kind
abbrev pub sight_of : {K A : Type 0} {C : K → Type 0} → ((kind : K) → Consumer (C kind)) → Sight (DynBox K A C) K
sight_of tells = seen (λ b. (tells b.vtable).consumed b.value) (λ b. (tells b.vtable).faults b.value) (λ b. (tells b.vtable).wants b.value) (λ b. b.vtable)

-- the outside: what the files hold, the door, what was written, and the consumers that are left
pub record Outside (B : Type 0) : Type 0 where
  pub files : List ℕ → Option (List ℕ)
  pub door : DoorSeen
  pub written : Option (List ℕ)
  pub consumers : List B

-- these together
abbrev pub outside : {B : Type 0} → (List ℕ → Option (List ℕ)) → DoorSeen → Option (List ℕ) → List B → Outside B
outside files door written consumers = record { files = files; door = door; written = written; consumers = consumers }

-- of files, an output and a door, by their ghosts, and of these consumers
abbrev pub outside_of : {F S D B : Type 0} → Files F → Sink S → Door D → F → S → D → List B → Outside B
outside_of reads writes calls files out door consumers = outside (reads.held files) (door_of calls door) (writes.taken out) consumers

-- a node, what is kept of its consumers, and what is outside of it
pub record Scene (B : Type 0) : Type 0 where
  pub node : NodeState
  pub kept : FanoutState B
  pub around : Outside B

-- the three together
abbrev pub scene : {B : Type 0} → NodeState → FanoutState B → Outside B → Scene B
scene node kept around = record { node = node; kept = kept; around = around }

-- the node and its consumers at that moment
abbrev pub moment_of : {B : Type 0} → Scene B → Moment B
moment_of s = moment s.node.core s.around.consumers s.kept

-- of consumers that were passed nothing, nothing is kept but their places
abbrev pub none_told : {B : Type 0} → List B → FanoutState B
none_told consumers = record { passed = 0; places = range_with_len 0 (length consumers); drops = []; gone = [] }

-- there is a place for each consumer that is left, and all that is decided was passed
pub record IsReady {B : Type 0} (node : NodeState) (kept : FanoutState B) (consumers : List B) : Type 0 where
  pub room : length consumers ≤ length kept.places
  pub passed : kept.passed ≡ length (told_chain node.core)
