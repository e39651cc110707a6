-- A session of a node with a peer, whatever they say to each other.
-- Source: ours.
use Rattle.std.specs.Prelude.{◌≡◌, ℕ, List, Option}
use Rattle.hw_types.specs.Real.{CoreState}
use Rattle.hw_io.specs.declared.outside.Files.{Ghosts as Files}
use Rattle.hw_io.specs.declared.outside.Door.{Ghosts as Door}
use Rattle.hw_io.specs.Faults.{raised}
use Rattle.hw_link.specs.declared.end.SessionEnd.{SessionEnd}
use Rattle.hw_safety.specs.Chain.{Begins}
use Rattle.hw_session.specs.Node.{NodeState}
use Rattle.hw_service.specs.Scene.{DoorSeen, door_of, Scene}

-- a node that talks, with what its files hold and its door: what a session moves
pub record Talker : Type 0 where
  pub node : NodeState
  pub files : List ℕ → Option (List ℕ)
  pub door : DoorSeen

-- of a node, and of files and a door, by their ghosts
abbrev pub talker : {F D : Type 0} → Files F → Door D → NodeState → F → D → Talker
talker reads calls node files door = record { node = node; files = reads.held files; door = door_of calls door }

-- that of a scene
abbrev pub talker_in : {B : Type 0} → Scene B → Talker
talker_in s = record { node = s.node; files = s.around.files; door = s.around.door }

-- what a session does, by how it ends
abbrev pub Talks : Type 1
Talks = Talker → Talker → SessionEnd → Type 0

-- the door was asked once to accept a peer, and not to dial one
pub record AcceptsOne (old new : DoorSeen) : Type 0 where
  pub accepts : new.accepts ≡ raised old.accepts
  pub dials : new.dials ≡ old.dials

-- it was asked once to dial a peer, and not to accept one
pub record DialsOne (old new : DoorSeen) : Type 0 where
  pub dials : new.dials ≡ raised old.dials
  pub accepts : new.accepts ≡ old.accepts

-- the configuration and the last question are the same, and vertices went last in the journal
pub record HasGrown (old new : CoreState) : Type 0 where
  pub config : new.config ≡ old.config
  pub asked : new.asked ≡ old.asked
  pub journal : Begins old.journal new.journal
