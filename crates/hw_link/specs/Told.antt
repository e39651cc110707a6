-- What a door reports of its sessions.
-- Source: ours.
use Rattle.std.specs.Prelude.{ℕ, List, Option}
use Rattle.hw_io.specs.Doors.{Session}

-- its sessions, if it reports them, and how often a peer's bytes ended
pub record DoorTold : Type 0 where
  pub sessions : Option (List Session)
  pub ends : ℕ

-- these together
abbrev pub door_told : Option (List Session) → ℕ → DoorTold
door_told sessions ends = record { sessions = sessions; ends = ends }
