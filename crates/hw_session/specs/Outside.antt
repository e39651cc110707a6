-- What most calls leave as it is of the outside.
-- Source: ours.
use Rattle.std.specs.Prelude.{ℕ, Bool, List, Option}
use Rattle.hw_io.specs.Doors.{Ask}

-- What a door reports beside its sessions and its faults: whether a session is there, and how often a peer's bytes
-- ended. It reports too how often it was asked to accept and to dial a peer, and the calls of `read`.
pub record DoorCalls : Type 0 where
  pub is_open : Bool
  pub ends : ℕ
  pub accepts : ℕ
  pub dials : ℕ
  pub asks : List Ask

-- these together
abbrev pub door_calls : Bool → ℕ → ℕ → ℕ → List Ask → DoorCalls
door_calls is_open ends accepts dials asks = record { is_open = is_open; ends = ends; accepts = accepts; dials = dials; asks = asks }

-- how far files were read: which one was begun, how many bytes of it reads may still give, and how many reads failed
pub record Reading : Type 0 where
  pub begun : Option (List ℕ)
  pub allowance : ℕ
  pub faults : ℕ

-- these together
abbrev pub reading : Option (List ℕ) → ℕ → ℕ → Reading
reading begun allowance faults = record { begun = begun; allowance = allowance; faults = faults }
