-- What calls of a door did to the session that is there.
-- Source: ours.
use Rattle.std.specs.Prelude.{◌≡◌, ℕ, Bool, true, false, ◌||◌, List, ◌++◌, Option, Result, Ok, Err}
use Rattle.std.specs.Option.{option_map}
use Rattle.hw_io.specs.declared.outside.IoFault.{IoFault}
use Rattle.hw_io.specs.declared.outside.IoFault.TheVariants.{Failed, OutOfMemory as NoMemory}
use Rattle.hw_io.specs.Doors.{Session, with_last}
use Rattle.hw_io.specs.Faults.{Rose}
use Rattle.hw_link.specs.declared.end.SessionEnd.{SessionEnd}
use Rattle.hw_link.specs.declared.end.SessionEnd.TheVariants.{LinkFault, OutOfMemory}

-- a session that went on: its peer said these bytes, the node those, and a call failed in it or none did
abbrev pub gone_on : List ℕ → List ℕ → Bool → Session → Session
gone_on read written failed s = record s { read = s.read ++ read; written = s.written ++ written; failed = failed || s.failed }

-- what a door reports whose last session went on so
abbrev pub after_part : List ℕ → List ℕ → Bool → Option (List Session) → Option (List Session)
after_part read written failed sessions = option_map (with_last (gone_on read written failed)) sessions

-- how a session ends by a fault of the door
abbrev pub end_of_fault : IoFault → SessionEnd
end_of_fault Failed = LinkFault
end_of_fault NoMemory = OutOfMemory

-- a call failed
abbrev pub has_failed : {T : Type 0} → Result T IoFault → Bool
has_failed (Ok x) = false
has_failed (Err Failed) = true
has_failed (Err NoMemory) = false

-- a call of the door failed
abbrev pub is_link_fault : {T : Type 0} → Result T SessionEnd → Bool
is_link_fault (Err LinkFault) = true
is_link_fault _ = false

-- a failed call of the door raises its count, and nothing else changes it
abbrev pub IsLinkCounted : {T : Type 0} → ℕ → ℕ → Result T SessionEnd → Type 0
IsLinkCounted before now (Err LinkFault) = Rose before now
IsLinkCounted before now _ = now ≡ before
