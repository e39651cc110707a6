-- What was sent to a peer.
-- Source: ours.
use Rattle.std.specs.Prelude.{◌≡◌, ℕ, true, List, [], Option, Result, OnOk, IfErr}
use Rattle.hw_io.specs.Doors.{Session}
use Rattle.hw_io.specs.declared.outside.IoFault.{IoFault}
use Rattle.hw_io.specs.declared.outside.Door.{Ghosts as Door}
use Rattle.hw_link.specs.declared.end.SessionEnd.{SessionEnd}
use Rattle.hw_link.specs.declared.end.SessionEnd.TheVariants.{LinkFault, OutOfMemory}
use Rattle.hw_link.specs.Talk.{IsPrefixOf}
use Rattle.hw_link.specs.Links.{after_part, is_link_fault, has_failed}

-- the link failed, or memory ran out
abbrev pub IsOfLink : SessionEnd → Type 0
IsOfLink LinkFault = Unit {0}
IsOfLink OutOfMemory = Unit {0}
IsOfLink _ = ⊥

-- a first part of the bytes was sent, all of them where it succeeded
pub record Sends {T : Type 0} (bytes : List ℕ) (old new : Option (List Session)) (result : Result T SessionEnd) : Type 0 where
  pub part : List ℕ
  pub first : IsPrefixOf part bytes
  pub whole : OnOk result (part ≡ bytes)
  pub told : new ≡ after_part [] part (is_link_fault result) old
  pub error : IfErr result IsOfLink

-- the same of a call whose fault is one of the door
pub record SendsPart {T : Type 0} (bytes : List ℕ) (old new : Option (List Session)) (result : Result T IoFault) : Type 0 where
  pub part : List ℕ
  pub first : IsPrefixOf part bytes
  pub whole : OnOk result (part ≡ bytes)
  pub told : new ≡ after_part [] part (has_failed result) old

-- a call that sends in the session that is there: it stays there, and nothing else that the door reports changes
pub record OnlySends {D : Type 0} (tells : Door D) (old new : D) : Type 0 where
  pub there : tells.is_open new ≡ true
  pub asks : tells.asks new ≡ tells.asks old
  pub ends : tells.ends new ≡ tells.ends old
  pub accepts : tells.accepts new ≡ tells.accepts old
  pub dials : tells.dials new ≡ tells.dials old
