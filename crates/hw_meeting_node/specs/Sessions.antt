-- What a meeting comes to, by the bytes that were read in it.
-- Source: ours.
use Rattle.std.specs.Prelude.{◌≡◌, ◌≢◌, ◌⊎◌, ℕ, ◌≤◌, Bool, true, false, List, [], ◌∷◌, ◌++◌, length, Option, Some, None}
use Rattle.std.specs.Option.{option_map}
use Rattle.hw_types.specs.declared.unit.Vertex.{Vertex}
use Rattle.hw_types.specs.Real.{CoreState}
use Rattle.hw_io.specs.Doors.{Session}
use Rattle.hw_io.specs.Faults.{Rose, raised}
use Rattle.hw_link.specs.declared.end.SessionEnd.{SessionEnd}
use Rattle.hw_link.specs.declared.end.SessionEnd.TheVariants as by
use Rattle.hw_link.specs.Frames.{byte_limit}
use Rattle.hw_link.specs.Talk.{IsPrefixOf}
use Rattle.hw_link.specs.Links.{after_part}
use Rattle.hw_link.specs.Told.{DoorTold}
use Rattle.hw_meeting.specs.declared.frame.MeetingFrame.{MeetingFrame}
use Rattle.hw_meeting_node.specs.Frames.{sent_bytes}
use Rattle.hw_meeting_node.specs.declared.end.MeetEnd.{MeetEnd}
use Rattle.hw_meeting_node.specs.declared.end.MeetEnd.TheVariants as end
use Rattle.hw_meeting_node.specs.declared.meeter.Side.{Side}
use Rattle.hw_meeting_node.specs.declared.meeter.Side.TheVariants.{Caller, Host}
use Rattle.hw_meeting_node.specs.Talk.{Talk}
use Rattle.hw_meeting_node.specs.Meeting.{Meeting, met, met_said}

-- ---- how it ended

-- how a meeting ends, where this many vertices were refused
abbrev pub meet_end : SessionEnd → ℕ → MeetEnd
meet_end by.Done refused = end.Done refused
meet_end by.EndOfInput refused = end.EndOfInput
meet_end by.WrongInstance refused = end.WrongInstance
meet_end (by.BadFrame at) refused = end.BadFrame at
meet_end by.LinkFault refused = end.LinkFault
meet_end by.AppendFault refused = end.AppendFault
meet_end by.ByteLimit refused = end.ByteLimit
meet_end by.Clash refused = end.Clash
meet_end by.OutOfMemory refused = end.OutOfMemory

-- how this session ends
abbrev pub end_of : Talk Meeting → MeetEnd
end_of t = meet_end t.end t.state.refused

-- the outside failed, or it was out of memory
abbrev pub IsOfOutside : MeetEnd → Type 0
IsOfOutside end.LinkFault = Unit {0}
IsOfOutside end.AppendFault = Unit {0}
IsOfOutside end.OutOfMemory = Unit {0}
IsOfOutside e = ⊥

-- it ended as the bytes say, or the outside ended it
abbrev pub EndsAs : MeetEnd → Talk Meeting → Type 0
EndsAs e t = (e ≡ end_of t) ⊎ IsOfOutside e

-- a frame ended the session: it is the same, whatever the peer sends after these bytes
abbrev pub IsFinal : Side → CoreState → (Vertex → Bool) → List ℕ → Type 0
IsFinal side c judge read = (more : List ℕ) → length (read ++ more) ≤ byte_limit → met side c judge (read ++ more) ≡ met side c judge read

-- The number of ends rose where the peer's bytes ended, and as many bytes were read as may be where that ended the
-- session. An end by a frame needs neither.
abbrev pub IsEndOf : Side → CoreState → (Vertex → Bool) → List ℕ → ℕ → ℕ → MeetEnd → Type 0
IsEndOf side c judge read before now end.EndOfInput = now ≡ raised before
IsEndOf side c judge read before now (end.BadFrame at) = (now ≡ raised before) ⊎ IsFinal side c judge read
IsEndOf side c judge read before now end.ByteLimit = byte_limit ≤ length read
IsEndOf side c judge read before now (end.Done refused) = IsFinal side c judge read
IsEndOf side c judge read before now end.WrongInstance = IsFinal side c judge read
IsEndOf side c judge read before now end.Clash = IsFinal side c judge read
IsEndOf side c judge read before now e = Unit {0}

-- how a session ends whose bytes end before a frame or inside it, or spell none
abbrev pub IsCutEnd : SessionEnd → Type 0
IsCutEnd by.EndOfInput = Unit {0}
IsCutEnd (by.BadFrame at) = Unit {0}
IsCutEnd by.ByteLimit = Unit {0}
IsCutEnd e = ⊥

-- No byte was read past a frame that ends the session. Where fewer are read, it ends as one that is cut. It doesn't end
-- by Done, by a Hello of another instance or by a clash.
abbrev pub IsReadNoFurther : (List ℕ → SessionEnd) → List ℕ → Type 0
IsReadNoFurther ends read = (first part : List ℕ) → read ≡ first ++ part → part ≢ [] → IsCutEnd (ends first)

-- So it is of each session but one that was out of memory, which may end inside whatever frame is there.
abbrev pub StopsReading : MeetEnd → (List ℕ → SessionEnd) → List ℕ → Type 0
StopsReading end.OutOfMemory ends read = Unit {0}
StopsReading e ends read = IsReadNoFurther ends read

-- All that was said was written; after a fault of the link, or out of memory, a first part of it.
abbrev pub IsWritten : MeetEnd → List MeetingFrame → List ℕ → Type 0
IsWritten end.LinkFault said written = IsPrefixOf written (sent_bytes said)
IsWritten end.OutOfMemory said written = IsPrefixOf written (sent_bytes said)
IsWritten e said written = written ≡ sent_bytes said

-- Each frame's answer was out before a byte of the next frame was read. What is said to the first of these bytes, and
-- not yet to all of them, comes first in what was written.
abbrev pub IsAnswered : (List ℕ → List ℕ) → List ℕ → List ℕ → Type 0
IsAnswered says read written = (first part : List ℕ) → read ≡ first ++ part → part ≢ [] → IsPrefixOf (says first) written

-- ---- what it left

-- it is in the state in which the first of these bytes leave it
pub record StandsBefore (side : Side) (c : CoreState) (judge : Vertex → Bool) (read : List ℕ) (m : CoreState) : Type 0 where
  pub first : List ℕ
  pub part : List ℕ
  pub split : read ≡ first ++ part
  pub stands : m ≡ (met side c judge first).state.core

-- The node has taken the vertices that these bytes hold, in order. Where it was out of memory it may have taken only
-- the first of them.
abbrev pub Leaves : MeetEnd → Side → CoreState → (Vertex → Bool) → List ℕ → CoreState → Type 0
Leaves end.OutOfMemory side c judge read m = StandsBefore side c judge read m
Leaves e side c judge read m = m ≡ (met side c judge read).state.core

-- ---- one session

-- A node met a peer that sent these bytes: how the session ended, what was written, and what the node has received.
-- Where the link failed, only the answer to the last of the frames that were read whole may be missing. It may be so
-- only if no byte was read after that frame.
pub record Meets (side : Side) (c : CoreState) (judge : Vertex → Bool) (read written : List ℕ) (m : CoreState) (ends_old ends_new : ℕ) (e : MeetEnd) : Type 0 where
  pub within : length read ≤ byte_limit
  pub ended : EndsAs e (met side c judge read)
  pub end_counted : IsEndOf side c judge read ends_old ends_new e
  pub no_further : StopsReading e (λ (bytes : List ℕ). (met side c judge bytes).end) read
  pub wrote : IsWritten e (met side c judge read).said written
  pub answered : e ≡ end.LinkFault → IsAnswered (met_said side c judge) read written
  pub left : Leaves e side c judge read m

-- a call of the door failed
abbrev pub is_link_end : MeetEnd → Bool
is_link_end end.LinkFault = true
is_link_end e = false

-- A node met the peer of the session that is there.
pub record MeetsThere (side : Side) (c : CoreState) (judge : Vertex → Bool) (m : CoreState) (old new : DoorTold) (e : MeetEnd) : Type 0 where
  pub read : List ℕ
  pub written : List ℕ
  pub meets : Meets side c judge read written m old.ends new.ends e
  pub told : new.sessions ≡ after_part read written (is_link_end e) old.sessions

-- A node met a peer, in a session that the door reports after the others, with the address that was dialled, if one
-- was.
pub record MeetsPeer (side : Side) (address : Option (List ℕ)) (c : CoreState) (judge : Vertex → Bool) (m : CoreState) (old new : DoorTold) (e : MeetEnd) : Type 0 where
  pub read : List ℕ
  pub written : List ℕ
  pub meets : Meets side c judge read written m old.ends new.ends e
  pub told : new.sessions ≡ option_map (λ (sessions : List Session). sessions ++ (record { address = address; read = read; written = written; failed = is_link_end e }) ∷ []) old.sessions

-- the same of a node that dialled this address
abbrev pub CallsPeer : List ℕ → CoreState → (Vertex → Bool) → CoreState → DoorTold → DoorTold → MeetEnd → Type 0
CallsPeer address c judge m old new e = MeetsPeer Caller (Some address) c judge m old new e

-- and of one that was dialled
abbrev pub HostsPeer : CoreState → (Vertex → Bool) → CoreState → DoorTold → DoorTold → MeetEnd → Type 0
HostsPeer c judge m old new e = MeetsPeer Host None c judge m old new e

-- memory ran out before a peer was accepted or dialled, and nothing was done
pub record MeetsNone (c m : CoreState) (old new : Option (List Session)) (e : MeetEnd) : Type 0 where
  pub ended : e ≡ end.OutOfMemory
  pub stands : m ≡ c
  pub told : new ≡ old

-- ---- causes

-- a failed call of the door raises its count, and nothing else changes it
abbrev pub IsLinkEnd : ℕ → ℕ → MeetEnd → Type 0
IsLinkEnd before now end.LinkFault = Rose before now
IsLinkEnd before now e = now ≡ before

-- a failed append raises the taker's count, and nothing else changes it
abbrev pub IsTakerEnd : ℕ → ℕ → MeetEnd → Type 0
IsTakerEnd before now end.AppendFault = Rose before now
IsTakerEnd before now e = now ≡ before
