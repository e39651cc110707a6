-- What a node that meets another did at a frame.
-- Source: ours.
use Rattle.std.specs.Prelude.{◌≡◌, ◌⊎◌, ℕ, ◌+◌, ◌<◌, ◌≤◌, false, true, List, [], length, filter_map, slice_get, All, Option, None, Some, Result, Ok, Err, IfOk}
use Rattle.hw_types.specs.Real.{CoreState}
use Rattle.hw_io.specs.Doors.{Session}
use Rattle.hw_io.specs.Faults.{Rose}
use Rattle.hw_link.specs.declared.end.SessionEnd.{SessionEnd}
use Rattle.hw_link.specs.declared.end.SessionEnd.TheVariants as end
use Rattle.hw_link.specs.Frames.{byte_limit}
use Rattle.hw_link.specs.Talk.{IsPrefixOf}
use Rattle.hw_link.specs.Links.{after_part}
use Rattle.hw_link.specs.Told.{DoorTold}
use Rattle.hw_agree.specs.declared.summary.LaneSummary.{LaneSummary}
use Rattle.hw_meeting.specs.declared.frame.MeetingFrame.{MeetingFrame}
use Rattle.hw_meeting_node.specs.declared.read.HeardMeeting.{HeardMeeting}
use Rattle.hw_meeting_node.specs.Frames.{Placed, sent_bytes, HasFrame}
use Rattle.hw_meeting_node.specs.Heard.{Hears, IsHeard}
use Rattle.hw_meeting_node.specs.declared.meeter.Meeter.{Meeter}
use Rattle.hw_meeting_node.specs.declared.meeter.Stage.{Stage}
use Rattle.hw_meeting_node.specs.declared.meeter.Stage.TheVariants.{Greeting, Telling, Tearing, Taking}
use Rattle.hw_meeting_node.specs.Talk.{Reaction}
use Rattle.hw_meeting_node.specs.Meeting.{Meeting, told_of}

-- ---- what a node keeps of a meeting

-- its state: what it owes is kept as places in the journal
abbrev pub meeting_of : Meeter → CoreState → Meeting
meeting_of k c = record { stage = k.stage; core = c; refused = k.refused; theirs = k.theirs; due = filter_map (slice_get c.journal) k.due }

-- until it takes vertices it keeps what it says of each validator
abbrev pub IsTold : Stage → List LaneSummary → CoreState → Type 0
IsTold Greeting mine c = mine ≡ told_of c
IsTold Telling mine c = mine ≡ told_of c
IsTold Tearing mine c = mine ≡ told_of c
IsTold Taking mine c = Unit {0}

-- what it keeps is true of this core
pub record IsKept (k : Meeter) (c : CoreState) : Type 0 where
  pub told : IsTold k.stage k.mine c
  pub within : All (λ place. place < length c.journal) k.due

-- ---- what it did by a reaction

-- It did what the reaction says, and sent all of the answer. A fault of the link, or out of memory, may have cut that
-- short. Where an append failed the vertex was taken.
abbrev pub Reacts : {T : Type 0} → CoreState → Reaction Meeting → Meeting → Option (List Session) → Option (List Session) → Result T SessionEnd → Type 0
Reacts c r now old new (Ok x) = (r.end ≡ None) × (now ≡ r.state) × (new ≡ after_part [] (sent_bytes r.says) false old)
Reacts c r now old new (Err end.LinkFault) = (now.core ≡ r.state.core) × (part : List ℕ) × IsPrefixOf part (sent_bytes r.says) × (new ≡ after_part [] part true old)
Reacts c r now old new (Err end.AppendFault) = (now.core ≡ r.state.core) × (new ≡ after_part [] (sent_bytes r.says) false old)
Reacts c r now old new (Err end.OutOfMemory) = ((now.core ≡ c) ⊎ (now.core ≡ r.state.core)) × (part : List ℕ) × IsPrefixOf part (sent_bytes r.says) × (new ≡ after_part [] part false old)
Reacts c r now old new (Err e) = (r.end ≡ Some e) × (now ≡ r.state) × (new ≡ after_part [] (sent_bytes r.says) false old)

-- ---- what it did at a place of the session

-- there was no frame, and nothing changed
pub record Quits {T : Type 0} (validators place : ℕ) (m now : Meeting) (old new : DoorTold) (result : Result T SessionEnd) : Type 0 where
  pub how : SessionEnd
  pub is : result ≡ Err how
  pub stays : now ≡ m
  pub heard : Hears {T = HeardMeeting} validators (IsHeard validators) place [] old.sessions new.sessions old.ends new.ends (Err how)

-- there was a frame, and it did what the step says
pub record Handles (validators place : ℕ) (m : Meeting) (step : Placed → Reaction Meeting) (now : Meeting) (old new : DoorTold) (result : Result ℕ SessionEnd) : Type 0 where
  pub part : List ℕ
  pub frame : MeetingFrame
  pub has : HasFrame validators place part frame
  pub within : place + length part ≤ byte_limit
  pub ends : new.ends ≡ old.ends
  pub next : IfOk result (λ next. next ≡ place + length part)
  pub reacts : Reacts m.core (step (record { at = place; frame = frame })) now (after_part part [] false old.sessions) new.sessions result

-- ---- causes

-- a failed append raises the taker's count, and nothing else changes it
abbrev pub IsTakerCounted : {T : Type 0} → ℕ → ℕ → Result T SessionEnd → Type 0
IsTakerCounted before now (Err end.AppendFault) = Rose before now
IsTakerCounted before now _ = now ≡ before
