-- Small meetings: frames, tables and what is owed.
-- Source: ours.
use Rattle.std.specs.Prelude.{◌≡◌, ℕ, List, [], ◌∷◌, replicate, Option, Some, None, Ok, Err}
use Rattle.hw_types.specs.declared.unit.Digest.{Digest}
use Rattle.hw_types.specs.declared.unit.WireUnit.{WireUnit}
use Rattle.hw_types.specs.declared.answers.CodecError.TheVariants.{OutOfRange}
use Rattle.hw_dag.specs.declared.numbers.UnitNo.{UnitNo}
use Rattle.hw_dag.specs.Dag.{SettledUnit, UnitGraph, node_at}
use Rattle.hw_agree.specs.declared.summary.LaneSummary.TheVariants.{Nothing, Line, Tangled}
use Rattle.hw_meeting.specs.declared.frame.MeetingFrame.{MeetingFrame}
use Rattle.hw_meeting.specs.declared.frame.MeetingFrame.TheVariants.{Summary, Torn}
use Rattle.hw_meeting.specs.declared.mark.Mark.TheVariants as mark
use Rattle.hw_meeting.specs.declared.due.Owed.TheVariants as owed
use Rattle.hw_meeting.specs.Frames.{meeting_bytes, SpellsMeeting, meeting_of}
use Rattle.hw_meeting.specs.Lanes.{AreHighest, IsOnLaneOf, IsMark, AreMarks}
use Rattle.hw_meeting.specs.Due.{AreOwed}

-- ---- frames

-- a digest that spells a number
abbrev pub digest : ℕ → Digest
digest n = record { 0 = replicate 32 n }

-- a line of two units, no unit, and a tangle
abbrev pub three_parts : MeetingFrame
three_parts = Summary (Line 2 (digest 7) ∷ Nothing ∷ Tangled ∷ [])

-- A summary of three validators is a frame among three, and among no other number of them.
pub record ThatASummaryIsRead : Type 0 where
  pub spelled : SpellsMeeting 3 (meeting_bytes three_parts) three_parts
  pub read : meeting_of 3 (meeting_bytes three_parts) ≡ Ok three_parts
  pub refused : meeting_of 4 (meeting_bytes three_parts) ≡ Err (OutOfRange 0)

-- Torn validators rise.
pub record ThatTornValidatorsRise : Type 0 where
  pub read : meeting_of 3 (meeting_bytes (Torn (0 ∷ 2 ∷ []))) ≡ Ok (Torn (0 ∷ 2 ∷ []))
  pub refused : meeting_of 3 (meeting_bytes (Torn (2 ∷ 0 ∷ []))) ≡ Err (OutOfRange 0)

-- ---- tables

-- a block, alone in a graph of one validator
abbrev pub block : WireUnit
block = record { instance = digest 0; creator = 0; seq = 0; time = 16; exponent = 4; panorama = []; value = Some []; endorsed = [] }

abbrev pub settled_block : SettledUnit
settled_block = record { digest = digest 1; signed = record { unit = block; signature = record { 0 = replicate 32 0 } }; panorama = []; vote = record { 0 = 0 }; parent = None; height = Some 0 }

abbrev pub one_block : UnitGraph
one_block = record { validators = 1; spare = 0; units = settled_block ∷ [] }

-- its number, which is the highest
abbrev pub first : List (Option UnitNo)
first = Some (record { 0 = 0 }) ∷ []

-- The block is the highest of its validator, and on its own lane; so the validator's units are whole.
pub record ThatABlockIsALine : Type 0 where
  pub highest : AreHighest one_block 1 first
  pub lane : IsOnLaneOf one_block 0 block
  pub whole : AreMarks one_block first (node_at one_block 0 ∷ []) (mark.Whole ∷ [])

-- Where no unit is so, a unit breaks it.
abbrev pub ThatAUnitBreaksIt : Type 0
ThatAUnitBreaksIt = IsMark (λ (u : WireUnit). ⊥) 0 (node_at one_block 0 ∷ []) mark.Broken

-- ---- what is owed

-- Of a line of three against a line of one on it, the units from number 1 on are owed. Where the validator is torn, all
-- are.
pub record ThatALineIsOwed : Type 0 where
  pub ahead : AreOwed [] (Line 3 (digest 3) ∷ []) (Line 1 (digest 1) ∷ []) (owed.From 1 ∷ [])
  pub torn : AreOwed (0 ∷ []) (Line 3 (digest 3) ∷ []) (Line 1 (digest 1) ∷ []) (owed.All ∷ [])
