-- Something is planned: a proposal that leaves out a unit that is later than its round.
-- Source: ours.
use Rattle.std.specs.Prelude.{◌≡◌, Bool, true, List, [], ◌∷◌, ◌++◌, ◌<◌, ◌&&◌, nat_le, Some, None, Ok, Err}
use Rattle.hw_types.specs.declared.unit.Digest.{Digest}
use Rattle.hw_types.specs.declared.unit.Signature.{Signature}
use Rattle.hw_types.specs.declared.unit.Obs.TheVariants.{Absent, Correct}
use Rattle.hw_types.specs.declared.unit.WireUnit.{WireUnit}
use Rattle.hw_types.specs.declared.unit.Vertex.{Vertex}
use Rattle.hw_types.specs.declared.unit.Vertex.TheVariants as vertex
use Rattle.hw_types.specs.declared.config.Config.{Config}
use Rattle.hw_types.specs.declared.config.Leaders.TheVariants.{Table}
use Rattle.hw_types.specs.declared.answers.Plan.{Plan}
use Rattle.hw_types.specs.declared.answers.PlanKind.TheVariants.{Propose}
use Rattle.hw_types.specs.declared.answers.Receipt.TheVariants as receipt
use Rattle.hw_types.specs.declared.answers.Cause.TheVariants as cause
use Rattle.hw_types.specs.Graph.{Node, is_some_and, lane_of, previous}
use Rattle.hw_types.specs.Below.{Among}
use Rattle.hw_types.specs.Rounds.{round_id}
use Rattle.hw_types.specs.Settled.{panorama_of}
use Rattle.hw_types.specs.Spelling.{Fits}
use Rattle.hw_types.specs.Journal.{named, Setting, received_of, journal_of}
use Rattle.hw_types.specs.Step.{step, lane_units_in}
use Rattle.hw_honest.specs.LaneTimes.{is_in_round}
use Rattle.hw_honest.specs.Plans.{settled_in, IsPlanned, JournalFits, KeepsRules, FollowsOwn, HasNamesake, IsAnswered, delivered}

-- a digest without bytes
abbrev pub no_bytes : Digest
no_bytes = record { 0 = [] }

-- a signature without bytes
abbrev pub unsigned : Signature
unsigned = record { 0 = [] }

-- two validators, of which the first leads each round of 16 milliseconds
abbrev pub two_validators : Config
two_validators = record { weights = 1 ∷ 1 ∷ []; ftt = 0; levels = 1; min_exponent = 4; max_exponent = 4; leaders = Table (0 ∷ []); max_records = 3; max_parked = 1; end = None }

-- their units are named by creator and number
abbrev pub name_by_place : WireUnit → Digest
name_by_place u = record { 0 = u.creator ∷ u.seq ∷ [] }

-- the setting of the two
abbrev pub by_place : Setting
by_place = record { config = two_validators; instance = no_bytes; name = name_by_place }

-- the first validator's block
abbrev pub first_block : WireUnit
first_block = record { instance = no_bytes; creator = 0; seq = 0; time = 16; exponent = 4; panorama = Absent ∷ Absent ∷ []; value = Some []; endorsed = [] }

-- the second one's unit, which cites the block in the round after
abbrev pub late_unit : WireUnit
late_unit = record { instance = no_bytes; creator = 1; seq = 0; time = 35; exponent = 4; panorama = Correct (name_by_place first_block) ∷ Absent ∷ []; value = None; endorsed = [] }

-- the delivery of the two
abbrev pub both_delivered : List (Vertex × Bool)
both_delivered = (vertex.Unit (record { unit = first_block; signature = unsigned }), true) ∷ (vertex.Unit (record { unit = late_unit; signature = unsigned }), true) ∷ []

-- the journal after it
abbrev pub both_units : List Vertex
both_units = journal_of by_place both_delivered

-- the block that the first validator makes at 36, as of the round's begin
abbrev pub next_block : Plan
next_block = record { kind = Propose; unit = record { instance = no_bytes; creator = 0; seq = 1; time = 32; exponent = 4; panorama = Correct (name_by_place first_block) ∷ Absent ∷ []; value = Some (7 ∷ []); endorsed = [] } }

-- it is planned, though the state observes the late unit, and its delivery is admitted
pub record SomePlanIsMade : Type 0 where
  pub state : panorama_of two_validators (received_of by_place both_units) ≡ Correct (name_by_place first_block) ∷ Correct (name_by_place late_unit) ∷ []
  pub planned : IsPlanned by_place both_units 0 36 (7 ∷ []) next_block
  pub in_limits : JournalFits both_units
  pub keeps : KeepsRules by_place (received_of by_place both_units) (settled_in by_place both_units) next_block
  pub fits : Fits next_block.unit
  pub follows : FollowsOwn by_place (received_of by_place both_units) (settled_in by_place both_units) 0 next_block
  pub is_answered : IsAnswered by_place both_units next_block unsigned
  pub answer : delivered by_place both_units next_block unsigned ≡ Ok (receipt.Admitted 1)

-- ---- and a full round

-- the first validator's witness of its block
abbrev pub its_witness : WireUnit
its_witness = record { instance = no_bytes; creator = 0; seq = 2; time = 42; exponent = 4; panorama = Correct (name_by_place next_block.unit) ∷ Correct (name_by_place late_unit) ∷ []; value = None; endorsed = [] }

-- the journal with both of them
abbrev pub full_round : List Vertex
full_round = both_units ++ vertex.Unit (record { unit = next_block.unit; signature = unsigned }) ∷ vertex.Unit (record { unit = its_witness; signature = unsigned }) ∷ []

-- the settled units of that journal
abbrev pub units_of_round : List Node
units_of_round = settled_in by_place full_round

-- Two units of its lane are in the round, so the validator makes no third; and its blocks are later than all below them.
pub record SomeRoundIsFull : Type 0 where
  pub settled : Among (named by_place its_witness) units_of_round
  pub on_lane : Among (named by_place first_block) (lane_of units_of_round (named by_place next_block.unit))
  pub later : first_block.time < next_block.unit.time
  pub two : nat_le 2 (lane_units_in units_of_round (named by_place its_witness) (round_id 43 4) 4) ≡ true
  pub last_two : (is_in_round (round_id 43 4) 4 (named by_place its_witness) && is_some_and (is_in_round (round_id 43 4) 4) (previous units_of_round (named by_place its_witness))) ≡ true
  pub none : step by_place (received_of by_place full_round) 0 43 [] ≡ None

-- ---- and a clash

-- a unit by the first validator that waits for one that never came. It has the number, and so here the name, of the validator's next unit
abbrev pub waiting_unit : WireUnit
waiting_unit = record { instance = no_bytes; creator = 0; seq = 1; time = 20; exponent = 4; panorama = Correct (name_by_place first_block) ∷ Correct (name_by_place late_unit) ∷ []; value = None; endorsed = [] }

-- the delivery of the block and of that unit
abbrev pub with_waiting : List (Vertex × Bool)
with_waiting = (vertex.Unit (record { unit = first_block; signature = unsigned }), true) ∷ (vertex.Unit (record { unit = waiting_unit; signature = unsigned }), true) ∷ []

-- the journal after it
abbrev pub one_waits : List Vertex
one_waits = journal_of by_place with_waiting

-- The next block is planned all the same, and its delivery clashes.
pub record SomePlanClashes : Type 0 where
  pub planned : IsPlanned by_place one_waits 0 36 (7 ∷ []) next_block
  pub namesake : HasNamesake by_place one_waits next_block
  pub answer : delivered by_place one_waits next_block unsigned ≡ Err (cause.Clash (name_by_place next_block.unit))
