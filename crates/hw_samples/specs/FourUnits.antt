-- A block, a unit of another validator that cites it, and a second unit of each of the two.
use Rattle.std.specs.Prelude.{◌≡◌, ◌∷◌, [], false, List, Some, None, Ok, Err}
use Rattle.hw_types.specs.declared.unit.Obs.{Obs}
use Rattle.hw_types.specs.declared.unit.Obs.TheVariants.{Absent, Faulty}
use Rattle.hw_types.specs.declared.unit.WireUnit.{WireUnit}
use Rattle.hw_types.specs.declared.unit.Vertex.{Vertex}
use Rattle.hw_types.specs.declared.answers.Receipt.TheVariants.{Admitted, Parked, Dropped, Repeat}
use Rattle.hw_types.specs.Journal.{Setting, received_of, answer}
use Rattle.hw_samples.specs.Words.{equal_three, short_name, in_short, three, unit, at, sent, answers_to, after, settled_names, panorama_in, faulty_in, fork_in, committee_in, decisions_after, decided}
use Rattle.hw_types.specs.declared.answers.Cause.TheVariants as cause
use Rattle.hw_types.specs.declared.answers.Rule.TheVariants as rule

abbrev pub nothing : List Obs
nothing = Absent ∷ Absent ∷ Absent ∷ []

abbrev pub a0 : WireUnit
a0 = unit 0 0 16 nothing (Some (120 ∷ []))

abbrev pub b0 : WireUnit
b0 = unit 1 0 17 (at a0 ∷ Absent ∷ Absent ∷ []) None

abbrev pub a1 : WireUnit
a1 = unit 0 1 27 (at a0 ∷ at b0 ∷ Absent ∷ []) None

abbrev pub b1 : WireUnit
b1 = unit 1 1 27 (at a0 ∷ at b0 ∷ Absent ∷ []) None

abbrev pub in_order : List Vertex
in_order = sent a0 ∷ sent b0 ∷ sent a1 ∷ sent b1 ∷ []

-- the block is decided, by both validators from their second units on
pub record FourUnitsInOrder : Type 0 where
  pub answers : answers_to three in_order ≡ Ok (Admitted 1) ∷ Ok (Admitted 1) ∷ Ok (Admitted 1) ∷ Ok (Admitted 1) ∷ []
  pub settled : settled_names three in_order ≡ short_name a0 ∷ short_name a1 ∷ short_name b0 ∷ short_name b1 ∷ []
  pub panorama : panorama_in three in_order ≡ at a1 ∷ at b1 ∷ Absent ∷ []
  pub faulty : faulty_in three in_order ≡ []
  pub fork : fork_in three in_order ≡ Some (short_name a0)
  pub decisions : decisions_after three in_order ≡ decided a0 0 1 2 4 ∷ []
  pub voters : committee_in three in_order a0 2 0 ≡ (0, 0) ∷ (1, 0) ∷ []
  pub committee : committee_in three in_order a0 2 1 ≡ (0, 1) ∷ (1, 1) ∷ []

abbrev pub last_first : List Vertex
last_first = sent b1 ∷ sent a1 ∷ sent b0 ∷ sent a0 ∷ []

-- each waits for what it cites, and the block brings all of them
pub record EverythingParksUntilTheLast : Type 0 where
  pub answers : answers_to three last_first ≡ Ok (Parked 2) ∷ Ok (Parked 2) ∷ Ok (Parked 1) ∷ Ok (Admitted 4) ∷ []
  pub before : settled_names three (sent b1 ∷ sent a1 ∷ sent b0 ∷ []) ≡ []
  pub same_state : received_of three last_first ≡ received_of three in_order
  pub decisions : decisions_after three last_first ≡ decided a0 0 1 2 4 ∷ []

abbrev pub each_twice : List Vertex
each_twice = sent a0 ∷ sent a0 ∷ sent b0 ∷ sent b0 ∷ sent a1 ∷ sent a1 ∷ sent b1 ∷ sent b1 ∷ []

-- what the journal holds already isn't taken twice
pub record RepeatsChangeNothing : Type 0 where
  pub answers : answers_to three each_twice
      ≡ Ok (Admitted 1) ∷ Ok Repeat ∷ Ok (Admitted 1) ∷ Ok Repeat ∷ Ok (Admitted 1) ∷ Ok Repeat ∷ Ok (Admitted 1) ∷ Ok Repeat ∷ []
  pub journal : after three each_twice ≡ in_order
  pub decisions : decisions_after three each_twice ≡ decided a0 0 1 2 4 ∷ []

abbrev pub without_last : List Vertex
without_last = sent a0 ∷ sent b0 ∷ sent a1 ∷ []

-- validator 1's only unit sees a weight of 1, and a quorum is 2
pub record OneWitnessIsNotEnough : Type 0 where
  pub answers : answers_to three without_last ≡ Ok (Admitted 1) ∷ Ok (Admitted 1) ∷ Ok (Admitted 1) ∷ []
  pub voters : committee_in three without_last a0 2 0 ≡ (0, 0) ∷ (1, 0) ∷ []
  pub nobody : committee_in three without_last a0 2 1 ≡ []
  pub decisions : decisions_after three without_last ≡ []

-- ---- limits

abbrev pub two_records : Setting
two_records = in_short (record equal_three { max_records = 2 })

abbrev pub one_parked : Setting
one_parked = in_short (record equal_three { max_parked = 1 })

-- a full journal takes no new vertex, but knows those that it has; a full park takes no unit that would wait
pub record LimitsRefuse : Type 0 where
  pub records : answers_to two_records (sent a0 ∷ sent b0 ∷ sent a1 ∷ sent a0 ∷ []) ≡ Ok (Admitted 1) ∷ Ok (Admitted 1) ∷ Err cause.RecordsFull ∷ Ok Repeat ∷ []
  pub parked : answers_to one_parked (sent b1 ∷ sent a1 ∷ sent a0 ∷ sent b0 ∷ sent a1 ∷ [])
      ≡ Ok (Parked 2) ∷ Err cause.ParkFull ∷ Ok (Admitted 1) ∷ Ok (Admitted 2) ∷ Ok (Admitted 1) ∷ []

-- ---- rules

-- over the first two units: an inconsistent citation, a mark of its own creator, no block to begin with, and a
-- block of another than the leader
pub record BrokenRulesAreNamed : Type 0 where
  pub answers : answers_to three (
      sent a0 ∷ sent b0
      ∷ sent (unit 2 0 20 (Absent ∷ at b0 ∷ Absent ∷ []) None)
      ∷ sent (unit 2 0 20 (Absent ∷ Absent ∷ Faulty ∷ []) None)
      ∷ sent (unit 2 0 20 nothing None)
      ∷ sent (unit 1 0 16 nothing (Some (119 ∷ []))) ∷ [])
      ≡ Ok (Admitted 1) ∷ Ok (Admitted 1) ∷ Ok (Dropped rule.Inconsistent) ∷ Err (cause.Local rule.FaultySelf) ∷ Err (cause.Local rule.NoBlock) ∷ Ok (Dropped rule.NotLeader) ∷ []
  -- no verdict, no place
  pub unsigned : answer three [] (sent a0) false ≡ Err cause.BadSignature

-- three units of a round: the third is dropped, and one of the next round isn't
abbrev pub second : WireUnit
second = unit 0 1 20 (at a0 ∷ Absent ∷ Absent ∷ []) None

abbrev pub third : WireUnit
third = unit 0 2 30 (at second ∷ Absent ∷ Absent ∷ []) None

abbrev pub of_next_round : WireUnit
of_next_round = unit 0 2 32 (at second ∷ Absent ∷ Absent ∷ []) None

pub record ThirdOfARoundIsDropped : Type 0 where
  pub answers : answers_to three (sent a0 ∷ sent second ∷ sent third ∷ sent of_next_round ∷ [])
      ≡ Ok (Admitted 1) ∷ Ok (Admitted 1) ∷ Ok (Dropped rule.ThirdInRound) ∷ Ok (Admitted 1) ∷ []
