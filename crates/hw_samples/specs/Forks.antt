-- Validators that fork, marks of them, and two journals in conflict.
use Rattle.std.specs.Prelude.{◌≡◌, ◌==◌, ◌++◌, ◌∷◌, [], List, Some, None, Ok, Err}
use Rattle.std.specs.List.{list_any}
use Rattle.hw_types.specs.declared.unit.Obs.{Obs}
use Rattle.hw_types.specs.declared.unit.Obs.TheVariants.{Absent, Faulty}
use Rattle.hw_types.specs.declared.unit.WireUnit.{WireUnit}
use Rattle.hw_types.specs.declared.unit.Vertex.{Vertex}
use Rattle.hw_types.specs.declared.answers.Receipt.TheVariants.{Admitted, Parked, Dropped, Repeat}
use Rattle.hw_types.specs.Votes.{weight_of}
use Rattle.hw_types.specs.Journal.{named}
use Rattle.hw_types.specs.Culprits.{culprits_of, pair_of, shown_in_either}
use Rattle.hw_safety.specs.Decided.{decisions_of}
use Rattle.hw_samples.specs.Words.{digest, equal_three, short_name, three, four, unit, at, sent, both, endorses, answers_to, panorama_in, faulty_in, weight_in, fork_in, decisions_after, decided}
use Rattle.hw_samples.specs.FourUnits.{nothing, a0, b0, b1, in_order}
use Rattle.hw_types.specs.declared.answers.Cause.TheVariants as cause
use Rattle.hw_types.specs.declared.answers.Rule.TheVariants as rule
use Rattle.hw_types.specs.declared.answers.PairFault.TheVariants as fault

-- another first unit of validator 1
abbrev pub fork : WireUnit
fork = unit 1 0 18 (at a0 ∷ Absent ∷ Absent ∷ []) None

abbrev pub with_fork : List Vertex
with_fork = sent a0 ∷ sent b0 ∷ sent fork ∷ []

-- both units settle, their creator is marked, and its weight of 1 is above the threshold of 0
pub record ForkAboveTheThreshold : Type 0 where
  pub answers : answers_to three with_fork ≡ Ok (Admitted 1) ∷ Ok (Admitted 1) ∷ Ok (Admitted 1) ∷ []
  pub faulty : faulty_in three with_fork ≡ 1 ∷ []
  pub weight : weight_in three with_fork ≡ 1
  pub panorama : panorama_in three with_fork ≡ at a0 ∷ Faulty ∷ Absent ∷ []
  pub fork_choice : fork_in three with_fork ≡ Some (short_name a0)
  pub decisions : decisions_after three with_fork ≡ []

-- a unit of validator 2 that marks validator 1
abbrev pub marks : WireUnit
marks = unit 2 0 18 (at a0 ∷ Faulty ∷ Absent ∷ []) None

-- it waits for two units of one number, or for evidence, which is taken once and has to be a pair
pub record MarkNeedsEvidence : Type 0 where
  pub by_units : answers_to three (sent a0 ∷ sent marks ∷ sent b0 ∷ sent fork ∷ []) ≡ Ok (Admitted 1) ∷ Ok (Parked 1) ∷ Ok (Admitted 1) ∷ Ok (Admitted 2) ∷ []
  pub by_evidence : answers_to three (sent a0 ∷ sent marks ∷ both b0 fork ∷ both b0 fork ∷ []) ≡ Ok (Admitted 1) ∷ Ok (Parked 1) ∷ Ok (Admitted 1) ∷ Ok Repeat ∷ []
  pub faulty : faulty_in three (both b0 fork ∷ []) ≡ 1 ∷ []
  pub no_pair : answers_to three (both b0 b1 ∷ []) ≡ Err (cause.Pair fault.Sequence) ∷ []
  pub one_unit : answers_to three (both b0 b0 ∷ []) ≡ Err (cause.Pair fault.Same) ∷ []
  pub two_creators : answers_to three (both a0 b0 ∷ []) ≡ Err (cause.Pair fault.Creator) ∷ []
  pub other_instance : answers_to three (both b0 (record fork { instance = digest (1 ∷ []) }) ∷ []) ≡ Err (cause.Pair fault.Instance) ∷ []

-- ---- two journals in conflict

-- validator 2's block, which validator 1 votes for beside its first unit above
abbrev pub c0 : WireUnit
c0 = unit 2 0 32 nothing (Some (121 ∷ []))

abbrev pub e0 : WireUnit
e0 = unit 1 0 33 (Absent ∷ Absent ∷ at c0 ∷ []) None

abbrev pub c1 : WireUnit
c1 = unit 2 1 43 (Absent ∷ at e0 ∷ at c0 ∷ []) None

abbrev pub e1 : WireUnit
e1 = unit 1 1 43 (Absent ∷ at e0 ∷ at c0 ∷ []) None

abbrev pub other_side : List Vertex
other_side = sent c0 ∷ sent e0 ∷ sent c1 ∷ sent e1 ∷ []

-- each decides another block of height 0, and validator 1 is the culprit, by its first units
pub record JournalsInConflict : Type 0 where
  pub answers : answers_to three other_side ≡ Ok (Admitted 1) ∷ Ok (Admitted 1) ∷ Ok (Admitted 1) ∷ Ok (Admitted 1) ∷ []
  pub left : decisions_after three in_order ≡ decided a0 0 1 2 4 ∷ []
  pub right : decisions_after three other_side ≡ decided c0 0 1 2 4 ∷ []
  pub culprits : culprits_of three in_order other_side ≡ 1 ∷ []
  pub pair : pair_of (shown_in_either three in_order other_side) 1 ≡ Some (named three b0, named three e0)
  pub weight : weight_of equal_three.weights (λ v. list_any (λ w. w == v) (culprits_of three in_order other_side)) ≡ 1
  -- a journal doesn't conflict with itself
  pub none_in_one : culprits_of three in_order in_order ≡ []

-- in one journal the fork shows, and nothing more is decided
pub record BothSidesInOne : Type 0 where
  pub answers : answers_to three (in_order ++ other_side)
      ≡ Ok (Admitted 1) ∷ Ok (Admitted 1) ∷ Ok (Admitted 1) ∷ Ok (Admitted 1) ∷ Ok (Admitted 1) ∷ Ok (Admitted 1) ∷ Ok (Admitted 1) ∷ Ok (Admitted 1) ∷ []
  pub decisions : decisions_of three (in_order ++ other_side) ≡ decided a0 0 1 2 4 ∷ []
  pub faulty : faulty_in three (in_order ++ other_side) ≡ 1 ∷ []
  pub weight : weight_in three (in_order ++ other_side) ≡ 1

-- ---- naive forks

abbrev pub none_of_four : List Obs
none_of_four = Absent ∷ Absent ∷ Absent ∷ Absent ∷ []

abbrev pub p0 : WireUnit
p0 = unit 0 0 16 none_of_four (Some (120 ∷ []))

-- two first units of validator 3,
abbrev pub d0 : WireUnit
d0 = unit 3 0 17 (at p0 ∷ Absent ∷ Absent ∷ Absent ∷ []) None

abbrev pub f0 : WireUnit
f0 = unit 3 0 18 (at p0 ∷ Absent ∷ Absent ∷ Absent ∷ []) None

-- each cited by one of two others,
abbrev pub takes_d0 : WireUnit
takes_d0 = unit 0 1 19 (at p0 ∷ Absent ∷ Absent ∷ at d0 ∷ []) None

abbrev pub takes_f0 : WireUnit
takes_f0 = unit 1 0 20 (at p0 ∷ Absent ∷ Absent ∷ at f0 ∷ []) None

-- and a unit that cites both of these
abbrev pub takes_both : WireUnit
takes_both = unit 2 0 21 (at takes_d0 ∷ at takes_f0 ∷ Absent ∷ Faulty ∷ []) None

abbrev pub listing : WireUnit
listing = record takes_both { endorsed = short_name takes_d0 ∷ [] }

abbrev pub two_sides : List Vertex
two_sides = sent p0 ∷ sent d0 ∷ sent f0 ∷ sent takes_d0 ∷ sent takes_f0 ∷ []

pub record NaiveForkIsDropped : Type 0 where
  pub answers : answers_to four (two_sides ++ sent takes_both ∷ [])
      ≡ Ok (Admitted 1) ∷ Ok (Admitted 1) ∷ Ok (Admitted 1) ∷ Ok (Admitted 1) ∷ Ok (Admitted 1) ∷ Ok (Dropped rule.Naive) ∷ []

-- With one side endorsed and listed it is admitted. Two of four endorsers aren't more than half
pub record EndorsementLetsItIn : Type 0 where
  pub by_three : answers_to four (two_sides ++ sent takes_both ∷ endorses takes_d0 0 ∷ endorses takes_d0 1 ∷ endorses takes_d0 2 ∷ sent listing ∷ [])
      ≡ Ok (Admitted 1) ∷ Ok (Admitted 1) ∷ Ok (Admitted 1) ∷ Ok (Admitted 1) ∷ Ok (Admitted 1) ∷ Ok (Dropped rule.Naive)
      ∷ Ok (Admitted 0) ∷ Ok (Admitted 0) ∷ Ok (Admitted 0) ∷ Ok (Admitted 1) ∷ []
  pub by_two : answers_to four (two_sides ++ endorses takes_d0 0 ∷ endorses takes_d0 1 ∷ sent listing ∷ endorses takes_d0 2 ∷ endorses takes_d0 2 ∷ endorses takes_d0 4 ∷ [])
      ≡ Ok (Admitted 1) ∷ Ok (Admitted 1) ∷ Ok (Admitted 1) ∷ Ok (Admitted 1) ∷ Ok (Admitted 1)
      ∷ Ok (Admitted 0) ∷ Ok (Admitted 0) ∷ Ok (Parked 1) ∷ Ok (Admitted 1) ∷ Ok Repeat ∷ Err (cause.Local rule.UnknownCreator) ∷ []
