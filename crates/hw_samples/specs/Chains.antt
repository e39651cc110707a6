-- Fork choices among blocks, blocks one after the other, levels, and the last block.
use Rattle.std.specs.Prelude.{ℕ, ◌≡◌, ◌++◌, ◌∷◌, [], List, Some, None, Ok}
use Rattle.hw_types.specs.declared.unit.Obs.{Obs}
use Rattle.hw_types.specs.declared.unit.Obs.TheVariants.{Absent}
use Rattle.hw_types.specs.declared.unit.WireUnit.{WireUnit}
use Rattle.hw_types.specs.declared.unit.Vertex.{Vertex}
use Rattle.hw_types.specs.declared.config.Leaders.TheVariants.{Table}
use Rattle.hw_types.specs.declared.answers.Receipt.TheVariants.{Admitted, Dropped}
use Rattle.hw_types.specs.Journal.{Setting}
use Rattle.hw_safety.specs.Decided.{decisions_of}
use Rattle.hw_samples.specs.Words.{equal_three, alone, equal_four, short_name, in_short, unit, at, sent, answers_to, fork_in, committee_in, decisions_after, decided}
use Rattle.hw_samples.specs.FourUnits.{nothing, a0}
use Rattle.hw_types.specs.declared.answers.Rule.TheVariants as rule

-- ---- the heaviest path

abbrev pub weighed : Setting
weighed = in_short (record equal_three { weights = 3 ∷ 2 ∷ 4 ∷ []; leaders = Table (2 ∷ 0 ∷ 0 ∷ 1 ∷ 2 ∷ []) })

abbrev pub root : WireUnit
root = unit 0 0 16 nothing (Some (112 ∷ []))

abbrev pub child : WireUnit
child = unit 0 1 32 (at root ∷ Absent ∷ Absent ∷ []) (Some (113 ∷ []))

abbrev pub other_child : WireUnit
other_child = unit 1 0 48 (at root ∷ Absent ∷ Absent ∷ []) (Some (114 ∷ []))

abbrev pub other_root : WireUnit
other_root = unit 2 0 64 nothing (Some (115 ∷ []))

-- 5 against 4 at the roots, though the other root's one voter is the heaviest, and then 3 against 2
pub record HeaviestPath : Type 0 where
  pub answers : answers_to weighed (sent root ∷ sent child ∷ sent other_child ∷ sent other_root ∷ []) ≡ Ok (Admitted 1) ∷ Ok (Admitted 1) ∷ Ok (Admitted 1) ∷ Ok (Admitted 1) ∷ []
  pub fork : fork_in weighed (sent root ∷ sent child ∷ sent other_child ∷ sent other_root ∷ []) ≡ Some (short_name child)

-- ---- one validator

abbrev pub single : Setting
single = in_short alone

abbrev pub s0 : WireUnit
s0 = unit 0 0 16 (Absent ∷ []) (Some (120 ∷ []))

abbrev pub s1 : WireUnit
s1 = unit 0 1 26 (at s0 ∷ []) None

abbrev pub s2 : WireUnit
s2 = unit 0 2 32 (at s1 ∷ []) (Some (121 ∷ []))

abbrev pub s3 : WireUnit
s3 = unit 0 3 42 (at s2 ∷ []) None

abbrev pub one_decided : List Vertex
one_decided = sent s0 ∷ sent s1 ∷ []

abbrev pub two_decided : List Vertex
two_decided = sent s0 ∷ sent s1 ∷ sent s2 ∷ sent s3 ∷ []

abbrev pub all_at_once : List Vertex
all_at_once = sent s3 ∷ sent s2 ∷ sent s1 ∷ sent s0 ∷ []

-- each of its blocks is decided by its next unit, and both at once where the first unit comes last
pub record SingleValidatorDecides : Type 0 where
  pub none : decisions_after single (sent s0 ∷ []) ≡ []
  pub one : decisions_after single one_decided ≡ decided s0 0 1 1 2 ∷ []
  pub voters : committee_in single one_decided s0 1 0 ≡ (0, 0) ∷ []
  pub committee : committee_in single one_decided s0 1 1 ≡ (0, 1) ∷ []
  pub two : decisions_after single two_decided ≡ decided s0 0 1 1 2 ∷ decided s2 1 1 1 4 ∷ []
  pub two_at_once : decisions_after single all_at_once ≡ decided s0 0 1 1 4 ∷ decided s2 1 1 1 4 ∷ []

-- ---- two levels

abbrev pub at_two_levels : Setting
at_two_levels = in_short (record equal_four { levels = 2 })

abbrev pub p0 : WireUnit
p0 = unit 0 0 16 (Absent ∷ Absent ∷ Absent ∷ Absent ∷ []) (Some (120 ∷ []))

abbrev pub q0 : WireUnit
q0 = unit 1 0 17 (at p0 ∷ Absent ∷ Absent ∷ Absent ∷ []) None

abbrev pub r0 : WireUnit
r0 = unit 2 0 17 (at p0 ∷ Absent ∷ Absent ∷ Absent ∷ []) None

abbrev pub p1 : WireUnit
p1 = unit 0 1 26 (at p0 ∷ at q0 ∷ at r0 ∷ Absent ∷ []) None

abbrev pub q1 : WireUnit
q1 = unit 1 1 26 (at p0 ∷ at q0 ∷ at r0 ∷ Absent ∷ []) None

abbrev pub r1 : WireUnit
r1 = unit 2 1 26 (at p0 ∷ at q0 ∷ at r0 ∷ Absent ∷ []) None

abbrev pub p2 : WireUnit
p2 = unit 0 2 33 (at p1 ∷ at q1 ∷ at r1 ∷ Absent ∷ []) None

abbrev pub q2 : WireUnit
q2 = unit 1 2 33 (at p1 ∷ at q1 ∷ at r1 ∷ Absent ∷ []) None

abbrev pub r2 : WireUnit
r2 = unit 2 2 33 (at p1 ∷ at q1 ∷ at r1 ∷ Absent ∷ []) None

abbrev pub eight_units : List Vertex
eight_units = sent p0 ∷ sent q0 ∷ sent r0 ∷ sent p1 ∷ sent q1 ∷ sent r1 ∷ sent p2 ∷ sent q2 ∷ []

abbrev pub nine_units : List Vertex
nine_units = eight_units ++ sent r2 ∷ []

-- Three of four validators decide at level 2, where a quorum is 3. At level 1 it is 4, and one of them is silent
pub record TwoLevelsWhereOneIsSilent : Type 0 where
  pub answers : answers_to at_two_levels nine_units
      ≡ Ok (Admitted 1) ∷ Ok (Admitted 1) ∷ Ok (Admitted 1) ∷ Ok (Admitted 1) ∷ Ok (Admitted 1) ∷ Ok (Admitted 1) ∷ Ok (Admitted 1) ∷ Ok (Admitted 1) ∷ Ok (Admitted 1) ∷ []
  pub not_yet : decisions_of at_two_levels eight_units ≡ []
  pub decisions : decisions_of at_two_levels nine_units ≡ decided p0 0 2 3 9 ∷ []
  pub voters : committee_in at_two_levels nine_units p0 3 0 ≡ (0, 0) ∷ (1, 0) ∷ (2, 0) ∷ []
  pub first_level : committee_in at_two_levels nine_units p0 3 1 ≡ (0, 1) ∷ (1, 1) ∷ (2, 1) ∷ []
  pub second_level : committee_in at_two_levels nine_units p0 3 2 ≡ (0, 2) ∷ (1, 2) ∷ (2, 2) ∷ []
  pub not_at_one : committee_in at_two_levels nine_units p0 4 1 ≡ []

-- ---- the last block

abbrev pub ends_at : ℕ → Setting
ends_at height = in_short (record equal_three { end = Some height })

abbrev pub next_block : List Obs → WireUnit
next_block panorama = unit 2 0 32 panorama (Some (121 ∷ []))

-- No block stands on the last one, but one beside it may. It is the unit's own panorama that counts
pub record NoBlockAfterTheLast : Type 0 where
  pub after_it : answers_to (ends_at 0) (sent a0 ∷ sent (next_block (at a0 ∷ Absent ∷ Absent ∷ [])) ∷ []) ≡ Ok (Admitted 1) ∷ Ok (Dropped rule.AfterTerminal) ∷ []
  pub before_it : answers_to (ends_at 1) (sent a0 ∷ sent (next_block (at a0 ∷ Absent ∷ Absent ∷ [])) ∷ []) ≡ Ok (Admitted 1) ∷ Ok (Admitted 1) ∷ []
  pub beside_it : answers_to (ends_at 0) (sent a0 ∷ sent (next_block nothing) ∷ []) ≡ Ok (Admitted 1) ∷ Ok (Admitted 1) ∷ []
