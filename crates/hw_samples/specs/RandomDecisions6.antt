-- Random journals: validators that know random parts of each other's units make units round by round, some fork, some
-- units have something wrong, and all of them are delivered in a random order, with evidence and endorsements.
-- The values are those of another reading of the rules, written apart from the definitions; the two agree.
use Rattle.std.specs.Prelude.{◌≡◌, ◌∷◌, [], Bool, true, List, Some, None, Ok, Err}
use Rattle.hw_types.specs.declared.unit.Obs.TheVariants.{Absent, Correct}
use Rattle.hw_types.specs.declared.unit.WireUnit.{WireUnit}
use Rattle.hw_types.specs.declared.unit.Vertex.{Vertex}
use Rattle.hw_types.specs.declared.config.Leaders.TheVariants.{Table}
use Rattle.hw_types.specs.declared.answers.Receipt.TheVariants.{Admitted, Parked, Dropped, Repeat}
use Rattle.hw_types.specs.Settled.{parked_of, dropped_of}
use Rattle.hw_types.specs.Journal.{Setting, received_of, journal_of, answers_from}
use Rattle.hw_safety.specs.Decided.{decisions_of}
use Rattle.hw_samples.specs.Words.{names_of, settled_names, panorama_in, faulty_in, fork_in, sent, both}
use Rattle.hw_samples.specs.JournalWords.{backs, mixed, named_by, dg}
use Rattle.hw_types.specs.declared.answers.Cause.TheVariants as cause
use Rattle.hw_types.specs.declared.answers.Rule.TheVariants as rule
use Rattle.hw_types.specs.declared.answers.PairFault.TheVariants as fault

-- ---- journal 21

abbrev s21 : Setting
s21 = named_by mixed (record { weights = (1 ∷ 1 ∷ 1 ∷ 2 ∷ []); ftt = 0; levels = 2; min_exponent = 2; max_exponent = 4; leaders = Table (0 ∷ 0 ∷ []); max_records = 131072; max_parked = 4096; end = Some 0 })

abbrev u21_0 : WireUnit
u21_0 = record { instance = dg (0 ∷ 0 ∷ 0 ∷ 0 ∷ []); creator = 0; seq = 0; time = 8; exponent = 2; panorama = (Absent ∷ Absent ∷ Absent ∷ Absent ∷ []); value = Some (121 ∷ []); endorsed = [] }

abbrev u21_1 : WireUnit
u21_1 = record { instance = dg (0 ∷ 0 ∷ 0 ∷ 0 ∷ []); creator = 2; seq = 0; time = 9; exponent = 2; panorama = (Correct (dg (42 ∷ 0 ∷ 0 ∷ 8 ∷ [])) ∷ Absent ∷ Absent ∷ Absent ∷ []); value = None; endorsed = [] }

abbrev u21_2 : WireUnit
u21_2 = record { instance = dg (0 ∷ 0 ∷ 0 ∷ 0 ∷ []); creator = 1; seq = 0; time = 10; exponent = 2; panorama = (Correct (dg (28 ∷ 0 ∷ 1 ∷ 10 ∷ [])) ∷ Absent ∷ Correct (dg (26 ∷ 2 ∷ 0 ∷ 9 ∷ [])) ∷ Correct (dg (33 ∷ 3 ∷ 0 ∷ 9 ∷ [])) ∷ []); value = None; endorsed = [] }

abbrev u21_3 : WireUnit
u21_3 = record { instance = dg (0 ∷ 0 ∷ 0 ∷ 0 ∷ []); creator = 3; seq = 0; time = 9; exponent = 2; panorama = (Correct (dg (42 ∷ 0 ∷ 0 ∷ 8 ∷ [])) ∷ Absent ∷ Correct (dg (26 ∷ 2 ∷ 0 ∷ 9 ∷ [])) ∷ Absent ∷ []); value = None; endorsed = [] }

abbrev u21_4 : WireUnit
u21_4 = record { instance = dg (0 ∷ 0 ∷ 0 ∷ 0 ∷ []); creator = 0; seq = 1; time = 10; exponent = 2; panorama = (Correct (dg (42 ∷ 0 ∷ 0 ∷ 8 ∷ [])) ∷ Absent ∷ Absent ∷ Absent ∷ []); value = None; endorsed = [] }

abbrev u21_5 : WireUnit
u21_5 = record { instance = dg (0 ∷ 0 ∷ 0 ∷ 0 ∷ []); creator = 0; seq = 2; time = 16; exponent = 2; panorama = (Correct (dg (28 ∷ 0 ∷ 1 ∷ 10 ∷ [])) ∷ Absent ∷ Absent ∷ Absent ∷ []); value = Some (122 ∷ []); endorsed = [] }

abbrev u21_6 : WireUnit
u21_6 = record { instance = dg (0 ∷ 0 ∷ 0 ∷ 0 ∷ []); creator = 1; seq = 1; time = 17; exponent = 2; panorama = (Correct (dg (28 ∷ 0 ∷ 1 ∷ 10 ∷ [])) ∷ Correct (dg (30 ∷ 1 ∷ 0 ∷ 10 ∷ [])) ∷ Correct (dg (26 ∷ 2 ∷ 0 ∷ 9 ∷ [])) ∷ Correct (dg (33 ∷ 3 ∷ 0 ∷ 9 ∷ [])) ∷ []); value = None; endorsed = [] }

abbrev sent21 : List (Vertex × Bool)
sent21 = ((sent u21_0, true) ∷ (sent u21_1, true) ∷ (backs (dg (26 ∷ 2 ∷ 0 ∷ 9 ∷ [])) 1, true) ∷ (sent u21_2, true) ∷ (sent u21_3, true) ∷ (backs (dg (26 ∷ 2 ∷ 0 ∷ 9 ∷ [])) 4, true) ∷ (sent u21_4, true) ∷ (sent u21_2, true) ∷ (sent u21_5, true) ∷ (sent u21_6, true) ∷ (both u21_1 u21_1, true) ∷ (backs (dg (26 ∷ 2 ∷ 0 ∷ 9 ∷ [])) 0, true) ∷ [])

abbrev journal21 : List Vertex
journal21 = (sent u21_0 ∷ sent u21_1 ∷ backs (dg (26 ∷ 2 ∷ 0 ∷ 9 ∷ [])) 1 ∷ sent u21_2 ∷ sent u21_3 ∷ sent u21_4 ∷ sent u21_5 ∷ sent u21_6 ∷ backs (dg (26 ∷ 2 ∷ 0 ∷ 9 ∷ [])) 0 ∷ [])

pub record Decided21 : Type 0 where
  pub answers : answers_from s21 [] sent21 ≡ (Ok (Admitted 1) ∷ Ok (Admitted 1) ∷ Ok (Admitted 0) ∷ Ok (Parked 2) ∷ Ok (Admitted 1) ∷ Err (cause.Local rule.UnknownCreator) ∷ Ok (Admitted 2) ∷ Ok Repeat ∷ Ok (Dropped rule.AfterTerminal) ∷ Ok (Admitted 1) ∷ Err (cause.Pair fault.Same) ∷ Ok (Admitted 0) ∷ [])
  pub kept : journal_of s21 sent21 ≡ journal21
  pub settled : settled_names s21 journal21 ≡ ((dg (15 ∷ 1 ∷ 1 ∷ 17 ∷ [])) ∷ (dg (26 ∷ 2 ∷ 0 ∷ 9 ∷ [])) ∷ (dg (28 ∷ 0 ∷ 1 ∷ 10 ∷ [])) ∷ (dg (30 ∷ 1 ∷ 0 ∷ 10 ∷ [])) ∷ (dg (33 ∷ 3 ∷ 0 ∷ 9 ∷ [])) ∷ (dg (42 ∷ 0 ∷ 0 ∷ 8 ∷ [])) ∷ [])
  pub parked : names_of (parked_of s21.config (received_of s21 journal21)) ≡ []
  pub dropped : names_of (dropped_of s21.config (received_of s21 journal21)) ≡ ((dg (44 ∷ 0 ∷ 2 ∷ 16 ∷ [])) ∷ [])
  pub faulty : faulty_in s21 journal21 ≡ []
  pub panorama : panorama_in s21 journal21 ≡ (Correct (dg (28 ∷ 0 ∷ 1 ∷ 10 ∷ [])) ∷ Correct (dg (15 ∷ 1 ∷ 1 ∷ 17 ∷ [])) ∷ Correct (dg (26 ∷ 2 ∷ 0 ∷ 9 ∷ [])) ∷ Correct (dg (33 ∷ 3 ∷ 0 ∷ 9 ∷ [])) ∷ [])
  pub fork : fork_in s21 journal21 ≡ Some (dg (42 ∷ 0 ∷ 0 ∷ 8 ∷ []))
  pub decisions : decisions_of s21 journal21 ≡ []

-- ---- journal 22

abbrev s22 : Setting
s22 = named_by mixed (record { weights = (1 ∷ []); ftt = 0; levels = 2; min_exponent = 2; max_exponent = 4; leaders = Table (0 ∷ 0 ∷ []); max_records = 131072; max_parked = 4096; end = None })

abbrev u22_0 : WireUnit
u22_0 = record { instance = dg (0 ∷ 0 ∷ 0 ∷ 0 ∷ []); creator = 0; seq = 0; time = 8; exponent = 2; panorama = (Absent ∷ []); value = Some (121 ∷ []); endorsed = [] }

abbrev u22_1 : WireUnit
u22_1 = record { instance = dg (0 ∷ 0 ∷ 0 ∷ 0 ∷ []); creator = 0; seq = 1; time = 10; exponent = 1; panorama = (Correct (dg (39 ∷ 0 ∷ 0 ∷ 8 ∷ [])) ∷ []); value = None; endorsed = [] }

abbrev u22_2 : WireUnit
u22_2 = record { instance = dg (0 ∷ 0 ∷ 0 ∷ 0 ∷ []); creator = 0; seq = 2; time = 12; exponent = 4; panorama = (Correct (dg (39 ∷ 0 ∷ 0 ∷ 8 ∷ [])) ∷ []); value = Some (120 ∷ []); endorsed = [] }

abbrev u22_3 : WireUnit
u22_3 = record { instance = dg (0 ∷ 0 ∷ 0 ∷ 0 ∷ []); creator = 0; seq = 1; time = 14; exponent = 2; panorama = (Correct (dg (39 ∷ 0 ∷ 0 ∷ 8 ∷ [])) ∷ []); value = None; endorsed = [] }

abbrev u22_4 : WireUnit
u22_4 = record { instance = dg (0 ∷ 0 ∷ 0 ∷ 0 ∷ []); creator = 0; seq = 2; time = 20; exponent = 2; panorama = (Correct (dg (69 ∷ 0 ∷ 1 ∷ 14 ∷ [])) ∷ []); value = Some (120 ∷ []); endorsed = ((dg (1 ∷ 0 ∷ 2 ∷ 12 ∷ [])) ∷ []) }

abbrev u22_5 : WireUnit
u22_5 = record { instance = dg (0 ∷ 0 ∷ 0 ∷ 0 ∷ []); creator = 0; seq = 2; time = 22; exponent = 2; panorama = (Correct (dg (69 ∷ 0 ∷ 1 ∷ 14 ∷ [])) ∷ []); value = None; endorsed = [] }

abbrev sent22 : List (Vertex × Bool)
sent22 = ((sent u22_0, true) ∷ (sent u22_1, true) ∷ (sent u22_2, true) ∷ (sent u22_3, true) ∷ (sent u22_4, true) ∷ (sent u22_5, true) ∷ [])

abbrev journal22 : List Vertex
journal22 = (sent u22_0 ∷ sent u22_2 ∷ sent u22_3 ∷ sent u22_4 ∷ sent u22_5 ∷ [])

pub record Decided22 : Type 0 where
  pub answers : answers_from s22 [] sent22 ≡ (Ok (Admitted 1) ∷ Err (cause.Local rule.RoundExponent) ∷ Ok (Dropped rule.SequenceNumber) ∷ Ok (Admitted 1) ∷ Ok (Parked 1) ∷ Ok (Admitted 1) ∷ [])
  pub kept : journal_of s22 sent22 ≡ journal22
  pub settled : settled_names s22 journal22 ≡ ((dg (39 ∷ 0 ∷ 0 ∷ 8 ∷ [])) ∷ (dg (65 ∷ 0 ∷ 2 ∷ 22 ∷ [])) ∷ (dg (69 ∷ 0 ∷ 1 ∷ 14 ∷ [])) ∷ [])
  pub parked : names_of (parked_of s22.config (received_of s22 journal22)) ≡ ((dg (96 ∷ 0 ∷ 2 ∷ 20 ∷ [])) ∷ [])
  pub dropped : names_of (dropped_of s22.config (received_of s22 journal22)) ≡ ((dg (1 ∷ 0 ∷ 2 ∷ 12 ∷ [])) ∷ [])
  pub faulty : faulty_in s22 journal22 ≡ []
  pub panorama : panorama_in s22 journal22 ≡ (Correct (dg (65 ∷ 0 ∷ 2 ∷ 22 ∷ [])) ∷ [])
  pub fork : fork_in s22 journal22 ≡ Some (dg (39 ∷ 0 ∷ 0 ∷ 8 ∷ []))
  pub decisions : decisions_of s22 journal22 ≡ (record { block = (dg (39 ∷ 0 ∷ 0 ∷ 8 ∷ [])); height = 0; level = 1; quorum = 1; at = 3 } ∷ [])

-- ---- journal 23

abbrev s23 : Setting
s23 = named_by mixed (record { weights = (1 ∷ 3 ∷ 1 ∷ 2 ∷ []); ftt = 0; levels = 1; min_exponent = 2; max_exponent = 4; leaders = Table (1 ∷ 1 ∷ 3 ∷ []); max_records = 131072; max_parked = 4096; end = Some 0 })

abbrev u23_0 : WireUnit
u23_0 = record { instance = dg (0 ∷ 0 ∷ 0 ∷ 0 ∷ []); creator = 3; seq = 0; time = 8; exponent = 2; panorama = (Absent ∷ Absent ∷ Absent ∷ Absent ∷ []); value = Some (121 ∷ []); endorsed = [] }

abbrev u23_1 : WireUnit
u23_1 = record { instance = dg (0 ∷ 0 ∷ 0 ∷ 0 ∷ []); creator = 0; seq = 0; time = 10; exponent = 2; panorama = (Absent ∷ Absent ∷ Absent ∷ Correct (dg (63 ∷ 3 ∷ 0 ∷ 8 ∷ [])) ∷ []); value = None; endorsed = [] }

abbrev u23_2 : WireUnit
u23_2 = record { instance = dg (0 ∷ 0 ∷ 0 ∷ 0 ∷ []); creator = 1; seq = 0; time = 9; exponent = 2; panorama = (Absent ∷ Absent ∷ Absent ∷ Correct (dg (63 ∷ 3 ∷ 0 ∷ 8 ∷ [])) ∷ []); value = None; endorsed = [] }

abbrev u23_3 : WireUnit
u23_3 = record { instance = dg (0 ∷ 0 ∷ 0 ∷ 0 ∷ []); creator = 2; seq = 0; time = 9; exponent = 4; panorama = (Absent ∷ Correct (dg (19 ∷ 1 ∷ 0 ∷ 9 ∷ [])) ∷ Absent ∷ Correct (dg (63 ∷ 3 ∷ 0 ∷ 8 ∷ [])) ∷ []); value = None; endorsed = [] }

abbrev u23_4 : WireUnit
u23_4 = record { instance = dg (0 ∷ 0 ∷ 0 ∷ 0 ∷ []); creator = 0; seq = 0; time = 9; exponent = 2; panorama = (Absent ∷ Absent ∷ Absent ∷ Correct (dg (63 ∷ 3 ∷ 0 ∷ 8 ∷ [])) ∷ []); value = None; endorsed = ((dg (63 ∷ 3 ∷ 0 ∷ 8 ∷ [])) ∷ []) }

abbrev u23_5 : WireUnit
u23_5 = record { instance = dg (0 ∷ 0 ∷ 0 ∷ 0 ∷ []); creator = 1; seq = 1; time = 10; exponent = 2; panorama = (Correct (dg (23 ∷ 0 ∷ 0 ∷ 10 ∷ [])) ∷ Correct (dg (19 ∷ 1 ∷ 0 ∷ 9 ∷ [])) ∷ Correct (dg (32 ∷ 2 ∷ 0 ∷ 9 ∷ [])) ∷ Correct (dg (63 ∷ 3 ∷ 0 ∷ 8 ∷ [])) ∷ []); value = None; endorsed = [] }

abbrev u23_6 : WireUnit
u23_6 = record { instance = dg (0 ∷ 0 ∷ 0 ∷ 0 ∷ []); creator = 2; seq = 1; time = 10; exponent = 2; panorama = (Correct (dg (23 ∷ 0 ∷ 0 ∷ 10 ∷ [])) ∷ Correct (dg (35 ∷ 1 ∷ 1 ∷ 10 ∷ [])) ∷ Correct (dg (32 ∷ 2 ∷ 0 ∷ 9 ∷ [])) ∷ Correct (dg (63 ∷ 3 ∷ 0 ∷ 8 ∷ [])) ∷ []); value = None; endorsed = [] }

abbrev u23_7 : WireUnit
u23_7 = record { instance = dg (0 ∷ 0 ∷ 0 ∷ 0 ∷ []); creator = 1; seq = 2; time = 16; exponent = 2; panorama = (Correct (dg (23 ∷ 0 ∷ 0 ∷ 10 ∷ [])) ∷ Correct (dg (35 ∷ 1 ∷ 1 ∷ 10 ∷ [])) ∷ Correct (dg (32 ∷ 2 ∷ 0 ∷ 9 ∷ [])) ∷ Correct (dg (63 ∷ 3 ∷ 0 ∷ 8 ∷ [])) ∷ []); value = Some []; endorsed = [] }

abbrev u23_8 : WireUnit
u23_8 = record { instance = dg (0 ∷ 0 ∷ 0 ∷ 0 ∷ []); creator = 0; seq = 1; time = 17; exponent = 2; panorama = (Correct (dg (23 ∷ 0 ∷ 0 ∷ 10 ∷ [])) ∷ Correct (dg (35 ∷ 1 ∷ 1 ∷ 10 ∷ [])) ∷ Correct (dg (32 ∷ 2 ∷ 0 ∷ 9 ∷ [])) ∷ Correct (dg (63 ∷ 3 ∷ 0 ∷ 8 ∷ [])) ∷ []); value = None; endorsed = [] }

abbrev u23_9 : WireUnit
u23_9 = record { instance = dg (0 ∷ 0 ∷ 0 ∷ 0 ∷ []); creator = 2; seq = 1; time = 17; exponent = 2; panorama = (Correct (dg (8 ∷ 0 ∷ 1 ∷ 17 ∷ [])) ∷ Correct (dg (35 ∷ 1 ∷ 1 ∷ 10 ∷ [])) ∷ Correct (dg (32 ∷ 2 ∷ 0 ∷ 9 ∷ [])) ∷ Correct (dg (63 ∷ 3 ∷ 0 ∷ 8 ∷ [])) ∷ []); value = None; endorsed = [] }

abbrev sent23 : List (Vertex × Bool)
sent23 = ((sent u23_0, true) ∷ (sent u23_1, true) ∷ (sent u23_2, true) ∷ (sent u23_3, true) ∷ (sent u23_4, true) ∷ (sent u23_5, true) ∷ (sent u23_6, true) ∷ (sent u23_7, true) ∷ (sent u23_8, true) ∷ (sent u23_9, true) ∷ [])

abbrev journal23 : List Vertex
journal23 = (sent u23_0 ∷ sent u23_1 ∷ sent u23_2 ∷ sent u23_3 ∷ sent u23_4 ∷ sent u23_5 ∷ sent u23_6 ∷ sent u23_7 ∷ sent u23_8 ∷ sent u23_9 ∷ [])

pub record Decided23 : Type 0 where
  pub answers : answers_from s23 [] sent23 ≡ (Ok (Admitted 1) ∷ Ok (Admitted 1) ∷ Ok (Admitted 1) ∷ Ok (Admitted 1) ∷ Ok (Parked 1) ∷ Ok (Admitted 1) ∷ Ok (Dropped rule.RoundChange) ∷ Ok (Dropped rule.AfterTerminal) ∷ Ok (Admitted 1) ∷ Ok (Admitted 1) ∷ [])
  pub kept : journal_of s23 sent23 ≡ journal23
  pub settled : settled_names s23 journal23 ≡ ((dg (8 ∷ 0 ∷ 1 ∷ 17 ∷ [])) ∷ (dg (19 ∷ 1 ∷ 0 ∷ 9 ∷ [])) ∷ (dg (22 ∷ 2 ∷ 1 ∷ 17 ∷ [])) ∷ (dg (23 ∷ 0 ∷ 0 ∷ 10 ∷ [])) ∷ (dg (32 ∷ 2 ∷ 0 ∷ 9 ∷ [])) ∷ (dg (35 ∷ 1 ∷ 1 ∷ 10 ∷ [])) ∷ (dg (63 ∷ 3 ∷ 0 ∷ 8 ∷ [])) ∷ [])
  pub parked : names_of (parked_of s23.config (received_of s23 journal23)) ≡ ((dg (25 ∷ 0 ∷ 0 ∷ 9 ∷ [])) ∷ [])
  pub dropped : names_of (dropped_of s23.config (received_of s23 journal23)) ≡ ((dg (26 ∷ 1 ∷ 2 ∷ 16 ∷ [])) ∷ (dg (42 ∷ 2 ∷ 1 ∷ 10 ∷ [])) ∷ [])
  pub faulty : faulty_in s23 journal23 ≡ []
  pub panorama : panorama_in s23 journal23 ≡ (Correct (dg (8 ∷ 0 ∷ 1 ∷ 17 ∷ [])) ∷ Correct (dg (35 ∷ 1 ∷ 1 ∷ 10 ∷ [])) ∷ Correct (dg (22 ∷ 2 ∷ 1 ∷ 17 ∷ [])) ∷ Correct (dg (63 ∷ 3 ∷ 0 ∷ 8 ∷ [])) ∷ [])
  pub fork : fork_in s23 journal23 ≡ Some (dg (63 ∷ 3 ∷ 0 ∷ 8 ∷ []))
  pub decisions : decisions_of s23 journal23 ≡ (record { block = (dg (63 ∷ 3 ∷ 0 ∷ 8 ∷ [])); height = 0; level = 1; quorum = 4; at = 9 } ∷ [])

-- ---- journal 24

abbrev s24 : Setting
s24 = named_by mixed (record { weights = (1 ∷ []); ftt = 0; levels = 2; min_exponent = 2; max_exponent = 4; leaders = Table (0 ∷ 0 ∷ []); max_records = 131072; max_parked = 4096; end = None })

abbrev u24_0 : WireUnit
u24_0 = record { instance = dg (0 ∷ 0 ∷ 0 ∷ 0 ∷ []); creator = 0; seq = 0; time = 8; exponent = 2; panorama = (Absent ∷ []); value = Some []; endorsed = [] }

abbrev u24_1 : WireUnit
u24_1 = record { instance = dg (0 ∷ 0 ∷ 0 ∷ 0 ∷ []); creator = 0; seq = 1; time = 10; exponent = 2; panorama = (Correct (dg (15 ∷ 0 ∷ 0 ∷ 8 ∷ [])) ∷ []); value = None; endorsed = [] }

abbrev u24_2 : WireUnit
u24_2 = record { instance = dg (0 ∷ 0 ∷ 0 ∷ 0 ∷ []); creator = 0; seq = 5; time = 22; exponent = 2; panorama = (Correct (dg (70 ∷ 0 ∷ 4 ∷ 20 ∷ [])) ∷ []); value = None; endorsed = [] }

abbrev u24_3 : WireUnit
u24_3 = record { instance = dg (0 ∷ 0 ∷ 0 ∷ 0 ∷ []); creator = 0; seq = 2; time = 16; exponent = 2; panorama = (Correct (dg (25 ∷ 0 ∷ 1 ∷ 10 ∷ [])) ∷ []); value = Some []; endorsed = [] }

abbrev u24_4 : WireUnit
u24_4 = record { instance = dg (0 ∷ 0 ∷ 0 ∷ 0 ∷ []); creator = 0; seq = 3; time = 18; exponent = 2; panorama = (Correct (dg (16 ∷ 0 ∷ 2 ∷ 16 ∷ [])) ∷ []); value = None; endorsed = [] }

abbrev u24_5 : WireUnit
u24_5 = record { instance = dg (0 ∷ 0 ∷ 0 ∷ 0 ∷ []); creator = 0; seq = 4; time = 20; exponent = 2; panorama = (Correct (dg (26 ∷ 0 ∷ 3 ∷ 18 ∷ [])) ∷ []); value = Some []; endorsed = [] }

abbrev sent24 : List (Vertex × Bool)
sent24 = ((sent u24_0, true) ∷ (both u24_1 u24_2, true) ∷ (sent u24_1, true) ∷ (sent u24_3, true) ∷ (sent u24_4, true) ∷ (sent u24_5, true) ∷ (sent u24_2, true) ∷ (both u24_4 u24_4, true) ∷ [])

abbrev journal24 : List Vertex
journal24 = (sent u24_0 ∷ sent u24_1 ∷ sent u24_3 ∷ sent u24_4 ∷ sent u24_5 ∷ sent u24_2 ∷ [])

pub record Decided24 : Type 0 where
  pub answers : answers_from s24 [] sent24 ≡ (Ok (Admitted 1) ∷ Err (cause.Pair fault.Sequence) ∷ Ok (Admitted 1) ∷ Ok (Admitted 1) ∷ Ok (Admitted 1) ∷ Ok (Admitted 1) ∷ Ok (Admitted 1) ∷ Err (cause.Pair fault.Same) ∷ [])
  pub kept : journal_of s24 sent24 ≡ journal24
  pub settled : settled_names s24 journal24 ≡ ((dg (15 ∷ 0 ∷ 0 ∷ 8 ∷ [])) ∷ (dg (16 ∷ 0 ∷ 2 ∷ 16 ∷ [])) ∷ (dg (25 ∷ 0 ∷ 1 ∷ 10 ∷ [])) ∷ (dg (26 ∷ 0 ∷ 3 ∷ 18 ∷ [])) ∷ (dg (70 ∷ 0 ∷ 4 ∷ 20 ∷ [])) ∷ (dg (80 ∷ 0 ∷ 5 ∷ 22 ∷ [])) ∷ [])
  pub parked : names_of (parked_of s24.config (received_of s24 journal24)) ≡ []
  pub dropped : names_of (dropped_of s24.config (received_of s24 journal24)) ≡ []
  pub faulty : faulty_in s24 journal24 ≡ []
  pub panorama : panorama_in s24 journal24 ≡ (Correct (dg (80 ∷ 0 ∷ 5 ∷ 22 ∷ [])) ∷ [])
  pub fork : fork_in s24 journal24 ≡ Some (dg (70 ∷ 0 ∷ 4 ∷ 20 ∷ []))
  pub decisions : decisions_of s24 journal24 ≡ (record { block = (dg (15 ∷ 0 ∷ 0 ∷ 8 ∷ [])); height = 0; level = 1; quorum = 1; at = 2 } ∷ record { block = (dg (16 ∷ 0 ∷ 2 ∷ 16 ∷ [])); height = 1; level = 1; quorum = 1; at = 4 } ∷ record { block = (dg (70 ∷ 0 ∷ 4 ∷ 20 ∷ [])); height = 2; level = 1; quorum = 1; at = 6 } ∷ [])
