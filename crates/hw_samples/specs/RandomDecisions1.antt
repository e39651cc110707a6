-- Random journals: validators that know random parts of each other's units make units round by round, some fork, some
-- units have something wrong, and all of them are delivered in a random order, with evidence and endorsements.
-- The values are those of another reading of the rules, written apart from the definitions; the two agree.
use Rattle.std.specs.Prelude.{◌≡◌, ◌∷◌, [], Bool, true, false, List, Some, None, Ok, Err}
use Rattle.hw_types.specs.declared.unit.Obs.TheVariants.{Absent, Correct, Faulty}
use Rattle.hw_types.specs.declared.unit.WireUnit.{WireUnit}
use Rattle.hw_types.specs.declared.unit.Vertex.{Vertex}
use Rattle.hw_types.specs.declared.config.Leaders.TheVariants.{Table}
use Rattle.hw_types.specs.declared.answers.Receipt.TheVariants.{Admitted, Parked, Dropped, Repeat}
use Rattle.hw_types.specs.Settled.{parked_of, dropped_of}
use Rattle.hw_types.specs.Journal.{Setting, received_of, journal_of, answers_from}
use Rattle.hw_safety.specs.Decided.{decisions_of}
use Rattle.hw_samples.specs.Words.{names_of, settled_names, panorama_in, faulty_in, fork_in, sent, both}
use Rattle.hw_samples.specs.JournalWords.{backs, mixed, named_by, dg}
use Rattle.hw_types.specs.declared.answers.Cause.TheVariants as cause
use Rattle.hw_types.specs.declared.answers.Rule.TheVariants as rule
use Rattle.hw_types.specs.declared.answers.PairFault.TheVariants as fault

-- ---- journal 1

abbrev s1 : Setting
s1 = named_by mixed (record { weights = (1 ∷ 1 ∷ 1 ∷ 1 ∷ []); ftt = 0; levels = 2; min_exponent = 2; max_exponent = 4; leaders = Table (2 ∷ 2 ∷ 1 ∷ []); max_records = 131072; max_parked = 4096; end = Some 0 })

abbrev u1_0 : WireUnit
u1_0 = record { instance = dg (0 ∷ 0 ∷ 0 ∷ 0 ∷ []); creator = 1; seq = 0; time = 8; exponent = 2; panorama = (Absent ∷ Absent ∷ Absent ∷ Absent ∷ []); value = Some (121 ∷ []); endorsed = [] }

abbrev u1_1 : WireUnit
u1_1 = record { instance = dg (0 ∷ 0 ∷ 0 ∷ 0 ∷ []); creator = 0; seq = 0; time = 9; exponent = 1; panorama = (Absent ∷ Correct (dg (49 ∷ 1 ∷ 0 ∷ 8 ∷ [])) ∷ Absent ∷ Absent ∷ []); value = None; endorsed = [] }

abbrev u1_2 : WireUnit
u1_2 = record { instance = dg (0 ∷ 0 ∷ 0 ∷ 0 ∷ []); creator = 2; seq = 0; time = 9; exponent = 2; panorama = (Absent ∷ Correct (dg (49 ∷ 1 ∷ 0 ∷ 8 ∷ [])) ∷ Absent ∷ Absent ∷ []); value = None; endorsed = [] }

abbrev u1_3 : WireUnit
u1_3 = record { instance = dg (0 ∷ 0 ∷ 0 ∷ 0 ∷ []); creator = 3; seq = 0; time = 9; exponent = 4; panorama = (Absent ∷ Correct (dg (49 ∷ 1 ∷ 0 ∷ 8 ∷ [])) ∷ Correct (dg (26 ∷ 2 ∷ 0 ∷ 9 ∷ [])) ∷ Absent ∷ []); value = None; endorsed = [] }

abbrev u1_4 : WireUnit
u1_4 = record { instance = dg (0 ∷ 0 ∷ 0 ∷ 0 ∷ []); creator = 0; seq = 0; time = 10; exponent = 2; panorama = (Absent ∷ Correct (dg (49 ∷ 1 ∷ 0 ∷ 8 ∷ [])) ∷ Correct (dg (26 ∷ 2 ∷ 0 ∷ 9 ∷ [])) ∷ Correct (dg (39 ∷ 3 ∷ 0 ∷ 9 ∷ [])) ∷ []); value = None; endorsed = [] }

abbrev u1_5 : WireUnit
u1_5 = record { instance = dg (0 ∷ 0 ∷ 0 ∷ 0 ∷ []); creator = 1; seq = 1; time = 10; exponent = 2; panorama = (Absent ∷ Correct (dg (49 ∷ 1 ∷ 0 ∷ 8 ∷ [])) ∷ Absent ∷ Absent ∷ []); value = None; endorsed = [] }

abbrev u1_6 : WireUnit
u1_6 = record { instance = dg (0 ∷ 0 ∷ 0 ∷ 0 ∷ []); creator = 2; seq = 1; time = 10; exponent = 2; panorama = (Absent ∷ Correct (dg (35 ∷ 1 ∷ 1 ∷ 10 ∷ [])) ∷ Correct (dg (26 ∷ 2 ∷ 0 ∷ 9 ∷ [])) ∷ Correct (dg (39 ∷ 3 ∷ 0 ∷ 9 ∷ [])) ∷ []); value = None; endorsed = [] }

abbrev u1_7 : WireUnit
u1_7 = record { instance = dg (0 ∷ 0 ∷ 0 ∷ 0 ∷ []); creator = 3; seq = 1; time = 10; exponent = 2; panorama = (Correct (dg (23 ∷ 0 ∷ 0 ∷ 10 ∷ [])) ∷ Correct (dg (35 ∷ 1 ∷ 1 ∷ 10 ∷ [])) ∷ Correct (dg (42 ∷ 2 ∷ 1 ∷ 10 ∷ [])) ∷ Correct (dg (39 ∷ 3 ∷ 0 ∷ 9 ∷ [])) ∷ []); value = None; endorsed = [] }

abbrev u1_8 : WireUnit
u1_8 = record { instance = dg (0 ∷ 0 ∷ 0 ∷ 0 ∷ []); creator = 2; seq = 2; time = 12; exponent = 2; panorama = (Absent ∷ Correct (dg (35 ∷ 1 ∷ 1 ∷ 10 ∷ [])) ∷ Correct (dg (42 ∷ 2 ∷ 1 ∷ 10 ∷ [])) ∷ Correct (dg (39 ∷ 3 ∷ 0 ∷ 9 ∷ [])) ∷ []); value = Some []; endorsed = [] }

abbrev u1_9 : WireUnit
u1_9 = record { instance = dg (0 ∷ 0 ∷ 0 ∷ 0 ∷ []); creator = 0; seq = 1; time = 13; exponent = 2; panorama = (Correct (dg (23 ∷ 0 ∷ 0 ∷ 10 ∷ [])) ∷ Correct (dg (35 ∷ 1 ∷ 1 ∷ 10 ∷ [])) ∷ Correct (dg (42 ∷ 2 ∷ 1 ∷ 10 ∷ [])) ∷ Correct (dg (39 ∷ 3 ∷ 0 ∷ 9 ∷ [])) ∷ []); value = None; endorsed = [] }

abbrev sent1 : List (Vertex × Bool)
sent1 = ((sent u1_0, true) ∷ (sent u1_1, true) ∷ (sent u1_2, true) ∷ (sent u1_3, true) ∷ (sent u1_4, true) ∷ (sent u1_5, true) ∷ (sent u1_6, true) ∷ (sent u1_7, true) ∷ (sent u1_8, true) ∷ (sent u1_9, true) ∷ [])

abbrev journal1 : List Vertex
journal1 = (sent u1_0 ∷ sent u1_2 ∷ sent u1_3 ∷ sent u1_4 ∷ sent u1_5 ∷ sent u1_6 ∷ sent u1_7 ∷ sent u1_8 ∷ sent u1_9 ∷ [])

pub record Decided1 : Type 0 where
  pub answers : answers_from s1 [] sent1 ≡ (Ok (Admitted 1) ∷ Err (cause.Local rule.RoundExponent) ∷ Ok (Admitted 1) ∷ Ok (Admitted 1) ∷ Ok (Admitted 1) ∷ Ok (Admitted 1) ∷ Ok (Admitted 1) ∷ Ok (Dropped rule.RoundChange) ∷ Ok (Dropped rule.AfterTerminal) ∷ Ok (Admitted 1) ∷ [])
  pub kept : journal_of s1 sent1 ≡ journal1
  pub settled : settled_names s1 journal1 ≡ ((dg (23 ∷ 0 ∷ 0 ∷ 10 ∷ [])) ∷ (dg (26 ∷ 2 ∷ 0 ∷ 9 ∷ [])) ∷ (dg (35 ∷ 1 ∷ 1 ∷ 10 ∷ [])) ∷ (dg (39 ∷ 3 ∷ 0 ∷ 9 ∷ [])) ∷ (dg (42 ∷ 2 ∷ 1 ∷ 10 ∷ [])) ∷ (dg (49 ∷ 1 ∷ 0 ∷ 8 ∷ [])) ∷ (dg (61 ∷ 0 ∷ 1 ∷ 13 ∷ [])) ∷ [])
  pub parked : names_of (parked_of s1.config (received_of s1 journal1)) ≡ []
  pub dropped : names_of (dropped_of s1.config (received_of s1 journal1)) ≡ ((dg (49 ∷ 3 ∷ 1 ∷ 10 ∷ [])) ∷ (dg (86 ∷ 2 ∷ 2 ∷ 12 ∷ [])) ∷ [])
  pub faulty : faulty_in s1 journal1 ≡ []
  pub panorama : panorama_in s1 journal1 ≡ (Correct (dg (61 ∷ 0 ∷ 1 ∷ 13 ∷ [])) ∷ Correct (dg (35 ∷ 1 ∷ 1 ∷ 10 ∷ [])) ∷ Correct (dg (42 ∷ 2 ∷ 1 ∷ 10 ∷ [])) ∷ Correct (dg (39 ∷ 3 ∷ 0 ∷ 9 ∷ [])) ∷ [])
  pub fork : fork_in s1 journal1 ≡ Some (dg (49 ∷ 1 ∷ 0 ∷ 8 ∷ []))
  pub decisions : decisions_of s1 journal1 ≡ []

-- ---- journal 2

abbrev s2 : Setting
s2 = named_by mixed (record { weights = (3 ∷ 3 ∷ []); ftt = 0; levels = 2; min_exponent = 2; max_exponent = 4; leaders = Table (1 ∷ 0 ∷ 0 ∷ []); max_records = 131072; max_parked = 4096; end = Some 0 })

abbrev u2_0 : WireUnit
u2_0 = record { instance = dg (0 ∷ 0 ∷ 0 ∷ 0 ∷ []); creator = 0; seq = 0; time = 8; exponent = 2; panorama = (Absent ∷ Absent ∷ []); value = Some (122 ∷ []); endorsed = [] }

abbrev u2_1 : WireUnit
u2_1 = record { instance = dg (0 ∷ 0 ∷ 0 ∷ 0 ∷ []); creator = 1; seq = 0; time = 9; exponent = 2; panorama = (Correct (dg (41 ∷ 0 ∷ 0 ∷ 8 ∷ [])) ∷ Absent ∷ []); value = None; endorsed = [] }

abbrev u2_2 : WireUnit
u2_2 = record { instance = dg (0 ∷ 0 ∷ 0 ∷ 0 ∷ []); creator = 0; seq = 2; time = 9; exponent = 2; panorama = (Correct (dg (26 ∷ 0 ∷ 1 ∷ 10 ∷ [])) ∷ Correct (dg (17 ∷ 1 ∷ 0 ∷ 9 ∷ [])) ∷ []); value = None; endorsed = [] }

abbrev u2_3 : WireUnit
u2_3 = record { instance = dg (0 ∷ 0 ∷ 0 ∷ 0 ∷ []); creator = 0; seq = 2; time = 22; exponent = 2; panorama = (Correct (dg (26 ∷ 0 ∷ 1 ∷ 10 ∷ [])) ∷ Correct (dg (57 ∷ 1 ∷ 1 ∷ 21 ∷ [])) ∷ []); value = None; endorsed = [] }

abbrev u2_4 : WireUnit
u2_4 = record { instance = dg (0 ∷ 0 ∷ 0 ∷ 0 ∷ []); creator = 0; seq = 1; time = 10; exponent = 2; panorama = (Correct (dg (41 ∷ 0 ∷ 0 ∷ 8 ∷ [])) ∷ Absent ∷ []); value = None; endorsed = [] }

abbrev u2_5 : WireUnit
u2_5 = record { instance = dg (0 ∷ 0 ∷ 0 ∷ 0 ∷ []); creator = 1; seq = 1; time = 10; exponent = 3; panorama = (Correct (dg (26 ∷ 0 ∷ 1 ∷ 10 ∷ [])) ∷ Correct (dg (17 ∷ 1 ∷ 0 ∷ 9 ∷ [])) ∷ []); value = None; endorsed = [] }

abbrev u2_6 : WireUnit
u2_6 = record { instance = dg (0 ∷ 0 ∷ 0 ∷ 0 ∷ []); creator = 1; seq = 1; time = 12; exponent = 2; panorama = (Correct (dg (26 ∷ 0 ∷ 1 ∷ 10 ∷ [])) ∷ Correct (dg (17 ∷ 1 ∷ 0 ∷ 9 ∷ [])) ∷ []); value = Some (120 ∷ []); endorsed = [] }

abbrev u2_7 : WireUnit
u2_7 = record { instance = dg (0 ∷ 0 ∷ 0 ∷ 0 ∷ []); creator = 2; seq = 2; time = 13; exponent = 2; panorama = (Correct (dg (26 ∷ 0 ∷ 1 ∷ 10 ∷ [])) ∷ Correct (dg (17 ∷ 1 ∷ 0 ∷ 9 ∷ [])) ∷ []); value = None; endorsed = [] }

abbrev u2_8 : WireUnit
u2_8 = record { instance = dg (0 ∷ 0 ∷ 0 ∷ 0 ∷ []); creator = 1; seq = 2; time = 22; exponent = 2; panorama = (Correct (dg (66 ∷ 0 ∷ 2 ∷ 22 ∷ [])) ∷ Correct (dg (57 ∷ 1 ∷ 1 ∷ 21 ∷ [])) ∷ []); value = None; endorsed = [] }

abbrev u2_9 : WireUnit
u2_9 = record { instance = dg (0 ∷ 0 ∷ 0 ∷ 0 ∷ []); creator = 1; seq = 1; time = 21; exponent = 2; panorama = (Correct (dg (26 ∷ 0 ∷ 1 ∷ 10 ∷ [])) ∷ Correct (dg (17 ∷ 1 ∷ 0 ∷ 9 ∷ [])) ∷ []); value = None; endorsed = [] }

abbrev sent2 : List (Vertex × Bool)
sent2 = ((sent u2_0, true) ∷ (sent u2_1, true) ∷ (both u2_2 u2_3, true) ∷ (sent u2_4, true) ∷ (sent u2_5, true) ∷ (sent u2_6, true) ∷ (sent u2_7, true) ∷ (sent u2_8, true) ∷ (sent u2_2, true) ∷ (backs (dg (57 ∷ 1 ∷ 1 ∷ 21 ∷ [])) 2, true) ∷ (sent u2_9, true) ∷ (sent u2_3, true) ∷ [])

abbrev journal2 : List Vertex
journal2 = (sent u2_0 ∷ sent u2_1 ∷ both u2_2 u2_3 ∷ sent u2_4 ∷ sent u2_5 ∷ sent u2_6 ∷ sent u2_8 ∷ sent u2_2 ∷ sent u2_9 ∷ sent u2_3 ∷ [])

pub record Decided2 : Type 0 where
  pub answers : answers_from s2 [] sent2 ≡ (Ok (Admitted 1) ∷ Ok (Admitted 1) ∷ Ok (Admitted 0) ∷ Ok (Admitted 1) ∷ Ok (Dropped rule.RoundChange) ∷ Ok (Dropped rule.AfterTerminal) ∷ Err (cause.Local rule.UnknownCreator) ∷ Ok (Parked 2) ∷ Ok (Dropped rule.TimeGoesBack) ∷ Err (cause.Local rule.UnknownCreator) ∷ Ok (Admitted 1) ∷ Ok (Admitted 2) ∷ [])
  pub kept : journal_of s2 sent2 ≡ journal2
  pub settled : settled_names s2 journal2 ≡ ((dg (17 ∷ 1 ∷ 0 ∷ 9 ∷ [])) ∷ (dg (26 ∷ 0 ∷ 1 ∷ 10 ∷ [])) ∷ (dg (41 ∷ 0 ∷ 0 ∷ 8 ∷ [])) ∷ (dg (57 ∷ 1 ∷ 1 ∷ 21 ∷ [])) ∷ (dg (66 ∷ 0 ∷ 2 ∷ 22 ∷ [])) ∷ (dg (73 ∷ 1 ∷ 2 ∷ 22 ∷ [])) ∷ [])
  pub parked : names_of (parked_of s2.config (received_of s2 journal2)) ≡ []
  pub dropped : names_of (dropped_of s2.config (received_of s2 journal2)) ≡ ((dg (20 ∷ 0 ∷ 2 ∷ 9 ∷ [])) ∷ (dg (36 ∷ 1 ∷ 1 ∷ 10 ∷ [])) ∷ (dg (95 ∷ 1 ∷ 1 ∷ 12 ∷ [])) ∷ [])
  pub faulty : faulty_in s2 journal2 ≡ (0 ∷ [])
  pub panorama : panorama_in s2 journal2 ≡ (Faulty ∷ Correct (dg (73 ∷ 1 ∷ 2 ∷ 22 ∷ [])) ∷ [])
  pub fork : fork_in s2 journal2 ≡ Some (dg (41 ∷ 0 ∷ 0 ∷ 8 ∷ []))
  pub decisions : decisions_of s2 journal2 ≡ []

-- ---- journal 3

abbrev s3 : Setting
s3 = named_by mixed (record { weights = (1 ∷ 1 ∷ 1 ∷ []); ftt = 0; levels = 2; min_exponent = 2; max_exponent = 4; leaders = Table (1 ∷ 2 ∷ []); max_records = 131072; max_parked = 2; end = Some 0 })

abbrev u3_0 : WireUnit
u3_0 = record { instance = dg (0 ∷ 0 ∷ 0 ∷ 0 ∷ []); creator = 1; seq = 0; time = 8; exponent = 2; panorama = (Absent ∷ Absent ∷ Absent ∷ []); value = Some []; endorsed = [] }

abbrev u3_1 : WireUnit
u3_1 = record { instance = dg (0 ∷ 0 ∷ 0 ∷ 0 ∷ []); creator = 0; seq = 1; time = 13; exponent = 2; panorama = (Correct (dg (22 ∷ 0 ∷ 0 ∷ 10 ∷ [])) ∷ Correct (dg (24 ∷ 1 ∷ 0 ∷ 8 ∷ [])) ∷ Correct (dg (41 ∷ 2 ∷ 1 ∷ 10 ∷ [])) ∷ []); value = None; endorsed = [] }

abbrev u3_2 : WireUnit
u3_2 = record { instance = dg (0 ∷ 0 ∷ 0 ∷ 0 ∷ []); creator = 2; seq = 0; time = 9; exponent = 2; panorama = (Absent ∷ Correct (dg (24 ∷ 1 ∷ 0 ∷ 8 ∷ [])) ∷ Absent ∷ []); value = None; endorsed = [] }

abbrev u3_3 : WireUnit
u3_3 = record { instance = dg (0 ∷ 0 ∷ 0 ∷ 0 ∷ []); creator = 0; seq = 0; time = 10; exponent = 2; panorama = (Absent ∷ Correct (dg (24 ∷ 1 ∷ 0 ∷ 8 ∷ [])) ∷ Correct (dg (25 ∷ 2 ∷ 0 ∷ 9 ∷ [])) ∷ []); value = None; endorsed = [] }

abbrev u3_4 : WireUnit
u3_4 = record { instance = dg (0 ∷ 0 ∷ 0 ∷ 0 ∷ []); creator = 2; seq = 1; time = 10; exponent = 2; panorama = (Correct (dg (22 ∷ 0 ∷ 0 ∷ 10 ∷ [])) ∷ Correct (dg (24 ∷ 1 ∷ 0 ∷ 8 ∷ [])) ∷ Correct (dg (25 ∷ 2 ∷ 0 ∷ 9 ∷ [])) ∷ []); value = None; endorsed = [] }

abbrev u3_5 : WireUnit
u3_5 = record { instance = dg (0 ∷ 0 ∷ 0 ∷ 0 ∷ []); creator = 2; seq = 2; time = 12; exponent = 2; panorama = (Correct (dg (22 ∷ 0 ∷ 0 ∷ 10 ∷ [])) ∷ Correct (dg (24 ∷ 1 ∷ 0 ∷ 8 ∷ [])) ∷ Correct (dg (41 ∷ 2 ∷ 1 ∷ 10 ∷ [])) ∷ []); value = Some []; endorsed = [] }

abbrev u3_6 : WireUnit
u3_6 = record { instance = dg (0 ∷ 0 ∷ 0 ∷ 0 ∷ []); creator = 1; seq = 1; time = 13; exponent = 2; panorama = (Correct (dg (22 ∷ 0 ∷ 0 ∷ 10 ∷ [])) ∷ Correct (dg (24 ∷ 1 ∷ 0 ∷ 8 ∷ [])) ∷ Correct (dg (41 ∷ 2 ∷ 1 ∷ 10 ∷ [])) ∷ []); value = None; endorsed = [] }

abbrev sent3 : List (Vertex × Bool)
sent3 = ((sent u3_0, true) ∷ (sent u3_1, true) ∷ (sent u3_2, true) ∷ (sent u3_3, true) ∷ (backs (dg (85 ∷ 2 ∷ 2 ∷ 12 ∷ [])) 2, true) ∷ (sent u3_4, true) ∷ (backs (dg (85 ∷ 2 ∷ 2 ∷ 12 ∷ [])) 3, true) ∷ (sent u3_5, true) ∷ (backs (dg (85 ∷ 2 ∷ 2 ∷ 12 ∷ [])) 0, true) ∷ (sent u3_1, true) ∷ (sent u3_6, false) ∷ [])

abbrev journal3 : List Vertex
journal3 = (sent u3_0 ∷ sent u3_1 ∷ sent u3_2 ∷ sent u3_3 ∷ backs (dg (85 ∷ 2 ∷ 2 ∷ 12 ∷ [])) 2 ∷ sent u3_4 ∷ sent u3_5 ∷ backs (dg (85 ∷ 2 ∷ 2 ∷ 12 ∷ [])) 0 ∷ [])

pub record Decided3 : Type 0 where
  pub answers : answers_from s3 [] sent3 ≡ (Ok (Admitted 1) ∷ Ok (Parked 2) ∷ Ok (Admitted 1) ∷ Ok (Admitted 1) ∷ Ok (Admitted 0) ∷ Ok (Admitted 2) ∷ Err (cause.Local rule.UnknownCreator) ∷ Ok (Dropped rule.AfterTerminal) ∷ Ok (Admitted 0) ∷ Ok Repeat ∷ Err cause.BadSignature ∷ [])
  pub kept : journal_of s3 sent3 ≡ journal3
  pub settled : settled_names s3 journal3 ≡ ((dg (22 ∷ 0 ∷ 0 ∷ 10 ∷ [])) ∷ (dg (24 ∷ 1 ∷ 0 ∷ 8 ∷ [])) ∷ (dg (25 ∷ 2 ∷ 0 ∷ 9 ∷ [])) ∷ (dg (41 ∷ 2 ∷ 1 ∷ 10 ∷ [])) ∷ (dg (60 ∷ 0 ∷ 1 ∷ 13 ∷ [])) ∷ [])
  pub parked : names_of (parked_of s3.config (received_of s3 journal3)) ≡ []
  pub dropped : names_of (dropped_of s3.config (received_of s3 journal3)) ≡ ((dg (85 ∷ 2 ∷ 2 ∷ 12 ∷ [])) ∷ [])
  pub faulty : faulty_in s3 journal3 ≡ []
  pub panorama : panorama_in s3 journal3 ≡ (Correct (dg (60 ∷ 0 ∷ 1 ∷ 13 ∷ [])) ∷ Correct (dg (24 ∷ 1 ∷ 0 ∷ 8 ∷ [])) ∷ Correct (dg (41 ∷ 2 ∷ 1 ∷ 10 ∷ [])) ∷ [])
  pub fork : fork_in s3 journal3 ≡ Some (dg (24 ∷ 1 ∷ 0 ∷ 8 ∷ []))
  pub decisions : decisions_of s3 journal3 ≡ (record { block = (dg (24 ∷ 1 ∷ 0 ∷ 8 ∷ [])); height = 0; level = 1; quorum = 2; at = 6 } ∷ [])

-- ---- journal 4

abbrev s4 : Setting
s4 = named_by mixed (record { weights = (1 ∷ 1 ∷ 1 ∷ []); ftt = 0; levels = 1; min_exponent = 2; max_exponent = 4; leaders = Table (2 ∷ 0 ∷ 0 ∷ []); max_records = 131072; max_parked = 2; end = Some 1 })

abbrev u4_0 : WireUnit
u4_0 = record { instance = dg (0 ∷ 0 ∷ 0 ∷ 0 ∷ []); creator = 0; seq = 0; time = 8; exponent = 2; panorama = (Absent ∷ Absent ∷ Absent ∷ []); value = Some (122 ∷ []); endorsed = [] }

abbrev u4_1 : WireUnit
u4_1 = record { instance = dg (0 ∷ 0 ∷ 0 ∷ 0 ∷ []); creator = 1; seq = 0; time = 9; exponent = 2; panorama = (Correct (dg (42 ∷ 0 ∷ 0 ∷ 8 ∷ [])) ∷ Absent ∷ Absent ∷ []); value = None; endorsed = [] }

abbrev u4_2 : WireUnit
u4_2 = record { instance = dg (0 ∷ 0 ∷ 0 ∷ 0 ∷ []); creator = 2; seq = 0; time = 9; exponent = 2; panorama = (Correct (dg (42 ∷ 0 ∷ 0 ∷ 8 ∷ [])) ∷ Correct (dg (18 ∷ 1 ∷ 0 ∷ 9 ∷ [])) ∷ Absent ∷ []); value = None; endorsed = [] }

abbrev u4_3 : WireUnit
u4_3 = record { instance = dg (0 ∷ 0 ∷ 0 ∷ 0 ∷ []); creator = 0; seq = 1; time = 10; exponent = 2; panorama = (Correct (dg (42 ∷ 0 ∷ 0 ∷ 8 ∷ [])) ∷ Correct (dg (18 ∷ 1 ∷ 0 ∷ 9 ∷ [])) ∷ Correct (dg (25 ∷ 2 ∷ 0 ∷ 9 ∷ [])) ∷ []); value = None; endorsed = [] }

abbrev u4_4 : WireUnit
u4_4 = record { instance = dg (0 ∷ 0 ∷ 0 ∷ 0 ∷ []); creator = 1; seq = 1; time = 10; exponent = 2; panorama = (Correct (dg (42 ∷ 0 ∷ 0 ∷ 8 ∷ [])) ∷ Absent ∷ Correct (dg (25 ∷ 2 ∷ 0 ∷ 9 ∷ [])) ∷ []); value = None; endorsed = [] }

abbrev u4_5 : WireUnit
u4_5 = record { instance = dg (0 ∷ 0 ∷ 0 ∷ 0 ∷ []); creator = 2; seq = 1; time = 12; exponent = 2; panorama = (Correct (dg (27 ∷ 0 ∷ 1 ∷ 10 ∷ [])) ∷ Correct (dg (18 ∷ 1 ∷ 0 ∷ 9 ∷ [])) ∷ Correct (dg (25 ∷ 2 ∷ 0 ∷ 9 ∷ [])) ∷ []); value = Some (121 ∷ []); endorsed = [] }

abbrev u4_6 : WireUnit
u4_6 = record { instance = dg (0 ∷ 0 ∷ 0 ∷ 0 ∷ []); creator = 1; seq = 1; time = 14; exponent = 2; panorama = (Correct (dg (27 ∷ 0 ∷ 1 ∷ 10 ∷ [])) ∷ Correct (dg (18 ∷ 1 ∷ 0 ∷ 9 ∷ [])) ∷ Faulty ∷ []); value = None; endorsed = [] }

abbrev u4_7 : WireUnit
u4_7 = record { instance = dg (0 ∷ 0 ∷ 0 ∷ 0 ∷ []); creator = 0; seq = 2; time = 16; exponent = 2; panorama = (Correct (dg (27 ∷ 0 ∷ 1 ∷ 10 ∷ [])) ∷ Correct (dg (18 ∷ 1 ∷ 0 ∷ 9 ∷ [])) ∷ Correct (dg (7 ∷ 2 ∷ 1 ∷ 12 ∷ [])) ∷ []); value = Some (122 ∷ []); endorsed = [] }

abbrev u4_8 : WireUnit
u4_8 = record { instance = dg (0 ∷ 0 ∷ 0 ∷ 0 ∷ []); creator = 1; seq = 1; time = 17; exponent = 2; panorama = (Correct (dg (27 ∷ 0 ∷ 1 ∷ 10 ∷ [])) ∷ Correct (dg (18 ∷ 1 ∷ 0 ∷ 9 ∷ [])) ∷ Correct (dg (7 ∷ 2 ∷ 1 ∷ 12 ∷ [])) ∷ []); value = None; endorsed = [] }

abbrev sent4 : List (Vertex × Bool)
sent4 = ((sent u4_0, true) ∷ (sent u4_1, true) ∷ (sent u4_2, true) ∷ (sent u4_3, true) ∷ (sent u4_4, false) ∷ (both u4_5 u4_2, true) ∷ (sent u4_5, true) ∷ (sent u4_6, true) ∷ (sent u4_3, true) ∷ (sent u4_7, true) ∷ (sent u4_8, true) ∷ [])

abbrev journal4 : List Vertex
journal4 = (sent u4_0 ∷ sent u4_1 ∷ sent u4_2 ∷ sent u4_3 ∷ sent u4_5 ∷ sent u4_6 ∷ sent u4_7 ∷ sent u4_8 ∷ [])

pub record Decided4 : Type 0 where
  pub answers : answers_from s4 [] sent4 ≡ (Ok (Admitted 1) ∷ Ok (Admitted 1) ∷ Ok (Admitted 1) ∷ Ok (Admitted 1) ∷ Err cause.BadSignature ∷ Err (cause.Pair fault.Sequence) ∷ Ok (Admitted 1) ∷ Ok (Parked 1) ∷ Ok Repeat ∷ Ok (Dropped rule.AfterTerminal) ∷ Ok (Admitted 1) ∷ [])
  pub kept : journal_of s4 sent4 ≡ journal4
  pub settled : settled_names s4 journal4 ≡ ((dg (7 ∷ 2 ∷ 1 ∷ 12 ∷ [])) ∷ (dg (14 ∷ 1 ∷ 1 ∷ 17 ∷ [])) ∷ (dg (18 ∷ 1 ∷ 0 ∷ 9 ∷ [])) ∷ (dg (25 ∷ 2 ∷ 0 ∷ 9 ∷ [])) ∷ (dg (27 ∷ 0 ∷ 1 ∷ 10 ∷ [])) ∷ (dg (42 ∷ 0 ∷ 0 ∷ 8 ∷ [])) ∷ [])
  pub parked : names_of (parked_of s4.config (received_of s4 journal4)) ≡ ((dg (78 ∷ 1 ∷ 1 ∷ 14 ∷ [])) ∷ [])
  pub dropped : names_of (dropped_of s4.config (received_of s4 journal4)) ≡ ((dg (43 ∷ 0 ∷ 2 ∷ 16 ∷ [])) ∷ [])
  pub faulty : faulty_in s4 journal4 ≡ []
  pub panorama : panorama_in s4 journal4 ≡ (Correct (dg (27 ∷ 0 ∷ 1 ∷ 10 ∷ [])) ∷ Correct (dg (14 ∷ 1 ∷ 1 ∷ 17 ∷ [])) ∷ Correct (dg (7 ∷ 2 ∷ 1 ∷ 12 ∷ [])) ∷ [])
  pub fork : fork_in s4 journal4 ≡ Some (dg (7 ∷ 2 ∷ 1 ∷ 12 ∷ []))
  pub decisions : decisions_of s4 journal4 ≡ (record { block = (dg (42 ∷ 0 ∷ 0 ∷ 8 ∷ [])); height = 0; level = 1; quorum = 2; at = 5 } ∷ [])
