-- Random journals: validators that know random parts of each other's units make units round by round, some fork, some
-- units have something wrong, and all of them are delivered in a random order, with evidence and endorsements.
-- The values are those of another reading of the rules, written apart from the definitions; the two agree.
use Rattle.std.specs.Prelude.{◌≡◌, ◌∷◌, [], Bool, true, false, List, Some, None, Ok, Err}
use Rattle.hw_types.specs.declared.unit.Obs.TheVariants.{Absent, Correct, Faulty}
use Rattle.hw_types.specs.declared.unit.WireUnit.{WireUnit}
use Rattle.hw_types.specs.declared.unit.Vertex.{Vertex}
use Rattle.hw_types.specs.declared.config.Leaders.TheVariants.{Table}
use Rattle.hw_types.specs.declared.answers.Receipt.TheVariants.{Admitted, Parked, Dropped, Repeat}
use Rattle.hw_types.specs.Settled.{parked_of, dropped_of}
use Rattle.hw_types.specs.Journal.{Setting, received_of, journal_of, answers_from}
use Rattle.hw_safety.specs.Decided.{decisions_of}
use Rattle.hw_samples.specs.Words.{names_of, settled_names, panorama_in, faulty_in, fork_in, sent, both}
use Rattle.hw_samples.specs.JournalWords.{backs, mixed, named_by, dg}
use Rattle.hw_types.specs.declared.answers.Cause.TheVariants as cause
use Rattle.hw_types.specs.declared.answers.Rule.TheVariants as rule
use Rattle.hw_types.specs.declared.answers.PairFault.TheVariants as fault

-- ---- journal 17

abbrev s17 : Setting
s17 = named_by mixed (record { weights = (1 ∷ 3 ∷ []); ftt = 0; levels = 2; min_exponent = 2; max_exponent = 4; leaders = Table (0 ∷ 1 ∷ 0 ∷ []); max_records = 131072; max_parked = 4096; end = Some 0 })

abbrev u17_0 : WireUnit
u17_0 = record { instance = dg (0 ∷ 0 ∷ 0 ∷ 0 ∷ []); creator = 0; seq = 0; time = 8; exponent = 2; panorama = (Absent ∷ Absent ∷ []); value = Some (122 ∷ []); endorsed = [] }

abbrev u17_1 : WireUnit
u17_1 = record { instance = dg (0 ∷ 0 ∷ 0 ∷ 0 ∷ []); creator = 1; seq = 0; time = 9; exponent = 2; panorama = (Correct (dg (41 ∷ 0 ∷ 0 ∷ 8 ∷ [])) ∷ Absent ∷ []); value = None; endorsed = [] }

abbrev u17_2 : WireUnit
u17_2 = record { instance = dg (0 ∷ 0 ∷ 0 ∷ 0 ∷ []); creator = 0; seq = 1; time = 5; exponent = 2; panorama = (Correct (dg (41 ∷ 0 ∷ 0 ∷ 8 ∷ [])) ∷ Correct (dg (17 ∷ 1 ∷ 0 ∷ 9 ∷ [])) ∷ []); value = None; endorsed = [] }

abbrev u17_3 : WireUnit
u17_3 = record { instance = dg (0 ∷ 0 ∷ 0 ∷ 0 ∷ []); creator = 0; seq = 2; time = 18; exponent = 2; panorama = (Correct (dg (6 ∷ 0 ∷ 1 ∷ 17 ∷ [])) ∷ Correct (dg (33 ∷ 1 ∷ 1 ∷ 10 ∷ [])) ∷ []); value = None; endorsed = [] }

abbrev u17_4 : WireUnit
u17_4 = record { instance = dg (0 ∷ 0 ∷ 0 ∷ 0 ∷ []); creator = 0; seq = 1; time = 17; exponent = 2; panorama = (Correct (dg (41 ∷ 0 ∷ 0 ∷ 8 ∷ [])) ∷ Correct (dg (33 ∷ 1 ∷ 1 ∷ 10 ∷ [])) ∷ []); value = None; endorsed = [] }

abbrev u17_5 : WireUnit
u17_5 = record { instance = dg (0 ∷ 0 ∷ 0 ∷ 0 ∷ []); creator = 1; seq = 1; time = 10; exponent = 2; panorama = (Correct (dg (41 ∷ 0 ∷ 0 ∷ 8 ∷ [])) ∷ Correct (dg (17 ∷ 1 ∷ 0 ∷ 9 ∷ [])) ∷ []); value = None; endorsed = [] }

abbrev u17_6 : WireUnit
u17_6 = record { instance = dg (0 ∷ 0 ∷ 0 ∷ 0 ∷ []); creator = 1; seq = 2; time = 16; exponent = 2; panorama = (Correct (dg (41 ∷ 0 ∷ 0 ∷ 8 ∷ [])) ∷ Correct (dg (33 ∷ 1 ∷ 1 ∷ 10 ∷ [])) ∷ []); value = Some (121 ∷ []); endorsed = [] }

abbrev u17_7 : WireUnit
u17_7 = record { instance = dg (0 ∷ 0 ∷ 0 ∷ 0 ∷ []); creator = 1; seq = 2; time = 18; exponent = 2; panorama = (Correct (dg (6 ∷ 0 ∷ 1 ∷ 17 ∷ [])) ∷ Correct (dg (33 ∷ 1 ∷ 1 ∷ 10 ∷ [])) ∷ []); value = None; endorsed = [] }

abbrev sent17 : List (Vertex × Bool)
sent17 = ((sent u17_0, true) ∷ (sent u17_1, true) ∷ (sent u17_2, true) ∷ (both u17_3 u17_4, true) ∷ (sent u17_5, true) ∷ (sent u17_6, true) ∷ (sent u17_4, true) ∷ (sent u17_3, true) ∷ (both u17_5 u17_6, true) ∷ (sent u17_7, true) ∷ [])

abbrev journal17 : List Vertex
journal17 = (sent u17_0 ∷ sent u17_1 ∷ sent u17_2 ∷ sent u17_5 ∷ sent u17_6 ∷ sent u17_4 ∷ sent u17_3 ∷ sent u17_7 ∷ [])

pub record Decided17 : Type 0 where
  pub answers : answers_from s17 [] sent17 ≡ (Ok (Admitted 1) ∷ Ok (Admitted 1) ∷ Ok (Dropped rule.TimeGoesBack) ∷ Err (cause.Pair fault.Sequence) ∷ Ok (Admitted 1) ∷ Ok (Dropped rule.AfterTerminal) ∷ Ok (Admitted 1) ∷ Ok (Admitted 1) ∷ Err (cause.Pair fault.Sequence) ∷ Ok (Admitted 1) ∷ [])
  pub kept : journal_of s17 sent17 ≡ journal17
  pub settled : settled_names s17 journal17 ≡ ((dg (6 ∷ 0 ∷ 1 ∷ 17 ∷ [])) ∷ (dg (17 ∷ 1 ∷ 0 ∷ 9 ∷ [])) ∷ (dg (22 ∷ 0 ∷ 2 ∷ 18 ∷ [])) ∷ (dg (29 ∷ 1 ∷ 2 ∷ 18 ∷ [])) ∷ (dg (33 ∷ 1 ∷ 1 ∷ 10 ∷ [])) ∷ (dg (41 ∷ 0 ∷ 0 ∷ 8 ∷ [])) ∷ [])
  pub parked : names_of (parked_of s17.config (received_of s17 journal17)) ≡ []
  pub dropped : names_of (dropped_of s17.config (received_of s17 journal17)) ≡ ((dg (48 ∷ 1 ∷ 2 ∷ 16 ∷ [])) ∷ (dg (68 ∷ 0 ∷ 1 ∷ 5 ∷ [])) ∷ [])
  pub faulty : faulty_in s17 journal17 ≡ []
  pub panorama : panorama_in s17 journal17 ≡ (Correct (dg (22 ∷ 0 ∷ 2 ∷ 18 ∷ [])) ∷ Correct (dg (29 ∷ 1 ∷ 2 ∷ 18 ∷ [])) ∷ [])
  pub fork : fork_in s17 journal17 ≡ Some (dg (41 ∷ 0 ∷ 0 ∷ 8 ∷ []))
  pub decisions : decisions_of s17 journal17 ≡ (record { block = (dg (41 ∷ 0 ∷ 0 ∷ 8 ∷ [])); height = 0; level = 1; quorum = 3; at = 4 } ∷ [])

-- ---- journal 18

abbrev s18 : Setting
s18 = named_by mixed (record { weights = (1 ∷ 2 ∷ 1 ∷ []); ftt = 0; levels = 2; min_exponent = 2; max_exponent = 4; leaders = Table (2 ∷ 2 ∷ 2 ∷ []); max_records = 131072; max_parked = 2; end = None })

abbrev u18_0 : WireUnit
u18_0 = record { instance = dg (0 ∷ 0 ∷ 0 ∷ 0 ∷ []); creator = 2; seq = 0; time = 8; exponent = 2; panorama = (Absent ∷ Absent ∷ Absent ∷ []); value = Some (122 ∷ []); endorsed = [] }

abbrev u18_1 : WireUnit
u18_1 = record { instance = dg (0 ∷ 0 ∷ 0 ∷ 0 ∷ []); creator = 0; seq = 0; time = 9; exponent = 2; panorama = (Absent ∷ Absent ∷ Correct (dg (56 ∷ 2 ∷ 0 ∷ 8 ∷ [])) ∷ []); value = None; endorsed = [] }

abbrev u18_2 : WireUnit
u18_2 = record { instance = dg (0 ∷ 0 ∷ 0 ∷ 0 ∷ []); creator = 1; seq = 0; time = 9; exponent = 2; panorama = (Correct (dg (11 ∷ 0 ∷ 0 ∷ 9 ∷ [])) ∷ Absent ∷ Correct (dg (56 ∷ 2 ∷ 0 ∷ 8 ∷ [])) ∷ []); value = None; endorsed = [] }

abbrev u18_3 : WireUnit
u18_3 = record { instance = dg (0 ∷ 0 ∷ 0 ∷ 0 ∷ []); creator = 0; seq = 2; time = 13; exponent = 2; panorama = (Correct (dg (27 ∷ 0 ∷ 1 ∷ 10 ∷ [])) ∷ Correct (dg (34 ∷ 1 ∷ 1 ∷ 10 ∷ [])) ∷ Correct (dg (41 ∷ 2 ∷ 1 ∷ 10 ∷ [])) ∷ []); value = None; endorsed = [] }

abbrev u18_4 : WireUnit
u18_4 = record { instance = dg (0 ∷ 0 ∷ 0 ∷ 0 ∷ []); creator = 1; seq = 1; time = 10; exponent = 2; panorama = (Correct (dg (27 ∷ 0 ∷ 1 ∷ 10 ∷ [])) ∷ Correct (dg (18 ∷ 1 ∷ 0 ∷ 9 ∷ [])) ∷ Correct (dg (56 ∷ 2 ∷ 0 ∷ 8 ∷ [])) ∷ []); value = None; endorsed = [] }

abbrev u18_5 : WireUnit
u18_5 = record { instance = dg (0 ∷ 0 ∷ 0 ∷ 0 ∷ []); creator = 2; seq = 1; time = 10; exponent = 2; panorama = (Correct (dg (27 ∷ 0 ∷ 1 ∷ 10 ∷ [])) ∷ Correct (dg (34 ∷ 1 ∷ 1 ∷ 10 ∷ [])) ∷ Correct (dg (56 ∷ 2 ∷ 0 ∷ 8 ∷ [])) ∷ []); value = None; endorsed = [] }

abbrev u18_6 : WireUnit
u18_6 = record { instance = dg (0 ∷ 0 ∷ 0 ∷ 0 ∷ []); creator = 0; seq = 1; time = 10; exponent = 2; panorama = (Correct (dg (11 ∷ 0 ∷ 0 ∷ 9 ∷ [])) ∷ Correct (dg (18 ∷ 1 ∷ 0 ∷ 9 ∷ [])) ∷ Correct (dg (56 ∷ 2 ∷ 0 ∷ 8 ∷ [])) ∷ []); value = None; endorsed = [] }

abbrev u18_7 : WireUnit
u18_7 = record { instance = dg (0 ∷ 0 ∷ 0 ∷ 0 ∷ []); creator = 1; seq = 1; time = 13; exponent = 2; panorama = (Correct (dg (27 ∷ 0 ∷ 1 ∷ 10 ∷ [])) ∷ Correct (dg (18 ∷ 1 ∷ 0 ∷ 9 ∷ [])) ∷ Correct (dg (56 ∷ 2 ∷ 0 ∷ 8 ∷ [])) ∷ []); value = None; endorsed = [] }

abbrev u18_8 : WireUnit
u18_8 = record { instance = dg (0 ∷ 0 ∷ 0 ∷ 0 ∷ []); creator = 0; seq = 3; time = 14; exponent = 2; panorama = (Correct (dg (65 ∷ 0 ∷ 2 ∷ 13 ∷ [])) ∷ Faulty ∷ Correct (dg (41 ∷ 2 ∷ 1 ∷ 10 ∷ [])) ∷ []); value = None; endorsed = [] }

abbrev sent18 : List (Vertex × Bool)
sent18 = ((sent u18_0, true) ∷ (sent u18_1, true) ∷ (sent u18_2, true) ∷ (sent u18_0, true) ∷ (sent u18_3, true) ∷ (sent u18_4, true) ∷ (sent u18_5, true) ∷ (backs (dg (11 ∷ 0 ∷ 0 ∷ 9 ∷ [])) 3, true) ∷ (backs (dg (11 ∷ 0 ∷ 0 ∷ 9 ∷ [])) 0, true) ∷ (sent u18_6, true) ∷ (sent u18_7, true) ∷ (sent u18_8, true) ∷ [])

abbrev journal18 : List Vertex
journal18 = (sent u18_0 ∷ sent u18_1 ∷ sent u18_2 ∷ sent u18_3 ∷ sent u18_4 ∷ backs (dg (11 ∷ 0 ∷ 0 ∷ 9 ∷ [])) 0 ∷ sent u18_6 ∷ sent u18_7 ∷ sent u18_8 ∷ [])

pub record Decided18 : Type 0 where
  pub answers : answers_from s18 [] sent18 ≡ (Ok (Admitted 1) ∷ Ok (Admitted 1) ∷ Ok (Admitted 1) ∷ Ok Repeat ∷ Ok (Parked 3) ∷ Ok (Parked 1) ∷ Err cause.ParkFull ∷ Err (cause.Local rule.UnknownCreator) ∷ Ok (Admitted 0) ∷ Ok (Admitted 2) ∷ Ok (Admitted 1) ∷ Ok (Parked 2) ∷ [])
  pub kept : journal_of s18 sent18 ≡ journal18
  pub settled : settled_names s18 journal18 ≡ ((dg (11 ∷ 0 ∷ 0 ∷ 9 ∷ [])) ∷ (dg (18 ∷ 1 ∷ 0 ∷ 9 ∷ [])) ∷ (dg (27 ∷ 0 ∷ 1 ∷ 10 ∷ [])) ∷ (dg (34 ∷ 1 ∷ 1 ∷ 10 ∷ [])) ∷ (dg (56 ∷ 2 ∷ 0 ∷ 8 ∷ [])) ∷ (dg (67 ∷ 1 ∷ 1 ∷ 13 ∷ [])) ∷ [])
  pub parked : names_of (parked_of s18.config (received_of s18 journal18)) ≡ ((dg (65 ∷ 0 ∷ 2 ∷ 13 ∷ [])) ∷ (dg (81 ∷ 0 ∷ 3 ∷ 14 ∷ [])) ∷ [])
  pub dropped : names_of (dropped_of s18.config (received_of s18 journal18)) ≡ []
  pub faulty : faulty_in s18 journal18 ≡ (1 ∷ [])
  pub panorama : panorama_in s18 journal18 ≡ (Correct (dg (27 ∷ 0 ∷ 1 ∷ 10 ∷ [])) ∷ Faulty ∷ Correct (dg (56 ∷ 2 ∷ 0 ∷ 8 ∷ [])) ∷ [])
  pub fork : fork_in s18 journal18 ≡ Some (dg (56 ∷ 2 ∷ 0 ∷ 8 ∷ []))
  pub decisions : decisions_of s18 journal18 ≡ (record { block = (dg (56 ∷ 2 ∷ 0 ∷ 8 ∷ [])); height = 0; level = 1; quorum = 3; at = 7 } ∷ [])

-- ---- journal 19

abbrev s19 : Setting
s19 = named_by mixed (record { weights = (1 ∷ 2 ∷ 2 ∷ []); ftt = 1; levels = 1; min_exponent = 2; max_exponent = 4; leaders = Table (2 ∷ 1 ∷ 1 ∷ []); max_records = 131072; max_parked = 2; end = None })

abbrev u19_0 : WireUnit
u19_0 = record { instance = dg (0 ∷ 0 ∷ 0 ∷ 0 ∷ []); creator = 1; seq = 0; time = 8; exponent = 2; panorama = (Absent ∷ Absent ∷ Absent ∷ []); value = Some (121 ∷ []); endorsed = [] }

abbrev u19_1 : WireUnit
u19_1 = record { instance = dg (0 ∷ 0 ∷ 0 ∷ 0 ∷ []); creator = 0; seq = 0; time = 9; exponent = 2; panorama = (Absent ∷ Correct (dg (48 ∷ 1 ∷ 0 ∷ 8 ∷ [])) ∷ Absent ∷ []); value = None; endorsed = [] }

abbrev u19_2 : WireUnit
u19_2 = record { instance = dg (0 ∷ 0 ∷ 0 ∷ 0 ∷ []); creator = 2; seq = 0; time = 9; exponent = 2; panorama = (Correct (dg (11 ∷ 0 ∷ 0 ∷ 9 ∷ [])) ∷ Correct (dg (48 ∷ 1 ∷ 0 ∷ 8 ∷ [])) ∷ Absent ∷ []); value = None; endorsed = [] }

abbrev u19_3 : WireUnit
u19_3 = record { instance = dg (0 ∷ 0 ∷ 0 ∷ 0 ∷ []); creator = 0; seq = 1; time = 10; exponent = 2; panorama = (Correct (dg (11 ∷ 0 ∷ 0 ∷ 9 ∷ [])) ∷ Correct (dg (48 ∷ 1 ∷ 0 ∷ 8 ∷ [])) ∷ Correct (dg (25 ∷ 2 ∷ 0 ∷ 9 ∷ [])) ∷ []); value = None; endorsed = [] }

abbrev u19_4 : WireUnit
u19_4 = record { instance = dg (0 ∷ 0 ∷ 0 ∷ 0 ∷ []); creator = 2; seq = 2; time = 12; exponent = 2; panorama = (Correct (dg (27 ∷ 0 ∷ 1 ∷ 10 ∷ [])) ∷ Correct (dg (34 ∷ 1 ∷ 1 ∷ 10 ∷ [])) ∷ Correct (dg (41 ∷ 2 ∷ 1 ∷ 10 ∷ [])) ∷ []); value = Some (122 ∷ []); endorsed = [] }

abbrev u19_5 : WireUnit
u19_5 = record { instance = dg (0 ∷ 0 ∷ 0 ∷ 0 ∷ []); creator = 2; seq = 1; time = 10; exponent = 2; panorama = (Correct (dg (27 ∷ 0 ∷ 1 ∷ 10 ∷ [])) ∷ Correct (dg (34 ∷ 1 ∷ 1 ∷ 10 ∷ [])) ∷ Correct (dg (25 ∷ 2 ∷ 0 ∷ 9 ∷ [])) ∷ []); value = None; endorsed = [] }

abbrev u19_6 : WireUnit
u19_6 = record { instance = dg (0 ∷ 0 ∷ 0 ∷ 0 ∷ []); creator = 1; seq = 1; time = 10; exponent = 2; panorama = (Correct (dg (27 ∷ 0 ∷ 1 ∷ 10 ∷ [])) ∷ Correct (dg (48 ∷ 1 ∷ 0 ∷ 8 ∷ [])) ∷ Correct (dg (25 ∷ 2 ∷ 0 ∷ 9 ∷ [])) ∷ []); value = None; endorsed = [] }

abbrev u19_7 : WireUnit
u19_7 = record { instance = dg (0 ∷ 0 ∷ 0 ∷ 0 ∷ []); creator = 0; seq = 2; time = 13; exponent = 2; panorama = (Correct (dg (27 ∷ 0 ∷ 1 ∷ 10 ∷ [])) ∷ Correct (dg (34 ∷ 1 ∷ 1 ∷ 10 ∷ [])) ∷ Correct (dg (13 ∷ 2 ∷ 2 ∷ 12 ∷ [])) ∷ []); value = None; endorsed = ((dg (34 ∷ 1 ∷ 1 ∷ 10 ∷ [])) ∷ []) }

abbrev u19_8 : WireUnit
u19_8 = record { instance = dg (0 ∷ 0 ∷ 0 ∷ 0 ∷ []); creator = 0; seq = 2; time = 14; exponent = 3; panorama = (Correct (dg (27 ∷ 0 ∷ 1 ∷ 10 ∷ [])) ∷ Correct (dg (34 ∷ 1 ∷ 1 ∷ 10 ∷ [])) ∷ Correct (dg (13 ∷ 2 ∷ 2 ∷ 12 ∷ [])) ∷ []); value = None; endorsed = ((dg (34 ∷ 1 ∷ 1 ∷ 10 ∷ [])) ∷ []) }

abbrev u19_9 : WireUnit
u19_9 = record { instance = dg (0 ∷ 0 ∷ 0 ∷ 0 ∷ []); creator = 1; seq = 2; time = 14; exponent = 4; panorama = (Correct (dg (27 ∷ 0 ∷ 1 ∷ 10 ∷ [])) ∷ Correct (dg (34 ∷ 1 ∷ 1 ∷ 10 ∷ [])) ∷ Correct (dg (13 ∷ 2 ∷ 2 ∷ 12 ∷ [])) ∷ []); value = None; endorsed = [] }

abbrev sent19 : List (Vertex × Bool)
sent19 = ((sent u19_0, true) ∷ (sent u19_1, true) ∷ (sent u19_2, true) ∷ (sent u19_3, true) ∷ (both u19_4 u19_5, true) ∷ (sent u19_6, true) ∷ (sent u19_5, true) ∷ (sent u19_4, false) ∷ (sent u19_7, true) ∷ (sent u19_8, true) ∷ (sent u19_9, true) ∷ [])

abbrev journal19 : List Vertex
journal19 = (sent u19_0 ∷ sent u19_1 ∷ sent u19_2 ∷ sent u19_3 ∷ sent u19_6 ∷ sent u19_5 ∷ sent u19_7 ∷ sent u19_8 ∷ [])

pub record Decided19 : Type 0 where
  pub answers : answers_from s19 [] sent19 ≡ (Ok (Admitted 1) ∷ Ok (Admitted 1) ∷ Ok (Admitted 1) ∷ Ok (Admitted 1) ∷ Err (cause.Pair fault.Sequence) ∷ Ok (Admitted 1) ∷ Ok (Admitted 1) ∷ Err cause.BadSignature ∷ Ok (Parked 2) ∷ Ok (Parked 2) ∷ Err cause.ParkFull ∷ [])
  pub kept : journal_of s19 sent19 ≡ journal19
  pub settled : settled_names s19 journal19 ≡ ((dg (11 ∷ 0 ∷ 0 ∷ 9 ∷ [])) ∷ (dg (25 ∷ 2 ∷ 0 ∷ 9 ∷ [])) ∷ (dg (27 ∷ 0 ∷ 1 ∷ 10 ∷ [])) ∷ (dg (34 ∷ 1 ∷ 1 ∷ 10 ∷ [])) ∷ (dg (41 ∷ 2 ∷ 1 ∷ 10 ∷ [])) ∷ (dg (48 ∷ 1 ∷ 0 ∷ 8 ∷ [])) ∷ [])
  pub parked : names_of (parked_of s19.config (received_of s19 journal19)) ≡ ((dg (78 ∷ 0 ∷ 2 ∷ 13 ∷ [])) ∷ (dg (92 ∷ 0 ∷ 2 ∷ 14 ∷ [])) ∷ [])
  pub dropped : names_of (dropped_of s19.config (received_of s19 journal19)) ≡ []
  pub faulty : faulty_in s19 journal19 ≡ []
  pub panorama : panorama_in s19 journal19 ≡ (Correct (dg (27 ∷ 0 ∷ 1 ∷ 10 ∷ [])) ∷ Correct (dg (34 ∷ 1 ∷ 1 ∷ 10 ∷ [])) ∷ Correct (dg (41 ∷ 2 ∷ 1 ∷ 10 ∷ [])) ∷ [])
  pub fork : fork_in s19 journal19 ≡ Some (dg (48 ∷ 1 ∷ 0 ∷ 8 ∷ []))
  pub decisions : decisions_of s19 journal19 ≡ (record { block = (dg (48 ∷ 1 ∷ 0 ∷ 8 ∷ [])); height = 0; level = 1; quorum = 4; at = 6 } ∷ [])

-- ---- journal 20

abbrev s20 : Setting
s20 = named_by mixed (record { weights = (1 ∷ []); ftt = 0; levels = 2; min_exponent = 2; max_exponent = 4; leaders = Table (0 ∷ 0 ∷ []); max_records = 131072; max_parked = 4096; end = None })

abbrev u20_0 : WireUnit
u20_0 = record { instance = dg (0 ∷ 0 ∷ 0 ∷ 0 ∷ []); creator = 0; seq = 1; time = 10; exponent = 4; panorama = (Correct (dg (15 ∷ 0 ∷ 0 ∷ 8 ∷ [])) ∷ []); value = None; endorsed = [] }

abbrev u20_1 : WireUnit
u20_1 = record { instance = dg (0 ∷ 0 ∷ 0 ∷ 0 ∷ []); creator = 0; seq = 2; time = 14; exponent = 2; panorama = (Correct (dg (87 ∷ 0 ∷ 1 ∷ 12 ∷ [])) ∷ []); value = None; endorsed = [] }

abbrev u20_2 : WireUnit
u20_2 = record { instance = dg (0 ∷ 0 ∷ 0 ∷ 0 ∷ []); creator = 0; seq = 0; time = 8; exponent = 2; panorama = (Absent ∷ []); value = Some []; endorsed = [] }

abbrev u20_3 : WireUnit
u20_3 = record { instance = dg (0 ∷ 0 ∷ 0 ∷ 0 ∷ []); creator = 0; seq = 1; time = 12; exponent = 2; panorama = (Correct (dg (15 ∷ 0 ∷ 0 ∷ 8 ∷ [])) ∷ []); value = Some (120 ∷ []); endorsed = [] }

abbrev sent20 : List (Vertex × Bool)
sent20 = ((sent u20_0, true) ∷ (sent u20_1, true) ∷ (sent u20_2, true) ∷ (sent u20_3, true) ∷ (sent u20_0, true) ∷ (both u20_2 u20_1, true) ∷ (both u20_0 u20_3, true) ∷ (backs (dg (15 ∷ 0 ∷ 0 ∷ 8 ∷ [])) 1, true) ∷ [])

abbrev journal20 : List Vertex
journal20 = (sent u20_0 ∷ sent u20_1 ∷ sent u20_2 ∷ sent u20_3 ∷ both u20_0 u20_3 ∷ [])

pub record Decided20 : Type 0 where
  pub answers : answers_from s20 [] sent20 ≡ (Ok (Parked 1) ∷ Ok (Parked 1) ∷ Ok (Admitted 1) ∷ Ok (Admitted 2) ∷ Ok Repeat ∷ Err (cause.Pair fault.Sequence) ∷ Ok (Admitted 0) ∷ Err (cause.Local rule.UnknownCreator) ∷ [])
  pub kept : journal_of s20 sent20 ≡ journal20
  pub settled : settled_names s20 journal20 ≡ ((dg (15 ∷ 0 ∷ 0 ∷ 8 ∷ [])) ∷ (dg (74 ∷ 0 ∷ 2 ∷ 14 ∷ [])) ∷ (dg (87 ∷ 0 ∷ 1 ∷ 12 ∷ [])) ∷ [])
  pub parked : names_of (parked_of s20.config (received_of s20 journal20)) ≡ []
  pub dropped : names_of (dropped_of s20.config (received_of s20 journal20)) ≡ ((dg (31 ∷ 0 ∷ 1 ∷ 10 ∷ [])) ∷ [])
  pub faulty : faulty_in s20 journal20 ≡ (0 ∷ [])
  pub panorama : panorama_in s20 journal20 ≡ (Faulty ∷ [])
  pub fork : fork_in s20 journal20 ≡ None
  pub decisions : decisions_of s20 journal20 ≡ (record { block = (dg (15 ∷ 0 ∷ 0 ∷ 8 ∷ [])); height = 0; level = 1; quorum = 1; at = 4 } ∷ record { block = (dg (87 ∷ 0 ∷ 1 ∷ 12 ∷ [])); height = 1; level = 1; quorum = 1; at = 4 } ∷ [])
