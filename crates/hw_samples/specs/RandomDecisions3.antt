-- Random journals: validators that know random parts of each other's units make units round by round, some fork, some
-- units have something wrong, and all of them are delivered in a random order, with evidence and endorsements.
-- The values are those of another reading of the rules, written apart from the definitions; the two agree.
use Rattle.std.specs.Prelude.{◌≡◌, ◌∷◌, [], Bool, true, false, List, Some, None, Ok, Err}
use Rattle.hw_types.specs.declared.unit.Obs.TheVariants.{Absent, Correct, Faulty}
use Rattle.hw_types.specs.declared.unit.WireUnit.{WireUnit}
use Rattle.hw_types.specs.declared.unit.Vertex.{Vertex}
use Rattle.hw_types.specs.declared.config.Leaders.TheVariants.{Table}
use Rattle.hw_types.specs.declared.answers.Receipt.TheVariants.{Admitted, Parked, Dropped}
use Rattle.hw_types.specs.Settled.{parked_of, dropped_of}
use Rattle.hw_types.specs.Journal.{Setting, received_of, journal_of, answers_from}
use Rattle.hw_safety.specs.Decided.{decisions_of}
use Rattle.hw_samples.specs.Words.{names_of, settled_names, panorama_in, faulty_in, fork_in, sent, both}
use Rattle.hw_samples.specs.JournalWords.{backs, mixed, named_by, dg}
use Rattle.hw_types.specs.declared.answers.Cause.TheVariants as cause
use Rattle.hw_types.specs.declared.answers.Rule.TheVariants as rule
use Rattle.hw_types.specs.declared.answers.PairFault.TheVariants as fault

-- ---- journal 9

abbrev s9 : Setting
s9 = named_by mixed (record { weights = (1 ∷ 1 ∷ 1 ∷ 1 ∷ []); ftt = 0; levels = 2; min_exponent = 2; max_exponent = 4; leaders = Table (3 ∷ 3 ∷ 3 ∷ []); max_records = 131072; max_parked = 4096; end = Some 0 })

abbrev u9_0 : WireUnit
u9_0 = record { instance = dg (0 ∷ 0 ∷ 0 ∷ 0 ∷ []); creator = 2; seq = 1; time = 10; exponent = 2; panorama = (Correct (dg (28 ∷ 0 ∷ 1 ∷ 10 ∷ [])) ∷ Absent ∷ Correct (dg (26 ∷ 2 ∷ 0 ∷ 9 ∷ [])) ∷ Correct (dg (64 ∷ 3 ∷ 0 ∷ 8 ∷ [])) ∷ []); value = None; endorsed = [] }

abbrev u9_1 : WireUnit
u9_1 = record { instance = dg (0 ∷ 0 ∷ 0 ∷ 0 ∷ []); creator = 0; seq = 0; time = 9; exponent = 2; panorama = (Absent ∷ Absent ∷ Absent ∷ Correct (dg (64 ∷ 3 ∷ 0 ∷ 8 ∷ [])) ∷ []); value = None; endorsed = [] }

abbrev u9_2 : WireUnit
u9_2 = record { instance = dg (0 ∷ 0 ∷ 0 ∷ 0 ∷ []); creator = 2; seq = 0; time = 9; exponent = 2; panorama = (Correct (dg (12 ∷ 0 ∷ 0 ∷ 9 ∷ [])) ∷ Absent ∷ Absent ∷ Correct (dg (64 ∷ 3 ∷ 0 ∷ 8 ∷ [])) ∷ []); value = None; endorsed = [] }

abbrev u9_3 : WireUnit
u9_3 = record { instance = dg (0 ∷ 0 ∷ 0 ∷ 0 ∷ []); creator = 0; seq = 1; time = 10; exponent = 2; panorama = (Correct (dg (12 ∷ 0 ∷ 0 ∷ 9 ∷ [])) ∷ Absent ∷ Correct (dg (26 ∷ 2 ∷ 0 ∷ 9 ∷ [])) ∷ Correct (dg (64 ∷ 3 ∷ 0 ∷ 8 ∷ [])) ∷ []); value = None; endorsed = [] }

abbrev u9_4 : WireUnit
u9_4 = record { instance = dg (0 ∷ 0 ∷ 0 ∷ 0 ∷ []); creator = 3; seq = 0; time = 8; exponent = 2; panorama = (Absent ∷ Absent ∷ Absent ∷ Absent ∷ []); value = Some (122 ∷ []); endorsed = [] }

abbrev u9_5 : WireUnit
u9_5 = record { instance = dg (0 ∷ 0 ∷ 0 ∷ 0 ∷ []); creator = 3; seq = 1; time = 10; exponent = 2; panorama = (Correct (dg (28 ∷ 0 ∷ 1 ∷ 10 ∷ [])) ∷ Absent ∷ Correct (dg (42 ∷ 2 ∷ 1 ∷ 10 ∷ [])) ∷ Correct (dg (64 ∷ 3 ∷ 0 ∷ 8 ∷ [])) ∷ []); value = None; endorsed = [] }

abbrev u9_6 : WireUnit
u9_6 = record { instance = dg (0 ∷ 0 ∷ 0 ∷ 0 ∷ []); creator = 2; seq = 1; time = 17; exponent = 2; panorama = (Correct (dg (28 ∷ 0 ∷ 1 ∷ 10 ∷ [])) ∷ Absent ∷ Correct (dg (26 ∷ 2 ∷ 0 ∷ 9 ∷ [])) ∷ Correct (dg (64 ∷ 3 ∷ 0 ∷ 8 ∷ [])) ∷ []); value = None; endorsed = [] }

abbrev u9_7 : WireUnit
u9_7 = record { instance = dg (0 ∷ 0 ∷ 0 ∷ 0 ∷ []); creator = 0; seq = 2; time = 17; exponent = 2; panorama = (Correct (dg (28 ∷ 0 ∷ 1 ∷ 10 ∷ [])) ∷ Absent ∷ Correct (dg (42 ∷ 2 ∷ 1 ∷ 10 ∷ [])) ∷ Correct (dg (49 ∷ 3 ∷ 1 ∷ 10 ∷ [])) ∷ []); value = None; endorsed = [] }

abbrev u9_8 : WireUnit
u9_8 = record { instance = dg (0 ∷ 0 ∷ 0 ∷ 0 ∷ []); creator = 1; seq = 0; time = 17; exponent = 4; panorama = (Correct (dg (28 ∷ 0 ∷ 1 ∷ 10 ∷ [])) ∷ Absent ∷ Correct (dg (42 ∷ 2 ∷ 1 ∷ 10 ∷ [])) ∷ Correct (dg (49 ∷ 3 ∷ 1 ∷ 10 ∷ [])) ∷ []); value = None; endorsed = [] }

abbrev u9_9 : WireUnit
u9_9 = record { instance = dg (0 ∷ 0 ∷ 0 ∷ 0 ∷ []); creator = 3; seq = 2; time = 16; exponent = 2; panorama = (Correct (dg (28 ∷ 0 ∷ 1 ∷ 10 ∷ [])) ∷ Absent ∷ Correct (dg (42 ∷ 2 ∷ 1 ∷ 10 ∷ [])) ∷ Correct (dg (49 ∷ 3 ∷ 1 ∷ 10 ∷ [])) ∷ []); value = Some (121 ∷ []); endorsed = [] }

abbrev sent9 : List (Vertex × Bool)
sent9 = ((sent u9_0, true) ∷ (sent u9_1, true) ∷ (sent u9_2, true) ∷ (sent u9_3, true) ∷ (sent u9_4, true) ∷ (sent u9_5, true) ∷ (sent u9_6, true) ∷ (sent u9_7, true) ∷ (sent u9_8, true) ∷ (sent u9_9, true) ∷ [])

abbrev journal9 : List Vertex
journal9 = (sent u9_0 ∷ sent u9_1 ∷ sent u9_2 ∷ sent u9_3 ∷ sent u9_4 ∷ sent u9_5 ∷ sent u9_6 ∷ sent u9_7 ∷ sent u9_8 ∷ sent u9_9 ∷ [])

pub record Decided9 : Type 0 where
  pub answers : answers_from s9 [] sent9 ≡ (Ok (Parked 3) ∷ Ok (Parked 1) ∷ Ok (Parked 2) ∷ Ok (Parked 3) ∷ Ok (Admitted 5) ∷ Ok (Admitted 1) ∷ Ok (Admitted 1) ∷ Ok (Admitted 1) ∷ Ok (Admitted 1) ∷ Ok (Dropped rule.AfterTerminal) ∷ [])
  pub kept : journal_of s9 sent9 ≡ journal9
  pub settled : settled_names s9 journal9 ≡ ((dg (12 ∷ 0 ∷ 0 ∷ 9 ∷ [])) ∷ (dg (13 ∷ 0 ∷ 2 ∷ 17 ∷ [])) ∷ (dg (16 ∷ 1 ∷ 0 ∷ 17 ∷ [])) ∷ (dg (22 ∷ 2 ∷ 1 ∷ 17 ∷ [])) ∷ (dg (26 ∷ 2 ∷ 0 ∷ 9 ∷ [])) ∷ (dg (28 ∷ 0 ∷ 1 ∷ 10 ∷ [])) ∷ (dg (42 ∷ 2 ∷ 1 ∷ 10 ∷ [])) ∷ (dg (49 ∷ 3 ∷ 1 ∷ 10 ∷ [])) ∷ (dg (64 ∷ 3 ∷ 0 ∷ 8 ∷ [])) ∷ [])
  pub parked : names_of (parked_of s9.config (received_of s9 journal9)) ≡ []
  pub dropped : names_of (dropped_of s9.config (received_of s9 journal9)) ≡ ((dg (64 ∷ 3 ∷ 2 ∷ 16 ∷ [])) ∷ [])
  pub faulty : faulty_in s9 journal9 ≡ (2 ∷ [])
  pub panorama : panorama_in s9 journal9 ≡ (Correct (dg (13 ∷ 0 ∷ 2 ∷ 17 ∷ [])) ∷ Correct (dg (16 ∷ 1 ∷ 0 ∷ 17 ∷ [])) ∷ Faulty ∷ Correct (dg (49 ∷ 3 ∷ 1 ∷ 10 ∷ [])) ∷ [])
  pub fork : fork_in s9 journal9 ≡ Some (dg (64 ∷ 3 ∷ 0 ∷ 8 ∷ []))
  pub decisions : decisions_of s9 journal9 ≡ (record { block = (dg (64 ∷ 3 ∷ 0 ∷ 8 ∷ [])); height = 0; level = 1; quorum = 3; at = 6 } ∷ [])

-- ---- journal 10

abbrev s10 : Setting
s10 = named_by mixed (record { weights = (1 ∷ []); ftt = 0; levels = 2; min_exponent = 2; max_exponent = 4; leaders = Table (0 ∷ 0 ∷ []); max_records = 131072; max_parked = 4096; end = None })

abbrev u10_0 : WireUnit
u10_0 = record { instance = dg (0 ∷ 0 ∷ 0 ∷ 0 ∷ []); creator = 0; seq = 0; time = 8; exponent = 2; panorama = (Absent ∷ []); value = Some []; endorsed = [] }

abbrev u10_1 : WireUnit
u10_1 = record { instance = dg (0 ∷ 0 ∷ 0 ∷ 0 ∷ []); creator = 0; seq = 2; time = 14; exponent = 2; panorama = (Correct (dg (64 ∷ 0 ∷ 1 ∷ 12 ∷ [])) ∷ []); value = None; endorsed = [] }

abbrev u10_2 : WireUnit
u10_2 = record { instance = dg (0 ∷ 0 ∷ 0 ∷ 0 ∷ []); creator = 0; seq = 1; time = 12; exponent = 2; panorama = (Correct (dg (15 ∷ 0 ∷ 0 ∷ 8 ∷ [])) ∷ []); value = Some []; endorsed = [] }

abbrev u10_3 : WireUnit
u10_3 = record { instance = dg (0 ∷ 0 ∷ 0 ∷ 0 ∷ []); creator = 0; seq = 3; time = 16; exponent = 2; panorama = (Correct (dg (74 ∷ 0 ∷ 2 ∷ 14 ∷ [])) ∷ []); value = Some (121 ∷ []); endorsed = [] }

abbrev u10_4 : WireUnit
u10_4 = record { instance = dg (0 ∷ 0 ∷ 0 ∷ 0 ∷ []); creator = 0; seq = 3; time = 18; exponent = 2; panorama = (Correct (dg (74 ∷ 0 ∷ 2 ∷ 14 ∷ [])) ∷ []); value = None; endorsed = [] }

abbrev sent10 : List (Vertex × Bool)
sent10 = ((sent u10_0, true) ∷ (both u10_1 u10_0, true) ∷ (sent u10_2, true) ∷ (sent u10_1, true) ∷ (both u10_3 u10_4, true) ∷ (sent u10_3, true) ∷ (sent u10_4, true) ∷ [])

abbrev journal10 : List Vertex
journal10 = (sent u10_0 ∷ sent u10_2 ∷ sent u10_1 ∷ both u10_3 u10_4 ∷ sent u10_3 ∷ sent u10_4 ∷ [])

pub record Decided10 : Type 0 where
  pub answers : answers_from s10 [] sent10 ≡ (Ok (Admitted 1) ∷ Err (cause.Pair fault.Sequence) ∷ Ok (Admitted 1) ∷ Ok (Admitted 1) ∷ Ok (Admitted 0) ∷ Ok (Admitted 1) ∷ Ok (Admitted 1) ∷ [])
  pub kept : journal_of s10 sent10 ≡ journal10
  pub settled : settled_names s10 journal10 ≡ ((dg (15 ∷ 0 ∷ 0 ∷ 8 ∷ [])) ∷ (dg (26 ∷ 0 ∷ 3 ∷ 18 ∷ [])) ∷ (dg (45 ∷ 0 ∷ 3 ∷ 16 ∷ [])) ∷ (dg (64 ∷ 0 ∷ 1 ∷ 12 ∷ [])) ∷ (dg (74 ∷ 0 ∷ 2 ∷ 14 ∷ [])) ∷ [])
  pub parked : names_of (parked_of s10.config (received_of s10 journal10)) ≡ []
  pub dropped : names_of (dropped_of s10.config (received_of s10 journal10)) ≡ []
  pub faulty : faulty_in s10 journal10 ≡ (0 ∷ [])
  pub panorama : panorama_in s10 journal10 ≡ (Faulty ∷ [])
  pub fork : fork_in s10 journal10 ≡ None
  pub decisions : decisions_of s10 journal10 ≡ (record { block = (dg (15 ∷ 0 ∷ 0 ∷ 8 ∷ [])); height = 0; level = 1; quorum = 1; at = 2 } ∷ record { block = (dg (64 ∷ 0 ∷ 1 ∷ 12 ∷ [])); height = 1; level = 1; quorum = 1; at = 3 } ∷ [])

-- ---- journal 11

abbrev s11 : Setting
s11 = named_by mixed (record { weights = (1 ∷ 1 ∷ 2 ∷ 1 ∷ []); ftt = 0; levels = 1; min_exponent = 2; max_exponent = 4; leaders = Table (3 ∷ 2 ∷ []); max_records = 131072; max_parked = 4096; end = Some 0 })

abbrev u11_0 : WireUnit
u11_0 = record { instance = dg (0 ∷ 0 ∷ 0 ∷ 0 ∷ []); creator = 3; seq = 0; time = 8; exponent = 2; panorama = (Absent ∷ Absent ∷ Absent ∷ Absent ∷ []); value = Some (121 ∷ []); endorsed = [] }

abbrev u11_1 : WireUnit
u11_1 = record { instance = dg (0 ∷ 0 ∷ 0 ∷ 0 ∷ []); creator = 1; seq = 0; time = 9; exponent = 2; panorama = (Absent ∷ Absent ∷ Absent ∷ Correct (dg (63 ∷ 3 ∷ 0 ∷ 8 ∷ [])) ∷ []); value = None; endorsed = [] }

abbrev u11_2 : WireUnit
u11_2 = record { instance = dg (0 ∷ 0 ∷ 0 ∷ 0 ∷ []); creator = 2; seq = 0; time = 9; exponent = 4; panorama = (Absent ∷ Faulty ∷ Absent ∷ Correct (dg (63 ∷ 3 ∷ 0 ∷ 8 ∷ [])) ∷ []); value = None; endorsed = [] }

abbrev u11_3 : WireUnit
u11_3 = record { instance = dg (0 ∷ 0 ∷ 0 ∷ 0 ∷ []); creator = 0; seq = 0; time = 10; exponent = 2; panorama = (Absent ∷ Correct (dg (19 ∷ 1 ∷ 0 ∷ 9 ∷ [])) ∷ Absent ∷ Correct (dg (63 ∷ 3 ∷ 0 ∷ 8 ∷ [])) ∷ []); value = None; endorsed = [] }

abbrev u11_4 : WireUnit
u11_4 = record { instance = dg (0 ∷ 0 ∷ 0 ∷ 0 ∷ []); creator = 1; seq = 1; time = 10; exponent = 2; panorama = (Correct (dg (23 ∷ 0 ∷ 0 ∷ 10 ∷ [])) ∷ Correct (dg (19 ∷ 1 ∷ 0 ∷ 9 ∷ [])) ∷ Absent ∷ Correct (dg (63 ∷ 3 ∷ 0 ∷ 8 ∷ [])) ∷ []); value = None; endorsed = [] }

abbrev u11_5 : WireUnit
u11_5 = record { instance = dg (0 ∷ 0 ∷ 0 ∷ 0 ∷ []); creator = 2; seq = 0; time = 10; exponent = 2; panorama = (Correct (dg (23 ∷ 0 ∷ 0 ∷ 10 ∷ [])) ∷ Correct (dg (35 ∷ 1 ∷ 1 ∷ 10 ∷ [])) ∷ Absent ∷ Correct (dg (63 ∷ 3 ∷ 0 ∷ 8 ∷ [])) ∷ []); value = None; endorsed = [] }

abbrev u11_6 : WireUnit
u11_6 = record { instance = dg (0 ∷ 0 ∷ 0 ∷ 0 ∷ []); creator = 3; seq = 1; time = 10; exponent = 2; panorama = (Correct (dg (23 ∷ 0 ∷ 0 ∷ 10 ∷ [])) ∷ Correct (dg (35 ∷ 1 ∷ 1 ∷ 10 ∷ [])) ∷ Correct (dg (37 ∷ 2 ∷ 0 ∷ 10 ∷ [])) ∷ Correct (dg (63 ∷ 3 ∷ 0 ∷ 8 ∷ [])) ∷ []); value = None; endorsed = [] }

abbrev u11_7 : WireUnit
u11_7 = record { instance = dg (0 ∷ 0 ∷ 0 ∷ 0 ∷ []); creator = 2; seq = 1; time = 12; exponent = 2; panorama = (Correct (dg (23 ∷ 0 ∷ 0 ∷ 10 ∷ [])) ∷ Correct (dg (35 ∷ 1 ∷ 1 ∷ 10 ∷ [])) ∷ Correct (dg (37 ∷ 2 ∷ 0 ∷ 10 ∷ [])) ∷ Correct (dg (49 ∷ 3 ∷ 1 ∷ 10 ∷ [])) ∷ []); value = Some []; endorsed = [] }

abbrev u11_8 : WireUnit
u11_8 = record { instance = dg (0 ∷ 0 ∷ 0 ∷ 0 ∷ []); creator = 0; seq = 1; time = 13; exponent = 2; panorama = (Correct (dg (23 ∷ 0 ∷ 0 ∷ 10 ∷ [])) ∷ Correct (dg (35 ∷ 1 ∷ 1 ∷ 10 ∷ [])) ∷ Correct (dg (37 ∷ 2 ∷ 0 ∷ 10 ∷ [])) ∷ Correct (dg (49 ∷ 3 ∷ 1 ∷ 10 ∷ [])) ∷ []); value = None; endorsed = [] }

abbrev sent11 : List (Vertex × Bool)
sent11 = ((sent u11_0, true) ∷ (sent u11_1, true) ∷ (sent u11_2, true) ∷ (sent u11_3, true) ∷ (sent u11_4, true) ∷ (backs (dg (23 ∷ 0 ∷ 0 ∷ 10 ∷ [])) 2, true) ∷ (backs (dg (23 ∷ 0 ∷ 0 ∷ 10 ∷ [])) 3, true) ∷ (sent u11_5, true) ∷ (both u11_2 u11_5, true) ∷ (sent u11_6, true) ∷ (sent u11_7, true) ∷ (sent u11_8, true) ∷ [])

abbrev journal11 : List Vertex
journal11 = (sent u11_0 ∷ sent u11_1 ∷ sent u11_2 ∷ sent u11_3 ∷ sent u11_4 ∷ backs (dg (23 ∷ 0 ∷ 0 ∷ 10 ∷ [])) 2 ∷ backs (dg (23 ∷ 0 ∷ 0 ∷ 10 ∷ [])) 3 ∷ sent u11_5 ∷ both u11_2 u11_5 ∷ sent u11_6 ∷ sent u11_7 ∷ sent u11_8 ∷ [])

pub record Decided11 : Type 0 where
  pub answers : answers_from s11 [] sent11 ≡ (Ok (Admitted 1) ∷ Ok (Admitted 1) ∷ Ok (Parked 1) ∷ Ok (Admitted 1) ∷ Ok (Admitted 1) ∷ Ok (Admitted 0) ∷ Ok (Admitted 0) ∷ Ok (Admitted 1) ∷ Ok (Admitted 0) ∷ Ok (Admitted 1) ∷ Ok (Dropped rule.AfterTerminal) ∷ Ok (Admitted 1) ∷ [])
  pub kept : journal_of s11 sent11 ≡ journal11
  pub settled : settled_names s11 journal11 ≡ ((dg (19 ∷ 1 ∷ 0 ∷ 9 ∷ [])) ∷ (dg (23 ∷ 0 ∷ 0 ∷ 10 ∷ [])) ∷ (dg (35 ∷ 1 ∷ 1 ∷ 10 ∷ [])) ∷ (dg (37 ∷ 2 ∷ 0 ∷ 10 ∷ [])) ∷ (dg (49 ∷ 3 ∷ 1 ∷ 10 ∷ [])) ∷ (dg (61 ∷ 0 ∷ 1 ∷ 13 ∷ [])) ∷ (dg (63 ∷ 3 ∷ 0 ∷ 8 ∷ [])) ∷ [])
  pub parked : names_of (parked_of s11.config (received_of s11 journal11)) ≡ ((dg (32 ∷ 2 ∷ 0 ∷ 9 ∷ [])) ∷ [])
  pub dropped : names_of (dropped_of s11.config (received_of s11 journal11)) ≡ ((dg (81 ∷ 2 ∷ 1 ∷ 12 ∷ [])) ∷ [])
  pub faulty : faulty_in s11 journal11 ≡ (2 ∷ [])
  pub panorama : panorama_in s11 journal11 ≡ (Correct (dg (61 ∷ 0 ∷ 1 ∷ 13 ∷ [])) ∷ Correct (dg (35 ∷ 1 ∷ 1 ∷ 10 ∷ [])) ∷ Faulty ∷ Correct (dg (49 ∷ 3 ∷ 1 ∷ 10 ∷ [])) ∷ [])
  pub fork : fork_in s11 journal11 ≡ Some (dg (63 ∷ 3 ∷ 0 ∷ 8 ∷ []))
  pub decisions : decisions_of s11 journal11 ≡ []

-- ---- journal 12

abbrev s12 : Setting
s12 = named_by mixed (record { weights = (3 ∷ 1 ∷ []); ftt = 0; levels = 1; min_exponent = 2; max_exponent = 4; leaders = Table (1 ∷ []); max_records = 131072; max_parked = 1; end = None })

abbrev u12_0 : WireUnit
u12_0 = record { instance = dg (0 ∷ 0 ∷ 0 ∷ 0 ∷ []); creator = 1; seq = 0; time = 8; exponent = 2; panorama = (Absent ∷ Absent ∷ []); value = Some (122 ∷ []); endorsed = [] }

abbrev u12_1 : WireUnit
u12_1 = record { instance = dg (0 ∷ 0 ∷ 0 ∷ 0 ∷ []); creator = 0; seq = 0; time = 9; exponent = 2; panorama = (Absent ∷ Correct (dg (48 ∷ 1 ∷ 0 ∷ 8 ∷ [])) ∷ []); value = None; endorsed = [] }

abbrev u12_2 : WireUnit
u12_2 = record { instance = dg (0 ∷ 0 ∷ 0 ∷ 0 ∷ []); creator = 0; seq = 1; time = 10; exponent = 2; panorama = (Absent ∷ Correct (dg (48 ∷ 1 ∷ 0 ∷ 8 ∷ [])) ∷ []); value = None; endorsed = [] }

abbrev u12_3 : WireUnit
u12_3 = record { instance = dg (0 ∷ 0 ∷ 0 ∷ 0 ∷ []); creator = 1; seq = 0; time = 12; exponent = 2; panorama = (Absent ∷ Absent ∷ []); value = Some (120 ∷ []); endorsed = [] }

abbrev u12_4 : WireUnit
u12_4 = record { instance = dg (0 ∷ 0 ∷ 0 ∷ 0 ∷ []); creator = 0; seq = 1; time = 14; exponent = 2; panorama = (Correct (dg (10 ∷ 0 ∷ 0 ∷ 9 ∷ [])) ∷ Faulty ∷ []); value = None; endorsed = [] }

abbrev u12_5 : WireUnit
u12_5 = record { instance = dg (0 ∷ 0 ∷ 0 ∷ 0 ∷ []); creator = 0; seq = 2; time = 18; exponent = 2; panorama = (Correct (dg (70 ∷ 0 ∷ 1 ∷ 14 ∷ [])) ∷ Faulty ∷ []); value = None; endorsed = [] }

abbrev u12_6 : WireUnit
u12_6 = record { instance = dg (0 ∷ 0 ∷ 0 ∷ 0 ∷ []); creator = 0; seq = 3; time = 17; exponent = 2; panorama = (Correct (dg (70 ∷ 0 ∷ 1 ∷ 14 ∷ [])) ∷ Faulty ∷ []); value = None; endorsed = [] }

abbrev u12_7 : WireUnit
u12_7 = record { instance = dg (0 ∷ 0 ∷ 0 ∷ 0 ∷ []); creator = 0; seq = 1; time = 13; exponent = 3; panorama = (Correct (dg (10 ∷ 0 ∷ 0 ∷ 9 ∷ [])) ∷ Faulty ∷ []); value = None; endorsed = [] }

abbrev sent12 : List (Vertex × Bool)
sent12 = ((sent u12_0, true) ∷ (sent u12_1, true) ∷ (sent u12_2, true) ∷ (sent u12_3, false) ∷ (both u12_2 u12_4, true) ∷ (backs (dg (90 ∷ 1 ∷ 0 ∷ 12 ∷ [])) 0, true) ∷ (both u12_5 u12_6, true) ∷ (sent u12_7, true) ∷ (sent u12_4, true) ∷ (sent u12_6, true) ∷ (sent u12_5, true) ∷ (backs (dg (90 ∷ 1 ∷ 0 ∷ 12 ∷ [])) 1, true) ∷ [])

abbrev journal12 : List Vertex
journal12 = (sent u12_0 ∷ sent u12_1 ∷ both u12_2 u12_4 ∷ backs (dg (90 ∷ 1 ∷ 0 ∷ 12 ∷ [])) 0 ∷ sent u12_7 ∷ backs (dg (90 ∷ 1 ∷ 0 ∷ 12 ∷ [])) 1 ∷ [])

pub record Decided12 : Type 0 where
  pub answers : answers_from s12 [] sent12 ≡ (Ok (Admitted 1) ∷ Ok (Admitted 1) ∷ Err (cause.Local rule.FirstSequence) ∷ Err cause.BadSignature ∷ Ok (Admitted 0) ∷ Ok (Admitted 0) ∷ Err (cause.Pair fault.Sequence) ∷ Ok (Parked 1) ∷ Err cause.ParkFull ∷ Err cause.ParkFull ∷ Err cause.ParkFull ∷ Ok (Admitted 0) ∷ [])
  pub kept : journal_of s12 sent12 ≡ journal12
  pub settled : settled_names s12 journal12 ≡ ((dg (10 ∷ 0 ∷ 0 ∷ 9 ∷ [])) ∷ (dg (48 ∷ 1 ∷ 0 ∷ 8 ∷ [])) ∷ [])
  pub parked : names_of (parked_of s12.config (received_of s12 journal12)) ≡ ((dg (62 ∷ 0 ∷ 1 ∷ 13 ∷ [])) ∷ [])
  pub dropped : names_of (dropped_of s12.config (received_of s12 journal12)) ≡ []
  pub faulty : faulty_in s12 journal12 ≡ (0 ∷ [])
  pub panorama : panorama_in s12 journal12 ≡ (Faulty ∷ Correct (dg (48 ∷ 1 ∷ 0 ∷ 8 ∷ [])) ∷ [])
  pub fork : fork_in s12 journal12 ≡ Some (dg (48 ∷ 1 ∷ 0 ∷ 8 ∷ []))
  pub decisions : decisions_of s12 journal12 ≡ []
