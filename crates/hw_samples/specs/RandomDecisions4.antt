-- Random journals: validators that know random parts of each other's units make units round by round, some fork, some
-- units have something wrong, and all of them are delivered in a random order, with evidence and endorsements.
-- The values are those of another reading of the rules, written apart from the definitions; the two agree.
use Rattle.std.specs.Prelude.{◌≡◌, ◌∷◌, [], Bool, true, List, Some, None, Ok, Err}
use Rattle.hw_types.specs.declared.unit.Obs.TheVariants.{Absent, Correct, Faulty}
use Rattle.hw_types.specs.declared.unit.WireUnit.{WireUnit}
use Rattle.hw_types.specs.declared.unit.Vertex.{Vertex}
use Rattle.hw_types.specs.declared.config.Leaders.TheVariants.{Table}
use Rattle.hw_types.specs.declared.answers.Receipt.TheVariants.{Admitted, Parked, Dropped}
use Rattle.hw_types.specs.Settled.{parked_of, dropped_of}
use Rattle.hw_types.specs.Journal.{Setting, received_of, journal_of, answers_from}
use Rattle.hw_safety.specs.Decided.{decisions_of}
use Rattle.hw_samples.specs.Words.{names_of, settled_names, panorama_in, faulty_in, fork_in, sent, both}
use Rattle.hw_samples.specs.JournalWords.{backs, mixed, named_by, dg}
use Rattle.hw_types.specs.declared.answers.Cause.TheVariants as cause
use Rattle.hw_types.specs.declared.answers.Rule.TheVariants as rule
use Rattle.hw_types.specs.declared.answers.PairFault.TheVariants as fault

-- ---- journal 13

abbrev s13 : Setting
s13 = named_by mixed (record { weights = (1 ∷ 3 ∷ []); ftt = 0; levels = 2; min_exponent = 2; max_exponent = 4; leaders = Table (1 ∷ 0 ∷ []); max_records = 131072; max_parked = 4096; end = None })

abbrev u13_0 : WireUnit
u13_0 = record { instance = dg (0 ∷ 0 ∷ 0 ∷ 0 ∷ []); creator = 0; seq = 1; time = 10; exponent = 2; panorama = (Correct (dg (10 ∷ 0 ∷ 0 ∷ 9 ∷ [])) ∷ Correct (dg (46 ∷ 1 ∷ 0 ∷ 8 ∷ [])) ∷ []); value = None; endorsed = [] }

abbrev u13_1 : WireUnit
u13_1 = record { instance = dg (0 ∷ 0 ∷ 0 ∷ 0 ∷ []); creator = 1; seq = 1; time = 10; exponent = 2; panorama = (Correct (dg (26 ∷ 0 ∷ 1 ∷ 10 ∷ [])) ∷ Correct (dg (46 ∷ 1 ∷ 0 ∷ 8 ∷ [])) ∷ []); value = None; endorsed = [] }

abbrev u13_2 : WireUnit
u13_2 = record { instance = dg (0 ∷ 0 ∷ 0 ∷ 0 ∷ []); creator = 0; seq = 0; time = 9; exponent = 2; panorama = (Absent ∷ Correct (dg (46 ∷ 1 ∷ 0 ∷ 8 ∷ [])) ∷ []); value = None; endorsed = [] }

abbrev u13_3 : WireUnit
u13_3 = record { instance = dg (0 ∷ 0 ∷ 0 ∷ 0 ∷ []); creator = 1; seq = 0; time = 8; exponent = 2; panorama = (Absent ∷ Absent ∷ []); value = Some (120 ∷ []); endorsed = [] }

abbrev u13_4 : WireUnit
u13_4 = record { instance = dg (0 ∷ 0 ∷ 0 ∷ 0 ∷ []); creator = 1; seq = 2; time = 13; exponent = 2; panorama = (Correct (dg (26 ∷ 0 ∷ 1 ∷ 10 ∷ [])) ∷ Correct (dg (33 ∷ 1 ∷ 1 ∷ 10 ∷ [])) ∷ []); value = None; endorsed = [] }

abbrev u13_5 : WireUnit
u13_5 = record { instance = dg (0 ∷ 0 ∷ 0 ∷ 0 ∷ []); creator = 0; seq = 2; time = 12; exponent = 3; panorama = (Correct (dg (26 ∷ 0 ∷ 1 ∷ 10 ∷ [])) ∷ Correct (dg (33 ∷ 1 ∷ 1 ∷ 10 ∷ [])) ∷ []); value = Some (121 ∷ []); endorsed = [] }

abbrev u13_6 : WireUnit
u13_6 = record { instance = dg (0 ∷ 0 ∷ 0 ∷ 0 ∷ []); creator = 0; seq = 2; time = 14; exponent = 2; panorama = (Correct (dg (26 ∷ 0 ∷ 1 ∷ 10 ∷ [])) ∷ Correct (dg (71 ∷ 1 ∷ 2 ∷ 13 ∷ [])) ∷ []); value = None; endorsed = [] }

abbrev sent13 : List (Vertex × Bool)
sent13 = ((both u13_0 u13_0, true) ∷ (sent u13_1, true) ∷ (sent u13_0, true) ∷ (sent u13_2, true) ∷ (sent u13_3, true) ∷ (sent u13_4, true) ∷ (sent u13_5, true) ∷ (sent u13_6, true) ∷ (both u13_0 u13_2, true) ∷ [])

abbrev journal13 : List Vertex
journal13 = (sent u13_1 ∷ sent u13_0 ∷ sent u13_2 ∷ sent u13_3 ∷ sent u13_4 ∷ sent u13_5 ∷ sent u13_6 ∷ [])

pub record Decided13 : Type 0 where
  pub answers : answers_from s13 [] sent13 ≡ (Err (cause.Pair fault.Same) ∷ Ok (Parked 2) ∷ Ok (Parked 2) ∷ Ok (Parked 1) ∷ Ok (Admitted 4) ∷ Ok (Admitted 1) ∷ Ok (Dropped rule.RoundChange) ∷ Ok (Admitted 1) ∷ Err (cause.Pair fault.Sequence) ∷ [])
  pub kept : journal_of s13 sent13 ≡ journal13
  pub settled : settled_names s13 journal13 ≡ ((dg (10 ∷ 0 ∷ 0 ∷ 9 ∷ [])) ∷ (dg (26 ∷ 0 ∷ 1 ∷ 10 ∷ [])) ∷ (dg (33 ∷ 1 ∷ 1 ∷ 10 ∷ [])) ∷ (dg (46 ∷ 1 ∷ 0 ∷ 8 ∷ [])) ∷ (dg (71 ∷ 1 ∷ 2 ∷ 13 ∷ [])) ∷ (dg (75 ∷ 0 ∷ 2 ∷ 14 ∷ [])) ∷ [])
  pub parked : names_of (parked_of s13.config (received_of s13 journal13)) ≡ []
  pub dropped : names_of (dropped_of s13.config (received_of s13 journal13)) ≡ ((dg (0 ∷ 0 ∷ 2 ∷ 12 ∷ [])) ∷ [])
  pub faulty : faulty_in s13 journal13 ≡ []
  pub panorama : panorama_in s13 journal13 ≡ (Correct (dg (75 ∷ 0 ∷ 2 ∷ 14 ∷ [])) ∷ Correct (dg (71 ∷ 1 ∷ 2 ∷ 13 ∷ [])) ∷ [])
  pub fork : fork_in s13 journal13 ≡ Some (dg (46 ∷ 1 ∷ 0 ∷ 8 ∷ []))
  pub decisions : decisions_of s13 journal13 ≡ (record { block = (dg (46 ∷ 1 ∷ 0 ∷ 8 ∷ [])); height = 0; level = 1; quorum = 3; at = 4 } ∷ [])

-- ---- journal 14

abbrev s14 : Setting
s14 = named_by mixed (record { weights = (3 ∷ 1 ∷ []); ftt = 0; levels = 2; min_exponent = 2; max_exponent = 4; leaders = Table (0 ∷ 1 ∷ 1 ∷ []); max_records = 131072; max_parked = 4096; end = Some 0 })

abbrev u14_0 : WireUnit
u14_0 = record { instance = dg (0 ∷ 0 ∷ 0 ∷ 0 ∷ []); creator = 1; seq = 0; time = 8; exponent = 2; panorama = (Absent ∷ Absent ∷ []); value = Some (122 ∷ []); endorsed = [] }

abbrev u14_1 : WireUnit
u14_1 = record { instance = dg (0 ∷ 0 ∷ 0 ∷ 0 ∷ []); creator = 0; seq = 0; time = 9; exponent = 2; panorama = (Absent ∷ Correct (dg (48 ∷ 1 ∷ 0 ∷ 8 ∷ [])) ∷ []); value = None; endorsed = [] }

abbrev u14_2 : WireUnit
u14_2 = record { instance = dg (0 ∷ 0 ∷ 0 ∷ 0 ∷ []); creator = 0; seq = 0; time = 10; exponent = 2; panorama = (Absent ∷ Correct (dg (48 ∷ 1 ∷ 0 ∷ 8 ∷ [])) ∷ []); value = None; endorsed = [] }

abbrev u14_3 : WireUnit
u14_3 = record { instance = dg (0 ∷ 0 ∷ 0 ∷ 0 ∷ []); creator = 1; seq = 1; time = 10; exponent = 2; panorama = (Faulty ∷ Correct (dg (48 ∷ 1 ∷ 0 ∷ 8 ∷ [])) ∷ []); value = None; endorsed = [] }

abbrev u14_4 : WireUnit
u14_4 = record { instance = dg (0 ∷ 0 ∷ 0 ∷ 0 ∷ []); creator = 1; seq = 2; time = 16; exponent = 2; panorama = (Faulty ∷ Correct (dg (33 ∷ 1 ∷ 1 ∷ 10 ∷ [])) ∷ []); value = Some (120 ∷ []); endorsed = [] }

abbrev u14_5 : WireUnit
u14_5 = record { instance = dg (0 ∷ 0 ∷ 0 ∷ 0 ∷ []); creator = 1; seq = 2; time = 18; exponent = 2; panorama = (Faulty ∷ Correct (dg (33 ∷ 1 ∷ 1 ∷ 10 ∷ [])) ∷ []); value = None; endorsed = [] }

abbrev u14_6 : WireUnit
u14_6 = record { instance = dg (0 ∷ 0 ∷ 0 ∷ 0 ∷ []); creator = 1; seq = 3; time = 20; exponent = 2; panorama = (Faulty ∷ Correct (dg (29 ∷ 1 ∷ 2 ∷ 18 ∷ [])) ∷ []); value = Some (120 ∷ []); endorsed = [] }

abbrev u14_7 : WireUnit
u14_7 = record { instance = dg (0 ∷ 0 ∷ 0 ∷ 0 ∷ []); creator = 1; seq = 3; time = 22; exponent = 2; panorama = (Faulty ∷ Correct (dg (29 ∷ 1 ∷ 2 ∷ 18 ∷ [])) ∷ []); value = None; endorsed = [] }

abbrev sent14 : List (Vertex × Bool)
sent14 = ((sent u14_0, true) ∷ (sent u14_1, true) ∷ (backs (dg (33 ∷ 1 ∷ 1 ∷ 10 ∷ [])) 0, true) ∷ (sent u14_2, true) ∷ (sent u14_3, true) ∷ (sent u14_4, true) ∷ (backs (dg (33 ∷ 1 ∷ 1 ∷ 10 ∷ [])) 2, true) ∷ (sent u14_5, true) ∷ (sent u14_6, true) ∷ (sent u14_7, true) ∷ [])

abbrev journal14 : List Vertex
journal14 = (sent u14_0 ∷ sent u14_1 ∷ backs (dg (33 ∷ 1 ∷ 1 ∷ 10 ∷ [])) 0 ∷ sent u14_2 ∷ sent u14_3 ∷ sent u14_4 ∷ sent u14_5 ∷ sent u14_6 ∷ sent u14_7 ∷ [])

pub record Decided14 : Type 0 where
  pub answers : answers_from s14 [] sent14 ≡ (Ok (Admitted 1) ∷ Ok (Admitted 1) ∷ Ok (Admitted 0) ∷ Ok (Admitted 1) ∷ Ok (Admitted 1) ∷ Ok (Dropped rule.AfterTerminal) ∷ Err (cause.Local rule.UnknownCreator) ∷ Ok (Admitted 1) ∷ Ok (Dropped rule.AfterTerminal) ∷ Ok (Admitted 1) ∷ [])
  pub kept : journal_of s14 sent14 ≡ journal14
  pub settled : settled_names s14 journal14 ≡ ((dg (10 ∷ 0 ∷ 0 ∷ 9 ∷ [])) ∷ (dg (21 ∷ 0 ∷ 0 ∷ 10 ∷ [])) ∷ (dg (29 ∷ 1 ∷ 2 ∷ 18 ∷ [])) ∷ (dg (33 ∷ 1 ∷ 1 ∷ 10 ∷ [])) ∷ (dg (48 ∷ 1 ∷ 0 ∷ 8 ∷ [])) ∷ (dg (78 ∷ 1 ∷ 3 ∷ 22 ∷ [])) ∷ [])
  pub parked : names_of (parked_of s14.config (received_of s14 journal14)) ≡ []
  pub dropped : names_of (dropped_of s14.config (received_of s14 journal14)) ≡ ((dg (47 ∷ 1 ∷ 2 ∷ 16 ∷ [])) ∷ (dg (96 ∷ 1 ∷ 3 ∷ 20 ∷ [])) ∷ [])
  pub faulty : faulty_in s14 journal14 ≡ (0 ∷ [])
  pub panorama : panorama_in s14 journal14 ≡ (Faulty ∷ Correct (dg (78 ∷ 1 ∷ 3 ∷ 22 ∷ [])) ∷ [])
  pub fork : fork_in s14 journal14 ≡ Some (dg (48 ∷ 1 ∷ 0 ∷ 8 ∷ []))
  pub decisions : decisions_of s14 journal14 ≡ []

-- ---- journal 15

abbrev s15 : Setting
s15 = named_by mixed (record { weights = (1 ∷ []); ftt = 0; levels = 2; min_exponent = 2; max_exponent = 4; leaders = Table (0 ∷ 0 ∷ []); max_records = 131072; max_parked = 4096; end = None })

abbrev u15_0 : WireUnit
u15_0 = record { instance = dg (0 ∷ 0 ∷ 0 ∷ 0 ∷ []); creator = 0; seq = 0; time = 8; exponent = 2; panorama = (Absent ∷ []); value = Some []; endorsed = [] }

abbrev u15_1 : WireUnit
u15_1 = record { instance = dg (0 ∷ 0 ∷ 0 ∷ 0 ∷ []); creator = 0; seq = 1; time = 10; exponent = 2; panorama = (Correct (dg (15 ∷ 0 ∷ 0 ∷ 8 ∷ [])) ∷ []); value = None; endorsed = [] }

abbrev u15_2 : WireUnit
u15_2 = record { instance = dg (0 ∷ 0 ∷ 0 ∷ 0 ∷ []); creator = 0; seq = 2; time = 12; exponent = 5; panorama = (Correct (dg (25 ∷ 0 ∷ 1 ∷ 10 ∷ [])) ∷ []); value = Some (121 ∷ []); endorsed = [] }

abbrev u15_3 : WireUnit
u15_3 = record { instance = dg (0 ∷ 0 ∷ 0 ∷ 0 ∷ []); creator = 0; seq = 3; time = 18; exponent = 2; panorama = (Correct (dg (39 ∷ 0 ∷ 2 ∷ 16 ∷ [])) ∷ []); value = None; endorsed = [] }

abbrev u15_4 : WireUnit
u15_4 = record { instance = dg (0 ∷ 0 ∷ 0 ∷ 0 ∷ []); creator = 0; seq = 2; time = 16; exponent = 2; panorama = (Correct (dg (25 ∷ 0 ∷ 1 ∷ 10 ∷ [])) ∷ []); value = Some (120 ∷ []); endorsed = [] }

abbrev sent15 : List (Vertex × Bool)
sent15 = ((sent u15_0, true) ∷ (sent u15_1, true) ∷ (sent u15_2, true) ∷ (sent u15_3, true) ∷ (sent u15_4, true) ∷ (both u15_0 u15_2, true) ∷ (both u15_4 u15_3, true) ∷ [])

abbrev journal15 : List Vertex
journal15 = (sent u15_0 ∷ sent u15_1 ∷ sent u15_3 ∷ sent u15_4 ∷ [])

pub record Decided15 : Type 0 where
  pub answers : answers_from s15 [] sent15 ≡ (Ok (Admitted 1) ∷ Ok (Admitted 1) ∷ Err (cause.Local rule.RoundExponent) ∷ Ok (Parked 1) ∷ Ok (Admitted 2) ∷ Err (cause.Pair fault.Sequence) ∷ Err (cause.Pair fault.Sequence) ∷ [])
  pub kept : journal_of s15 sent15 ≡ journal15
  pub settled : settled_names s15 journal15 ≡ ((dg (15 ∷ 0 ∷ 0 ∷ 8 ∷ [])) ∷ (dg (25 ∷ 0 ∷ 1 ∷ 10 ∷ [])) ∷ (dg (26 ∷ 0 ∷ 3 ∷ 18 ∷ [])) ∷ (dg (39 ∷ 0 ∷ 2 ∷ 16 ∷ [])) ∷ [])
  pub parked : names_of (parked_of s15.config (received_of s15 journal15)) ≡ []
  pub dropped : names_of (dropped_of s15.config (received_of s15 journal15)) ≡ []
  pub faulty : faulty_in s15 journal15 ≡ []
  pub panorama : panorama_in s15 journal15 ≡ (Correct (dg (26 ∷ 0 ∷ 3 ∷ 18 ∷ [])) ∷ [])
  pub fork : fork_in s15 journal15 ≡ Some (dg (39 ∷ 0 ∷ 2 ∷ 16 ∷ []))
  pub decisions : decisions_of s15 journal15 ≡ (record { block = (dg (15 ∷ 0 ∷ 0 ∷ 8 ∷ [])); height = 0; level = 1; quorum = 1; at = 2 } ∷ record { block = (dg (39 ∷ 0 ∷ 2 ∷ 16 ∷ [])); height = 1; level = 1; quorum = 1; at = 4 } ∷ [])

-- ---- journal 16

abbrev s16 : Setting
s16 = named_by mixed (record { weights = (1 ∷ []); ftt = 0; levels = 1; min_exponent = 2; max_exponent = 4; leaders = Table (0 ∷ 0 ∷ []); max_records = 131072; max_parked = 4096; end = Some 0 })

abbrev u16_0 : WireUnit
u16_0 = record { instance = dg (0 ∷ 0 ∷ 0 ∷ 0 ∷ []); creator = 0; seq = 2; time = 18; exponent = 2; panorama = (Correct (dg (25 ∷ 0 ∷ 1 ∷ 10 ∷ [])) ∷ []); value = None; endorsed = [] }

abbrev u16_1 : WireUnit
u16_1 = record { instance = dg (0 ∷ 0 ∷ 0 ∷ 0 ∷ []); creator = 0; seq = 2; time = 16; exponent = 2; panorama = (Correct (dg (25 ∷ 0 ∷ 1 ∷ 10 ∷ [])) ∷ []); value = Some []; endorsed = [] }

abbrev u16_2 : WireUnit
u16_2 = record { instance = dg (0 ∷ 0 ∷ 0 ∷ 0 ∷ []); creator = 0; seq = 0; time = 8; exponent = 2; panorama = (Absent ∷ []); value = Some (121 ∷ []); endorsed = [] }

abbrev u16_3 : WireUnit
u16_3 = record { instance = dg (0 ∷ 0 ∷ 0 ∷ 0 ∷ []); creator = 0; seq = 1; time = 10; exponent = 2; panorama = (Correct (dg (39 ∷ 0 ∷ 0 ∷ 8 ∷ [])) ∷ []); value = None; endorsed = [] }

abbrev sent16 : List (Vertex × Bool)
sent16 = ((sent u16_0, true) ∷ (both u16_1 u16_2, true) ∷ (sent u16_3, true) ∷ (sent u16_1, true) ∷ (both u16_2 u16_0, true) ∷ (sent u16_2, true) ∷ (backs (dg (16 ∷ 0 ∷ 2 ∷ 16 ∷ [])) 1, true) ∷ [])

abbrev journal16 : List Vertex
journal16 = (sent u16_0 ∷ sent u16_3 ∷ sent u16_1 ∷ sent u16_2 ∷ [])

pub record Decided16 : Type 0 where
  pub answers : answers_from s16 [] sent16 ≡ (Ok (Parked 1) ∷ Err (cause.Pair fault.Sequence) ∷ Ok (Parked 1) ∷ Ok (Parked 1) ∷ Err (cause.Pair fault.Sequence) ∷ Ok (Admitted 3) ∷ Err (cause.Local rule.UnknownCreator) ∷ [])
  pub kept : journal_of s16 sent16 ≡ journal16
  pub settled : settled_names s16 journal16 ≡ ((dg (21 ∷ 0 ∷ 2 ∷ 18 ∷ [])) ∷ (dg (25 ∷ 0 ∷ 1 ∷ 10 ∷ [])) ∷ (dg (39 ∷ 0 ∷ 0 ∷ 8 ∷ [])) ∷ [])
  pub parked : names_of (parked_of s16.config (received_of s16 journal16)) ≡ []
  pub dropped : names_of (dropped_of s16.config (received_of s16 journal16)) ≡ ((dg (16 ∷ 0 ∷ 2 ∷ 16 ∷ [])) ∷ [])
  pub faulty : faulty_in s16 journal16 ≡ []
  pub panorama : panorama_in s16 journal16 ≡ (Correct (dg (21 ∷ 0 ∷ 2 ∷ 18 ∷ [])) ∷ [])
  pub fork : fork_in s16 journal16 ≡ Some (dg (39 ∷ 0 ∷ 0 ∷ 8 ∷ []))
  pub decisions : decisions_of s16 journal16 ≡ (record { block = (dg (39 ∷ 0 ∷ 0 ∷ 8 ∷ [])); height = 0; level = 1; quorum = 1; at = 4 } ∷ [])
