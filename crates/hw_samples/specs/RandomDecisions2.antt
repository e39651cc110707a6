-- Random journals: validators that know random parts of each other's units make units round by round, some fork, some
-- units have something wrong, and all of them are delivered in a random order, with evidence and endorsements.
-- The values are those of another reading of the rules, written apart from the definitions; the two agree.
use Rattle.std.specs.Prelude.{◌≡◌, ◌∷◌, [], Bool, true, false, List, Some, None, Ok, Err}
use Rattle.hw_types.specs.declared.unit.Obs.TheVariants.{Absent, Correct}
use Rattle.hw_types.specs.declared.unit.WireUnit.{WireUnit}
use Rattle.hw_types.specs.declared.unit.Vertex.{Vertex}
use Rattle.hw_types.specs.declared.config.Leaders.TheVariants.{Table}
use Rattle.hw_types.specs.declared.answers.Receipt.TheVariants.{Admitted, Parked, Dropped}
use Rattle.hw_types.specs.Settled.{parked_of, dropped_of}
use Rattle.hw_types.specs.Journal.{Setting, received_of, journal_of, answers_from}
use Rattle.hw_safety.specs.Decided.{decisions_of}
use Rattle.hw_samples.specs.Words.{names_of, settled_names, panorama_in, faulty_in, fork_in, sent, both}
use Rattle.hw_samples.specs.JournalWords.{backs, mixed, named_by, dg}
use Rattle.hw_types.specs.declared.answers.Cause.TheVariants as cause
use Rattle.hw_types.specs.declared.answers.Rule.TheVariants as rule
use Rattle.hw_types.specs.declared.answers.PairFault.TheVariants as fault

-- ---- journal 5

abbrev s5 : Setting
s5 = named_by mixed (record { weights = (3 ∷ 1 ∷ 3 ∷ 3 ∷ []); ftt = 0; levels = 2; min_exponent = 2; max_exponent = 4; leaders = Table (3 ∷ 0 ∷ []); max_records = 7; max_parked = 4096; end = Some 0 })

abbrev u5_0 : WireUnit
u5_0 = record { instance = dg (1 ∷ []); creator = 3; seq = 0; time = 8; exponent = 2; panorama = (Absent ∷ Absent ∷ Absent ∷ Absent ∷ []); value = Some []; endorsed = [] }

abbrev u5_1 : WireUnit
u5_1 = record { instance = dg (0 ∷ 0 ∷ 0 ∷ 0 ∷ []); creator = 0; seq = 0; time = 12; exponent = 2; panorama = (Absent ∷ Absent ∷ Absent ∷ Absent ∷ []); value = Some (120 ∷ []); endorsed = [] }

abbrev u5_2 : WireUnit
u5_2 = record { instance = dg (0 ∷ 0 ∷ 0 ∷ 0 ∷ []); creator = 1; seq = 0; time = 13; exponent = 2; panorama = (Correct (dg (85 ∷ 0 ∷ 0 ∷ 12 ∷ [])) ∷ Absent ∷ Absent ∷ Absent ∷ []); value = None; endorsed = [] }

abbrev u5_3 : WireUnit
u5_3 = record { instance = dg (0 ∷ 0 ∷ 0 ∷ 0 ∷ []); creator = 2; seq = 0; time = 13; exponent = 2; panorama = (Correct (dg (85 ∷ 0 ∷ 0 ∷ 12 ∷ [])) ∷ Correct (dg (63 ∷ 1 ∷ 0 ∷ 13 ∷ [])) ∷ Absent ∷ Absent ∷ []); value = None; endorsed = [] }

abbrev u5_4 : WireUnit
u5_4 = record { instance = dg (0 ∷ 0 ∷ 0 ∷ 0 ∷ []); creator = 0; seq = 1; time = 14; exponent = 2; panorama = (Correct (dg (85 ∷ 0 ∷ 0 ∷ 12 ∷ [])) ∷ Correct (dg (63 ∷ 1 ∷ 0 ∷ 13 ∷ [])) ∷ Correct (dg (70 ∷ 2 ∷ 0 ∷ 13 ∷ [])) ∷ Absent ∷ []); value = None; endorsed = [] }

abbrev u5_5 : WireUnit
u5_5 = record { instance = dg (0 ∷ 0 ∷ 0 ∷ 0 ∷ []); creator = 1; seq = 1; time = 14; exponent = 3; panorama = (Correct (dg (72 ∷ 0 ∷ 1 ∷ 14 ∷ [])) ∷ Correct (dg (63 ∷ 1 ∷ 0 ∷ 13 ∷ [])) ∷ Correct (dg (70 ∷ 2 ∷ 0 ∷ 13 ∷ [])) ∷ Absent ∷ []); value = None; endorsed = [] }

abbrev u5_6 : WireUnit
u5_6 = record { instance = dg (0 ∷ 0 ∷ 0 ∷ 0 ∷ []); creator = 2; seq = 1; time = 14; exponent = 4; panorama = (Correct (dg (85 ∷ 0 ∷ 0 ∷ 12 ∷ [])) ∷ Correct (dg (63 ∷ 1 ∷ 0 ∷ 13 ∷ [])) ∷ Correct (dg (70 ∷ 2 ∷ 0 ∷ 13 ∷ [])) ∷ Absent ∷ []); value = None; endorsed = [] }

abbrev u5_7 : WireUnit
u5_7 = record { instance = dg (0 ∷ 0 ∷ 0 ∷ 0 ∷ []); creator = 3; seq = 0; time = 14; exponent = 1; panorama = (Correct (dg (85 ∷ 0 ∷ 0 ∷ 12 ∷ [])) ∷ Absent ∷ Absent ∷ Absent ∷ []); value = None; endorsed = [] }

abbrev u5_8 : WireUnit
u5_8 = record { instance = dg (0 ∷ 0 ∷ 0 ∷ 0 ∷ []); creator = 3; seq = 0; time = 16; exponent = 2; panorama = (Correct (dg (72 ∷ 0 ∷ 1 ∷ 14 ∷ [])) ∷ Correct (dg (63 ∷ 1 ∷ 0 ∷ 13 ∷ [])) ∷ Correct (dg (70 ∷ 2 ∷ 0 ∷ 13 ∷ [])) ∷ Absent ∷ []); value = Some []; endorsed = [] }

abbrev u5_9 : WireUnit
u5_9 = record { instance = dg (0 ∷ 0 ∷ 0 ∷ 0 ∷ []); creator = 0; seq = 2; time = 17; exponent = 2; panorama = (Correct (dg (72 ∷ 0 ∷ 1 ∷ 14 ∷ [])) ∷ Correct (dg (63 ∷ 1 ∷ 0 ∷ 13 ∷ [])) ∷ Correct (dg (70 ∷ 2 ∷ 0 ∷ 13 ∷ [])) ∷ Absent ∷ []); value = None; endorsed = [] }

abbrev sent5 : List (Vertex × Bool)
sent5 = ((sent u5_0, true) ∷ (sent u5_1, true) ∷ (sent u5_2, true) ∷ (sent u5_3, true) ∷ (sent u5_4, true) ∷ (sent u5_5, true) ∷ (sent u5_6, true) ∷ (both u5_7 u5_0, true) ∷ (sent u5_7, true) ∷ (both u5_1 u5_1, true) ∷ (sent u5_8, true) ∷ (sent u5_9, true) ∷ [])

abbrev journal5 : List Vertex
journal5 = (sent u5_1 ∷ sent u5_2 ∷ sent u5_3 ∷ sent u5_4 ∷ sent u5_5 ∷ sent u5_6 ∷ sent u5_8 ∷ [])

pub record Decided5 : Type 0 where
  pub answers : answers_from s5 [] sent5 ≡ (Err (cause.Local rule.WrongInstance) ∷ Ok (Admitted 1) ∷ Ok (Admitted 1) ∷ Ok (Admitted 1) ∷ Ok (Admitted 1) ∷ Ok (Dropped rule.RoundChange) ∷ Ok (Dropped rule.RoundChange) ∷ Err (cause.Pair fault.Instance) ∷ Err (cause.Local rule.RoundExponent) ∷ Err (cause.Pair fault.Same) ∷ Ok (Dropped rule.AfterTerminal) ∷ Err cause.RecordsFull ∷ [])
  pub kept : journal_of s5 sent5 ≡ journal5
  pub settled : settled_names s5 journal5 ≡ ((dg (63 ∷ 1 ∷ 0 ∷ 13 ∷ [])) ∷ (dg (70 ∷ 2 ∷ 0 ∷ 13 ∷ [])) ∷ (dg (72 ∷ 0 ∷ 1 ∷ 14 ∷ [])) ∷ (dg (85 ∷ 0 ∷ 0 ∷ 12 ∷ [])) ∷ [])
  pub parked : names_of (parked_of s5.config (received_of s5 journal5)) ≡ []
  pub dropped : names_of (dropped_of s5.config (received_of s5 journal5)) ≡ ((dg (30 ∷ 3 ∷ 0 ∷ 16 ∷ [])) ∷ (dg (82 ∷ 1 ∷ 1 ∷ 14 ∷ [])) ∷ (dg (92 ∷ 2 ∷ 1 ∷ 14 ∷ [])) ∷ [])
  pub faulty : faulty_in s5 journal5 ≡ []
  pub panorama : panorama_in s5 journal5 ≡ (Correct (dg (72 ∷ 0 ∷ 1 ∷ 14 ∷ [])) ∷ Correct (dg (63 ∷ 1 ∷ 0 ∷ 13 ∷ [])) ∷ Correct (dg (70 ∷ 2 ∷ 0 ∷ 13 ∷ [])) ∷ Absent ∷ [])
  pub fork : fork_in s5 journal5 ≡ Some (dg (85 ∷ 0 ∷ 0 ∷ 12 ∷ []))
  pub decisions : decisions_of s5 journal5 ≡ []

-- ---- journal 6

abbrev s6 : Setting
s6 = named_by mixed (record { weights = (1 ∷ []); ftt = 0; levels = 2; min_exponent = 2; max_exponent = 4; leaders = Table (0 ∷ 0 ∷ 0 ∷ []); max_records = 131072; max_parked = 4096; end = None })

abbrev u6_0 : WireUnit
u6_0 = record { instance = dg (0 ∷ 0 ∷ 0 ∷ 0 ∷ []); creator = 0; seq = 1; time = 10; exponent = 2; panorama = (Correct (dg (39 ∷ 0 ∷ 0 ∷ 8 ∷ [])) ∷ []); value = None; endorsed = [] }

abbrev u6_1 : WireUnit
u6_1 = record { instance = dg (0 ∷ 0 ∷ 0 ∷ 0 ∷ []); creator = 0; seq = 5; time = 22; exponent = 2; panorama = (Correct (dg (70 ∷ 0 ∷ 4 ∷ 20 ∷ [])) ∷ []); value = None; endorsed = [] }

abbrev u6_2 : WireUnit
u6_2 = record { instance = dg (0 ∷ 0 ∷ 0 ∷ 0 ∷ []); creator = 0; seq = 3; time = 18; exponent = 2; panorama = (Correct (dg (41 ∷ 0 ∷ 2 ∷ 16 ∷ [])) ∷ []); value = None; endorsed = [] }

abbrev u6_3 : WireUnit
u6_3 = record { instance = dg (0 ∷ 0 ∷ 0 ∷ 0 ∷ []); creator = 0; seq = 4; time = 20; exponent = 2; panorama = (Correct (dg (26 ∷ 0 ∷ 3 ∷ 18 ∷ [])) ∷ []); value = Some []; endorsed = [] }

abbrev u6_4 : WireUnit
u6_4 = record { instance = dg (0 ∷ 0 ∷ 0 ∷ 0 ∷ []); creator = 0; seq = 2; time = 16; exponent = 2; panorama = (Correct (dg (25 ∷ 0 ∷ 1 ∷ 10 ∷ [])) ∷ []); value = Some (122 ∷ []); endorsed = [] }

abbrev u6_5 : WireUnit
u6_5 = record { instance = dg (0 ∷ 0 ∷ 0 ∷ 0 ∷ []); creator = 0; seq = 0; time = 8; exponent = 2; panorama = (Absent ∷ []); value = Some (121 ∷ []); endorsed = [] }

abbrev sent6 : List (Vertex × Bool)
sent6 = ((sent u6_0, true) ∷ (sent u6_1, true) ∷ (both u6_2 u6_0, true) ∷ (sent u6_2, true) ∷ (both u6_3 u6_0, true) ∷ (sent u6_3, true) ∷ (sent u6_4, true) ∷ (sent u6_5, true) ∷ [])

abbrev journal6 : List Vertex
journal6 = (sent u6_0 ∷ sent u6_1 ∷ sent u6_2 ∷ sent u6_3 ∷ sent u6_4 ∷ sent u6_5 ∷ [])

pub record Decided6 : Type 0 where
  pub answers : answers_from s6 [] sent6 ≡ (Ok (Parked 1) ∷ Ok (Parked 1) ∷ Err (cause.Pair fault.Sequence) ∷ Ok (Parked 1) ∷ Err (cause.Pair fault.Sequence) ∷ Ok (Parked 1) ∷ Ok (Parked 1) ∷ Ok (Admitted 6) ∷ [])
  pub kept : journal_of s6 sent6 ≡ journal6
  pub settled : settled_names s6 journal6 ≡ ((dg (25 ∷ 0 ∷ 1 ∷ 10 ∷ [])) ∷ (dg (26 ∷ 0 ∷ 3 ∷ 18 ∷ [])) ∷ (dg (39 ∷ 0 ∷ 0 ∷ 8 ∷ [])) ∷ (dg (41 ∷ 0 ∷ 2 ∷ 16 ∷ [])) ∷ (dg (70 ∷ 0 ∷ 4 ∷ 20 ∷ [])) ∷ (dg (80 ∷ 0 ∷ 5 ∷ 22 ∷ [])) ∷ [])
  pub parked : names_of (parked_of s6.config (received_of s6 journal6)) ≡ []
  pub dropped : names_of (dropped_of s6.config (received_of s6 journal6)) ≡ []
  pub faulty : faulty_in s6 journal6 ≡ []
  pub panorama : panorama_in s6 journal6 ≡ (Correct (dg (80 ∷ 0 ∷ 5 ∷ 22 ∷ [])) ∷ [])
  pub fork : fork_in s6 journal6 ≡ Some (dg (70 ∷ 0 ∷ 4 ∷ 20 ∷ []))
  pub decisions : decisions_of s6 journal6 ≡ (record { block = (dg (39 ∷ 0 ∷ 0 ∷ 8 ∷ [])); height = 0; level = 1; quorum = 1; at = 6 } ∷ record { block = (dg (41 ∷ 0 ∷ 2 ∷ 16 ∷ [])); height = 1; level = 1; quorum = 1; at = 6 } ∷ record { block = (dg (70 ∷ 0 ∷ 4 ∷ 20 ∷ [])); height = 2; level = 1; quorum = 1; at = 6 } ∷ [])

-- ---- journal 7

abbrev s7 : Setting
s7 = named_by mixed (record { weights = (1 ∷ 3 ∷ 1 ∷ []); ftt = 0; levels = 2; min_exponent = 2; max_exponent = 4; leaders = Table (2 ∷ 0 ∷ []); max_records = 131072; max_parked = 4096; end = None })

abbrev u7_0 : WireUnit
u7_0 = record { instance = dg (0 ∷ 0 ∷ 0 ∷ 0 ∷ []); creator = 2; seq = 0; time = 8; exponent = 2; panorama = (Absent ∷ Absent ∷ Absent ∷ []); value = Some (121 ∷ []); endorsed = [] }

abbrev u7_1 : WireUnit
u7_1 = record { instance = dg (0 ∷ 0 ∷ 0 ∷ 0 ∷ []); creator = 0; seq = 0; time = 9; exponent = 2; panorama = (Absent ∷ Absent ∷ Correct (dg (55 ∷ 2 ∷ 0 ∷ 8 ∷ [])) ∷ []); value = None; endorsed = [] }

abbrev u7_2 : WireUnit
u7_2 = record { instance = dg (0 ∷ 0 ∷ 0 ∷ 0 ∷ []); creator = 1; seq = 0; time = 9; exponent = 2; panorama = (Correct (dg (11 ∷ 0 ∷ 0 ∷ 9 ∷ [])) ∷ Absent ∷ Correct (dg (55 ∷ 2 ∷ 0 ∷ 8 ∷ [])) ∷ []); value = None; endorsed = [] }

abbrev u7_3 : WireUnit
u7_3 = record { instance = dg (0 ∷ 0 ∷ 0 ∷ 0 ∷ []); creator = 1; seq = 1; time = 10; exponent = 2; panorama = (Correct (dg (11 ∷ 0 ∷ 0 ∷ 9 ∷ [])) ∷ Correct (dg (18 ∷ 1 ∷ 0 ∷ 9 ∷ [])) ∷ Correct (dg (55 ∷ 2 ∷ 0 ∷ 8 ∷ [])) ∷ []); value = None; endorsed = [] }

abbrev u7_4 : WireUnit
u7_4 = record { instance = dg (0 ∷ 0 ∷ 0 ∷ 0 ∷ []); creator = 2; seq = 1; time = 10; exponent = 2; panorama = (Absent ∷ Absent ∷ Correct (dg (55 ∷ 2 ∷ 0 ∷ 8 ∷ [])) ∷ []); value = None; endorsed = [] }

abbrev u7_5 : WireUnit
u7_5 = record { instance = dg (0 ∷ 0 ∷ 0 ∷ 0 ∷ []); creator = 0; seq = 1; time = 12; exponent = 2; panorama = (Correct (dg (11 ∷ 0 ∷ 0 ∷ 9 ∷ [])) ∷ Correct (dg (34 ∷ 1 ∷ 1 ∷ 10 ∷ [])) ∷ Correct (dg (41 ∷ 2 ∷ 1 ∷ 10 ∷ [])) ∷ []); value = Some (120 ∷ []); endorsed = ((dg (11 ∷ 0 ∷ 0 ∷ 9 ∷ [])) ∷ []) }

abbrev u7_6 : WireUnit
u7_6 = record { instance = dg (0 ∷ 0 ∷ 0 ∷ 0 ∷ []); creator = 1; seq = 2; time = 13; exponent = 2; panorama = (Correct (dg (11 ∷ 0 ∷ 0 ∷ 9 ∷ [])) ∷ Correct (dg (34 ∷ 1 ∷ 1 ∷ 10 ∷ [])) ∷ Correct (dg (41 ∷ 2 ∷ 1 ∷ 10 ∷ [])) ∷ []); value = None; endorsed = [] }

abbrev u7_7 : WireUnit
u7_7 = record { instance = dg (0 ∷ 0 ∷ 0 ∷ 0 ∷ []); creator = 2; seq = 2; time = 13; exponent = 2; panorama = (Absent ∷ Absent ∷ Correct (dg (41 ∷ 2 ∷ 1 ∷ 10 ∷ [])) ∷ []); value = None; endorsed = [] }

abbrev u7_8 : WireUnit
u7_8 = record { instance = dg (0 ∷ 0 ∷ 0 ∷ 0 ∷ []); creator = 0; seq = 1; time = 14; exponent = 2; panorama = (Correct (dg (11 ∷ 0 ∷ 0 ∷ 9 ∷ [])) ∷ Correct (dg (72 ∷ 1 ∷ 2 ∷ 13 ∷ [])) ∷ Correct (dg (79 ∷ 2 ∷ 2 ∷ 13 ∷ [])) ∷ []); value = None; endorsed = [] }

abbrev sent7 : List (Vertex × Bool)
sent7 = ((sent u7_0, true) ∷ (backs (dg (72 ∷ 1 ∷ 2 ∷ 13 ∷ [])) 3, true) ∷ (sent u7_1, true) ∷ (sent u7_2, true) ∷ (sent u7_3, true) ∷ (sent u7_4, true) ∷ (sent u7_5, true) ∷ (sent u7_6, true) ∷ (backs (dg (72 ∷ 1 ∷ 2 ∷ 13 ∷ [])) 3, true) ∷ (sent u7_7, false) ∷ (backs (dg (72 ∷ 1 ∷ 2 ∷ 13 ∷ [])) 2, true) ∷ (sent u7_8, true) ∷ [])

abbrev journal7 : List Vertex
journal7 = (sent u7_0 ∷ sent u7_1 ∷ sent u7_2 ∷ sent u7_3 ∷ sent u7_4 ∷ sent u7_5 ∷ sent u7_6 ∷ backs (dg (72 ∷ 1 ∷ 2 ∷ 13 ∷ [])) 2 ∷ sent u7_8 ∷ [])

pub record Decided7 : Type 0 where
  pub answers : answers_from s7 [] sent7 ≡ (Ok (Admitted 1) ∷ Err (cause.Local rule.UnknownCreator) ∷ Ok (Admitted 1) ∷ Ok (Admitted 1) ∷ Ok (Admitted 1) ∷ Ok (Admitted 1) ∷ Ok (Parked 1) ∷ Ok (Admitted 1) ∷ Err (cause.Local rule.UnknownCreator) ∷ Err cause.BadSignature ∷ Ok (Admitted 0) ∷ Ok (Parked 1) ∷ [])
  pub kept : journal_of s7 sent7 ≡ journal7
  pub settled : settled_names s7 journal7 ≡ ((dg (11 ∷ 0 ∷ 0 ∷ 9 ∷ [])) ∷ (dg (18 ∷ 1 ∷ 0 ∷ 9 ∷ [])) ∷ (dg (34 ∷ 1 ∷ 1 ∷ 10 ∷ [])) ∷ (dg (41 ∷ 2 ∷ 1 ∷ 10 ∷ [])) ∷ (dg (55 ∷ 2 ∷ 0 ∷ 8 ∷ [])) ∷ (dg (72 ∷ 1 ∷ 2 ∷ 13 ∷ [])) ∷ [])
  pub parked : names_of (parked_of s7.config (received_of s7 journal7)) ≡ ((dg (5 ∷ 0 ∷ 1 ∷ 12 ∷ [])) ∷ (dg (71 ∷ 0 ∷ 1 ∷ 14 ∷ [])) ∷ [])
  pub dropped : names_of (dropped_of s7.config (received_of s7 journal7)) ≡ []
  pub faulty : faulty_in s7 journal7 ≡ []
  pub panorama : panorama_in s7 journal7 ≡ (Correct (dg (11 ∷ 0 ∷ 0 ∷ 9 ∷ [])) ∷ Correct (dg (72 ∷ 1 ∷ 2 ∷ 13 ∷ [])) ∷ Correct (dg (41 ∷ 2 ∷ 1 ∷ 10 ∷ [])) ∷ [])
  pub fork : fork_in s7 journal7 ≡ Some (dg (55 ∷ 2 ∷ 0 ∷ 8 ∷ []))
  pub decisions : decisions_of s7 journal7 ≡ (record { block = (dg (55 ∷ 2 ∷ 0 ∷ 8 ∷ [])); height = 0; level = 1; quorum = 3; at = 4 } ∷ [])

-- ---- journal 8

abbrev s8 : Setting
s8 = named_by mixed (record { weights = (1 ∷ []); ftt = 0; levels = 2; min_exponent = 2; max_exponent = 4; leaders = Table (0 ∷ 0 ∷ []); max_records = 131072; max_parked = 4096; end = None })

abbrev u8_0 : WireUnit
u8_0 = record { instance = dg (0 ∷ 0 ∷ 0 ∷ 0 ∷ []); creator = 0; seq = 0; time = 8; exponent = 2; panorama = (Absent ∷ []); value = Some (121 ∷ []); endorsed = [] }

abbrev u8_1 : WireUnit
u8_1 = record { instance = dg (0 ∷ 0 ∷ 0 ∷ 0 ∷ []); creator = 0; seq = 4; time = 18; exponent = 2; panorama = (Correct (dg (46 ∷ 0 ∷ 3 ∷ 16 ∷ [])) ∷ []); value = None; endorsed = [] }

abbrev u8_2 : WireUnit
u8_2 = record { instance = dg (0 ∷ 0 ∷ 0 ∷ 0 ∷ []); creator = 0; seq = 1; time = 10; exponent = 2; panorama = (Correct (dg (39 ∷ 0 ∷ 0 ∷ 8 ∷ [])) ∷ []); value = Some (120 ∷ []); endorsed = [] }

abbrev u8_3 : WireUnit
u8_3 = record { instance = dg (0 ∷ 0 ∷ 0 ∷ 0 ∷ []); creator = 0; seq = 1; time = 12; exponent = 2; panorama = (Correct (dg (39 ∷ 0 ∷ 0 ∷ 8 ∷ [])) ∷ []); value = Some []; endorsed = [] }

abbrev u8_4 : WireUnit
u8_4 = record { instance = dg (0 ∷ 0 ∷ 0 ∷ 0 ∷ []); creator = 0; seq = 2; time = 14; exponent = 2; panorama = (Correct (dg (64 ∷ 0 ∷ 1 ∷ 12 ∷ [])) ∷ []); value = None; endorsed = [] }

abbrev u8_5 : WireUnit
u8_5 = record { instance = dg (0 ∷ 0 ∷ 0 ∷ 0 ∷ []); creator = 0; seq = 3; time = 16; exponent = 2; panorama = (Correct (dg (74 ∷ 0 ∷ 2 ∷ 14 ∷ [])) ∷ []); value = Some (122 ∷ []); endorsed = [] }

abbrev sent8 : List (Vertex × Bool)
sent8 = ((both u8_0 u8_1, true) ∷ (sent u8_0, true) ∷ (sent u8_2, true) ∷ (sent u8_3, true) ∷ (sent u8_4, true) ∷ (sent u8_5, true) ∷ (sent u8_1, true) ∷ [])

abbrev journal8 : List Vertex
journal8 = (sent u8_0 ∷ sent u8_2 ∷ sent u8_3 ∷ sent u8_4 ∷ sent u8_5 ∷ sent u8_1 ∷ [])

pub record Decided8 : Type 0 where
  pub answers : answers_from s8 [] sent8 ≡ (Err (cause.Pair fault.Sequence) ∷ Ok (Admitted 1) ∷ Ok (Dropped rule.NotLeader) ∷ Ok (Admitted 1) ∷ Ok (Admitted 1) ∷ Ok (Admitted 1) ∷ Ok (Admitted 1) ∷ [])
  pub kept : journal_of s8 sent8 ≡ journal8
  pub settled : settled_names s8 journal8 ≡ ((dg (31 ∷ 0 ∷ 4 ∷ 18 ∷ [])) ∷ (dg (39 ∷ 0 ∷ 0 ∷ 8 ∷ [])) ∷ (dg (46 ∷ 0 ∷ 3 ∷ 16 ∷ [])) ∷ (dg (64 ∷ 0 ∷ 1 ∷ 12 ∷ [])) ∷ (dg (74 ∷ 0 ∷ 2 ∷ 14 ∷ [])) ∷ [])
  pub parked : names_of (parked_of s8.config (received_of s8 journal8)) ≡ []
  pub dropped : names_of (dropped_of s8.config (received_of s8 journal8)) ≡ ((dg (65 ∷ 0 ∷ 1 ∷ 10 ∷ [])) ∷ [])
  pub faulty : faulty_in s8 journal8 ≡ []
  pub panorama : panorama_in s8 journal8 ≡ (Correct (dg (31 ∷ 0 ∷ 4 ∷ 18 ∷ [])) ∷ [])
  pub fork : fork_in s8 journal8 ≡ Some (dg (46 ∷ 0 ∷ 3 ∷ 16 ∷ []))
  pub decisions : decisions_of s8 journal8 ≡ (record { block = (dg (39 ∷ 0 ∷ 0 ∷ 8 ∷ [])); height = 0; level = 1; quorum = 1; at = 3 } ∷ record { block = (dg (64 ∷ 0 ∷ 1 ∷ 12 ∷ [])); height = 1; level = 1; quorum = 1; at = 4 } ∷ record { block = (dg (46 ∷ 0 ∷ 3 ∷ 16 ∷ [])); height = 2; level = 1; quorum = 1; at = 6 } ∷ [])
