-- Random journals with evidence, endorsements and refusals, and what they say.
-- The values are those of another reading of the definitions, written apart from them. The program that drew these
-- journals and wrote this isn't kept.
use Rattle.std.specs.Prelude.{◌≡◌, true, List, [], ◌∷◌, map, Some, None, Ok, Err}
use Rattle.hw_types.specs.declared.unit.Obs.TheVariants.{Absent, Correct, Faulty}
use Rattle.hw_types.specs.declared.unit.WireUnit.{WireUnit}
use Rattle.hw_types.specs.declared.unit.Vertex.{Vertex}
use Rattle.hw_types.specs.declared.unit.Need.TheVariants as need
use Rattle.hw_types.specs.declared.config.Leaders.TheVariants.{Table}
use Rattle.hw_types.specs.declared.answers.Receipt.TheVariants as receipt
use Rattle.hw_types.specs.declared.answers.Cause.TheVariants as cause
use Rattle.hw_types.specs.declared.answers.Rule.TheVariants as rule
use Rattle.hw_types.specs.declared.answers.PairFault.TheVariants as fault
use Rattle.hw_types.specs.declared.answers.PlanKind.TheVariants as kind
use Rattle.hw_types.specs.Settled.{Received, settled_of, parked_of, dropped_of, missing_of, panorama_of, fork_choice}
use Rattle.hw_types.specs.Journal.{Setting, named, received_of, journal_of, answers_from}
use Rattle.hw_types.specs.Step.{step}
use Rattle.hw_types.specs.Culprits.{culprits_of, pair_of, shown_in_either}
use Rattle.hw_safety.specs.Decided.{decisions_of}
use Rattle.hw_samples.specs.Words.{names_of, name_of}
use Rattle.hw_samples.specs.JournalWords.{dg, sent_as, both_as, backs, named_by}
use Rattle.hw_samples.specs.CaseWords.{spread, crowded, faulty_named}

-- ---- case 1

abbrev s1 : Setting
s1 = named_by spread (record { weights = (1 ∷ 1 ∷ []); ftt = 0; levels = 3; min_exponent = 4; max_exponent = 8; leaders = Table (1 ∷ 0 ∷ 1 ∷ 0 ∷ []); max_records = 131072; max_parked = 4096; end = None })

abbrev u1_0 : WireUnit
u1_0 = record { instance = dg (0 ∷ 0 ∷ 0 ∷ 0 ∷ []); creator = 0; seq = 0; time = 16; exponent = 4; panorama = (Absent ∷ Absent ∷ []); value = Some (([])); endorsed = ([]) }

abbrev u1_1 : WireUnit
u1_1 = record { instance = dg (0 ∷ 0 ∷ 0 ∷ 0 ∷ []); creator = 1; seq = 0; time = 18; exponent = 4; panorama = (Correct (dg (13 ∷ 0 ∷ 0 ∷ 0 ∷ 16 ∷ [])) ∷ Absent ∷ []); value = None; endorsed = ([]) }

abbrev u1_2 : WireUnit
u1_2 = record { instance = dg (0 ∷ 0 ∷ 0 ∷ 0 ∷ []); creator = 1; seq = 1; time = 26; exponent = 4; panorama = (Correct (dg (13 ∷ 0 ∷ 0 ∷ 0 ∷ 16 ∷ [])) ∷ Correct (dg (25 ∷ 1 ∷ 0 ∷ 0 ∷ 18 ∷ [])) ∷ []); value = None; endorsed = ([]) }

abbrev j1 : List Vertex
j1 = (sent_as [] u1_0 ∷ sent_as [] u1_1 ∷ sent_as [] u1_2 ∷ [])

abbrev r1 : List Vertex
r1 = (sent_as [] u1_1 ∷ sent_as [] u1_0 ∷ sent_as [] u1_2 ∷ [])

abbrev k1 : Received
k1 = received_of s1 j1

pub record RandomCase1 : Type 0 where
  pub answers : answers_from s1 [] ((sent_as [] u1_0, true) ∷ (sent_as [] u1_1, true) ∷ (sent_as [] u1_2, true) ∷ []) ≡ (Ok (receipt.Admitted 1) ∷ Ok (receipt.Admitted 1) ∷ Ok (receipt.Admitted 1) ∷ [])
  pub kept : journal_of s1 ((sent_as [] u1_0, true) ∷ (sent_as [] u1_1, true) ∷ (sent_as [] u1_2, true) ∷ []) ≡ j1
  pub settled : names_of (settled_of s1.config k1) ≡ (dg (13 ∷ 0 ∷ 0 ∷ 0 ∷ 16 ∷ []) ∷ dg (21 ∷ 1 ∷ 1 ∷ 0 ∷ 26 ∷ []) ∷ dg (25 ∷ 1 ∷ 0 ∷ 0 ∷ 18 ∷ []) ∷ [])
  pub parked : names_of (parked_of s1.config k1) ≡ ([])
  pub dropped : names_of (dropped_of s1.config k1) ≡ ([])
  pub faulty : faulty_named s1 k1 ≡ ([])
  pub panorama : panorama_of s1.config k1 ≡ (Correct (dg (13 ∷ 0 ∷ 0 ∷ 0 ∷ 16 ∷ [])) ∷ Correct (dg (21 ∷ 1 ∷ 1 ∷ 0 ∷ 26 ∷ [])) ∷ [])
  pub fork : name_of (fork_choice s1.config k1) ≡ Some (dg (13 ∷ 0 ∷ 0 ∷ 0 ∷ 16 ∷ []))
  pub decisions : decisions_of s1 j1 ≡ ([])
  pub culprits : culprits_of s1 j1 r1 ≡ ([])
  pub steps : (step s1 k1 0 32 (7 ∷ []) ∷ step s1 k1 0 27 (7 ∷ []) ∷ step s1 k1 1 27 (7 ∷ []) ∷ step s1 k1 1 26 (7 ∷ []) ∷ []) ≡ (None ∷ Some (record { kind = kind.Witness; unit = record { instance = dg (0 ∷ 0 ∷ 0 ∷ 0 ∷ []); creator = 0; seq = 1; time = 27; exponent = 4; panorama = (Correct (dg (13 ∷ 0 ∷ 0 ∷ 0 ∷ 16 ∷ [])) ∷ Correct (dg (21 ∷ 1 ∷ 1 ∷ 0 ∷ 26 ∷ [])) ∷ []); value = None; endorsed = ([]) } }) ∷ None ∷ None ∷ [])

-- ---- case 2

abbrev s2 : Setting
s2 = named_by spread (record { weights = (5 ∷ 5 ∷ 2 ∷ []); ftt = 3; levels = 1; min_exponent = 4; max_exponent = 6; leaders = Table (2 ∷ 2 ∷ 1 ∷ 2 ∷ 1 ∷ 0 ∷ []); max_records = 131072; max_parked = 4096; end = None })

abbrev u2_0 : WireUnit
u2_0 = record { instance = dg (0 ∷ 0 ∷ 0 ∷ 0 ∷ []); creator = 2; seq = 0; time = 16; exponent = 4; panorama = (Absent ∷ Absent ∷ Absent ∷ []); value = Some ((0 ∷ 0 ∷ 0 ∷ 2 ∷ 0 ∷ 0 ∷ 0 ∷ 0 ∷ 0 ∷ 0 ∷ 0 ∷ 16 ∷ [])); endorsed = ([]) }

abbrev u2_1 : WireUnit
u2_1 = record { instance = dg (0 ∷ 0 ∷ 0 ∷ 0 ∷ []); creator = 0; seq = 0; time = 17; exponent = 4; panorama = (Absent ∷ Absent ∷ Faulty ∷ []); value = None; endorsed = ([]) }

abbrev u2_2 : WireUnit
u2_2 = record { instance = dg (0 ∷ 0 ∷ 0 ∷ 0 ∷ []); creator = 0; seq = 0; time = 17; exponent = 4; panorama = (Absent ∷ Absent ∷ Correct (dg (46 ∷ 2 ∷ 0 ∷ 0 ∷ 16 ∷ [])) ∷ []); value = None; endorsed = ([]) }

abbrev u2_3 : WireUnit
u2_3 = record { instance = dg (0 ∷ 0 ∷ 0 ∷ 0 ∷ []); creator = 2; seq = 1; time = 26; exponent = 4; panorama = (Correct (dg (8 ∷ 0 ∷ 0 ∷ 0 ∷ 17 ∷ [])) ∷ Absent ∷ Correct (dg (46 ∷ 2 ∷ 0 ∷ 0 ∷ 16 ∷ [])) ∷ []); value = None; endorsed = ([]) }

abbrev u2_4 : WireUnit
u2_4 = record { instance = dg (0 ∷ 0 ∷ 0 ∷ 0 ∷ []); creator = 6; seq = 1; time = 27; exponent = 4; panorama = (Correct (dg (8 ∷ 0 ∷ 0 ∷ 0 ∷ 17 ∷ [])) ∷ Absent ∷ Correct (dg (29 ∷ 2 ∷ 1 ∷ 0 ∷ 26 ∷ [])) ∷ []); value = None; endorsed = ([]) }

abbrev u2_5 : WireUnit
u2_5 = record { instance = dg (0 ∷ 0 ∷ 0 ∷ 0 ∷ []); creator = 0; seq = 1; time = 27; exponent = 4; panorama = (Correct (dg (8 ∷ 0 ∷ 0 ∷ 0 ∷ 17 ∷ [])) ∷ Absent ∷ Correct (dg (29 ∷ 2 ∷ 1 ∷ 0 ∷ 26 ∷ [])) ∷ []); value = None; endorsed = ([]) }

abbrev j2 : List Vertex
j2 = (sent_as [] u2_0 ∷ sent_as [] u2_2 ∷ sent_as [] u2_3 ∷ sent_as [] u2_5 ∷ [])

abbrev r2 : List Vertex
r2 = (sent_as [] u2_0 ∷ sent_as [] u2_2 ∷ sent_as [] u2_5 ∷ [])

abbrev k2 : Received
k2 = received_of s2 j2

pub record RandomCase2 : Type 0 where
  pub answers : answers_from s2 [] ((sent_as [] u2_0, true) ∷ (sent_as [] u2_1, true) ∷ (sent_as [] u2_2, true) ∷ (sent_as [] u2_3, true) ∷ (sent_as [] u2_4, true) ∷ (sent_as [] u2_5, true) ∷ []) ≡ (Ok (receipt.Admitted 1) ∷ Err (cause.Local rule.NoBlock) ∷ Ok (receipt.Admitted 1) ∷ Ok (receipt.Admitted 1) ∷ Err (cause.Local rule.UnknownCreator) ∷ Ok (receipt.Admitted 1) ∷ [])
  pub kept : journal_of s2 ((sent_as [] u2_0, true) ∷ (sent_as [] u2_1, true) ∷ (sent_as [] u2_2, true) ∷ (sent_as [] u2_3, true) ∷ (sent_as [] u2_4, true) ∷ (sent_as [] u2_5, true) ∷ []) ≡ j2
  pub settled : names_of (settled_of s2.config k2) ≡ (dg (8 ∷ 0 ∷ 0 ∷ 0 ∷ 17 ∷ []) ∷ dg (26 ∷ 0 ∷ 1 ∷ 0 ∷ 27 ∷ []) ∷ dg (29 ∷ 2 ∷ 1 ∷ 0 ∷ 26 ∷ []) ∷ dg (46 ∷ 2 ∷ 0 ∷ 0 ∷ 16 ∷ []) ∷ [])
  pub parked : names_of (parked_of s2.config k2) ≡ ([])
  pub dropped : names_of (dropped_of s2.config k2) ≡ ([])
  pub faulty : faulty_named s2 k2 ≡ ([])
  pub panorama : panorama_of s2.config k2 ≡ (Correct (dg (26 ∷ 0 ∷ 1 ∷ 0 ∷ 27 ∷ [])) ∷ Absent ∷ Correct (dg (29 ∷ 2 ∷ 1 ∷ 0 ∷ 26 ∷ [])) ∷ [])
  pub fork : name_of (fork_choice s2.config k2) ≡ Some (dg (46 ∷ 2 ∷ 0 ∷ 0 ∷ 16 ∷ []))
  pub decisions : decisions_of s2 j2 ≡ ([])
  pub culprits : culprits_of s2 j2 r2 ≡ ([])
  pub steps : (step s2 k2 1 28 (7 ∷ []) ∷ step s2 k2 2 28 (7 ∷ []) ∷ step s2 k2 1 32 (7 ∷ []) ∷ step s2 k2 2 32 (7 ∷ []) ∷ []) ≡ (Some (record { kind = kind.Witness; unit = record { instance = dg (0 ∷ 0 ∷ 0 ∷ 0 ∷ []); creator = 1; seq = 0; time = 28; exponent = 4; panorama = (Correct (dg (26 ∷ 0 ∷ 1 ∷ 0 ∷ 27 ∷ [])) ∷ Absent ∷ Correct (dg (29 ∷ 2 ∷ 1 ∷ 0 ∷ 26 ∷ [])) ∷ []); value = None; endorsed = ([]) } }) ∷ None ∷ Some (record { kind = kind.Propose; unit = record { instance = dg (0 ∷ 0 ∷ 0 ∷ 0 ∷ []); creator = 1; seq = 0; time = 32; exponent = 4; panorama = (Correct (dg (26 ∷ 0 ∷ 1 ∷ 0 ∷ 27 ∷ [])) ∷ Absent ∷ Correct (dg (29 ∷ 2 ∷ 1 ∷ 0 ∷ 26 ∷ [])) ∷ []); value = Some ((7 ∷ [])); endorsed = ([]) } }) ∷ None ∷ [])

-- ---- case 3

abbrev s3 : Setting
s3 = named_by spread (record { weights = (1 ∷ 5 ∷ 2 ∷ []); ftt = 2; levels = 2; min_exponent = 3; max_exponent = 5; leaders = Table (2 ∷ 2 ∷ []); max_records = 131072; max_parked = 4096; end = Some (1) })

abbrev u3_0 : WireUnit
u3_0 = record { instance = dg (0 ∷ 0 ∷ 0 ∷ 0 ∷ []); creator = 2; seq = 0; time = 8; exponent = 3; panorama = (Absent ∷ Absent ∷ Absent ∷ []); value = Some ((137 ∷ 232 ∷ 135 ∷ 84 ∷ 241 ∷ 92 ∷ 96 ∷ 160 ∷ 231 ∷ 243 ∷ 110 ∷ 217 ∷ 111 ∷ [])); endorsed = ([]) }

abbrev u3_1 : WireUnit
u3_1 = record { instance = dg (0 ∷ 0 ∷ 0 ∷ 0 ∷ []); creator = 0; seq = 0; time = 10; exponent = 3; panorama = (Absent ∷ Absent ∷ Correct (dg (86 ∷ 2 ∷ 0 ∷ 0 ∷ 8 ∷ [])) ∷ []); value = None; endorsed = ([]) }

abbrev u3_2 : WireUnit
u3_2 = record { instance = dg (0 ∷ 0 ∷ 0 ∷ 0 ∷ []); creator = 1; seq = 0; time = 13; exponent = 3; panorama = (Absent ∷ Absent ∷ Absent ∷ []); value = None; endorsed = ([]) }

abbrev u3_3 : WireUnit
u3_3 = record { instance = dg (0 ∷ 0 ∷ 0 ∷ 0 ∷ []); creator = 2; seq = 1; time = 14; exponent = 3; panorama = (Correct (dg (25 ∷ 0 ∷ 0 ∷ 0 ∷ 10 ∷ [])) ∷ Absent ∷ Faulty ∷ []); value = None; endorsed = ([]) }

abbrev u3_4 : WireUnit
u3_4 = record { instance = dg (0 ∷ 0 ∷ 0 ∷ 0 ∷ []); creator = 0; seq = 1; time = 14; exponent = 3; panorama = (Correct (dg (25 ∷ 0 ∷ 0 ∷ 0 ∷ 10 ∷ [])) ∷ Absent ∷ Correct (dg (88 ∷ 2 ∷ 1 ∷ 0 ∷ 14 ∷ [])) ∷ []); value = None; endorsed = ([]) }

abbrev u3_5 : WireUnit
u3_5 = record { instance = dg (0 ∷ 0 ∷ 0 ∷ 0 ∷ []); creator = 2; seq = 1; time = 14; exponent = 3; panorama = (Correct (dg (25 ∷ 0 ∷ 0 ∷ 0 ∷ 10 ∷ [])) ∷ Absent ∷ Correct (dg (86 ∷ 2 ∷ 0 ∷ 0 ∷ 8 ∷ [])) ∷ []); value = None; endorsed = ([]) }

abbrev j3 : List Vertex
j3 = (sent_as [] u3_0 ∷ sent_as [] u3_1 ∷ sent_as [] u3_4 ∷ sent_as [] u3_5 ∷ [])

abbrev r3 : List Vertex
r3 = ([])

abbrev k3 : Received
k3 = received_of s3 j3

pub record RandomCase3 : Type 0 where
  pub answers : answers_from s3 [] ((sent_as [] u3_0, true) ∷ (sent_as [] u3_1, true) ∷ (sent_as [] u3_2, true) ∷ (sent_as [] u3_3, true) ∷ (sent_as [] u3_4, true) ∷ (sent_as [] u3_5, true) ∷ []) ≡ (Ok (receipt.Admitted 1) ∷ Ok (receipt.Admitted 1) ∷ Err (cause.Local rule.NoBlock) ∷ Err (cause.Local rule.FaultySelf) ∷ Ok (receipt.Parked 1) ∷ Ok (receipt.Admitted 2) ∷ [])
  pub kept : journal_of s3 ((sent_as [] u3_0, true) ∷ (sent_as [] u3_1, true) ∷ (sent_as [] u3_2, true) ∷ (sent_as [] u3_3, true) ∷ (sent_as [] u3_4, true) ∷ (sent_as [] u3_5, true) ∷ []) ≡ j3
  pub settled : names_of (settled_of s3.config k3) ≡ (dg (25 ∷ 0 ∷ 0 ∷ 0 ∷ 10 ∷ []) ∷ dg (74 ∷ 0 ∷ 1 ∷ 0 ∷ 14 ∷ []) ∷ dg (86 ∷ 2 ∷ 0 ∷ 0 ∷ 8 ∷ []) ∷ dg (88 ∷ 2 ∷ 1 ∷ 0 ∷ 14 ∷ []) ∷ [])
  pub parked : names_of (parked_of s3.config k3) ≡ ([])
  pub dropped : names_of (dropped_of s3.config k3) ≡ ([])
  pub faulty : faulty_named s3 k3 ≡ ([])
  pub panorama : panorama_of s3.config k3 ≡ (Correct (dg (74 ∷ 0 ∷ 1 ∷ 0 ∷ 14 ∷ [])) ∷ Absent ∷ Correct (dg (88 ∷ 2 ∷ 1 ∷ 0 ∷ 14 ∷ [])) ∷ [])
  pub fork : name_of (fork_choice s3.config k3) ≡ Some (dg (86 ∷ 2 ∷ 0 ∷ 0 ∷ 8 ∷ []))
  pub decisions : decisions_of s3 j3 ≡ ([])
  pub culprits : culprits_of s3 j3 r3 ≡ ([])
  pub steps : (step s3 k3 2 24 (7 ∷ []) ∷ step s3 k3 0 17 (7 ∷ []) ∷ step s3 k3 1 21 (7 ∷ []) ∷ step s3 k3 0 21 (7 ∷ []) ∷ []) ≡ (Some (record { kind = kind.Propose; unit = record { instance = dg (0 ∷ 0 ∷ 0 ∷ 0 ∷ []); creator = 2; seq = 2; time = 24; exponent = 3; panorama = (Correct (dg (74 ∷ 0 ∷ 1 ∷ 0 ∷ 14 ∷ [])) ∷ Absent ∷ Correct (dg (88 ∷ 2 ∷ 1 ∷ 0 ∷ 14 ∷ [])) ∷ []); value = Some ((7 ∷ [])); endorsed = ([]) } }) ∷ None ∷ Some (record { kind = kind.Witness; unit = record { instance = dg (0 ∷ 0 ∷ 0 ∷ 0 ∷ []); creator = 1; seq = 0; time = 21; exponent = 3; panorama = (Correct (dg (74 ∷ 0 ∷ 1 ∷ 0 ∷ 14 ∷ [])) ∷ Absent ∷ Correct (dg (88 ∷ 2 ∷ 1 ∷ 0 ∷ 14 ∷ [])) ∷ []); value = None; endorsed = ([]) } }) ∷ Some (record { kind = kind.Witness; unit = record { instance = dg (0 ∷ 0 ∷ 0 ∷ 0 ∷ []); creator = 0; seq = 2; time = 21; exponent = 3; panorama = (Correct (dg (74 ∷ 0 ∷ 1 ∷ 0 ∷ 14 ∷ [])) ∷ Absent ∷ Correct (dg (88 ∷ 2 ∷ 1 ∷ 0 ∷ 14 ∷ [])) ∷ []); value = None; endorsed = ([]) } }) ∷ [])

-- ---- case 4

abbrev s4 : Setting
s4 = named_by spread (record { weights = (1 ∷ 1 ∷ 1 ∷ 1 ∷ []); ftt = 0; levels = 2; min_exponent = 4; max_exponent = 5; leaders = Table (1 ∷ 3 ∷ []); max_records = 131072; max_parked = 4096; end = Some (1) })

abbrev u4_0 : WireUnit
u4_0 = record { instance = dg (0 ∷ 0 ∷ 0 ∷ 0 ∷ []); creator = 3; seq = 0; time = 16; exponent = 4; panorama = (Absent ∷ Absent ∷ Absent ∷ Absent ∷ []); value = Some ((0 ∷ 0 ∷ 0 ∷ 3 ∷ 0 ∷ 0 ∷ 0 ∷ 0 ∷ 0 ∷ 0 ∷ 0 ∷ 16 ∷ [])); endorsed = ([]) }

abbrev u4_1 : WireUnit
u4_1 = record { instance = dg (0 ∷ 0 ∷ 0 ∷ 0 ∷ []); creator = 3; seq = 1; time = 32; exponent = 4; panorama = (Absent ∷ Absent ∷ Absent ∷ Correct (dg (55 ∷ 3 ∷ 0 ∷ 0 ∷ 16 ∷ [])) ∷ []); value = Some ((119 ∷ 49 ∷ 57 ∷ [])); endorsed = ([]) }

abbrev u4_2 : WireUnit
u4_2 = record { instance = dg (0 ∷ 0 ∷ 0 ∷ 0 ∷ []); creator = 3; seq = 1; time = 26; exponent = 4; panorama = (Absent ∷ Absent ∷ Absent ∷ Correct (dg (55 ∷ 3 ∷ 0 ∷ 0 ∷ 16 ∷ [])) ∷ []); value = None; endorsed = ([]) }

abbrev u4_3 : WireUnit
u4_3 = record { instance = dg (0 ∷ 0 ∷ 0 ∷ 0 ∷ []); creator = 3; seq = 2; time = 37; exponent = 4; panorama = (Absent ∷ Absent ∷ Absent ∷ Correct (dg (37 ∷ 3 ∷ 1 ∷ 0 ∷ 26 ∷ [])) ∷ []); value = None; endorsed = ([]) }

abbrev u4_4 : WireUnit
u4_4 = record { instance = dg (0 ∷ 0 ∷ 0 ∷ 0 ∷ []); creator = 3; seq = 3; time = 42; exponent = 4; panorama = (Absent ∷ Absent ∷ Absent ∷ Correct (dg (66 ∷ 3 ∷ 2 ∷ 0 ∷ 37 ∷ [])) ∷ []); value = None; endorsed = ([]) }

abbrev j4 : List Vertex
j4 = (sent_as [] u4_0 ∷ sent_as [] u4_1 ∷ sent_as [] u4_2 ∷ sent_as [] u4_3 ∷ sent_as [] u4_4 ∷ [])

abbrev r4 : List Vertex
r4 = (sent_as [] u4_2 ∷ sent_as [] u4_0 ∷ sent_as [] u4_1 ∷ sent_as [] u4_3 ∷ sent_as [] u4_4 ∷ [])

abbrev k4 : Received
k4 = received_of s4 j4

pub record RandomCase4 : Type 0 where
  pub answers : answers_from s4 [] ((sent_as [] u4_0, true) ∷ (sent_as [] u4_1, true) ∷ (sent_as [] u4_2, true) ∷ (sent_as [] u4_3, true) ∷ (sent_as [] u4_4, true) ∷ []) ≡ (Ok (receipt.Admitted 1) ∷ Ok (receipt.Dropped rule.NotLeader) ∷ Ok (receipt.Admitted 1) ∷ Ok (receipt.Admitted 1) ∷ Ok (receipt.Admitted 1) ∷ [])
  pub kept : journal_of s4 ((sent_as [] u4_0, true) ∷ (sent_as [] u4_1, true) ∷ (sent_as [] u4_2, true) ∷ (sent_as [] u4_3, true) ∷ (sent_as [] u4_4, true) ∷ []) ≡ j4
  pub settled : names_of (settled_of s4.config k4) ≡ (dg (29 ∷ 3 ∷ 3 ∷ 0 ∷ 42 ∷ []) ∷ dg (37 ∷ 3 ∷ 1 ∷ 0 ∷ 26 ∷ []) ∷ dg (55 ∷ 3 ∷ 0 ∷ 0 ∷ 16 ∷ []) ∷ dg (66 ∷ 3 ∷ 2 ∷ 0 ∷ 37 ∷ []) ∷ [])
  pub parked : names_of (parked_of s4.config k4) ≡ ([])
  pub dropped : names_of (dropped_of s4.config k4) ≡ (dg (54 ∷ 3 ∷ 1 ∷ 0 ∷ 32 ∷ []) ∷ [])
  pub faulty : faulty_named s4 k4 ≡ ([])
  pub panorama : panorama_of s4.config k4 ≡ (Absent ∷ Absent ∷ Absent ∷ Correct (dg (29 ∷ 3 ∷ 3 ∷ 0 ∷ 42 ∷ [])) ∷ [])
  pub fork : name_of (fork_choice s4.config k4) ≡ Some (dg (55 ∷ 3 ∷ 0 ∷ 0 ∷ 16 ∷ []))
  pub decisions : decisions_of s4 j4 ≡ ([])
  pub culprits : culprits_of s4 j4 r4 ≡ ([])
  pub steps : (step s4 k4 2 42 (7 ∷ []) ∷ step s4 k4 1 48 (7 ∷ []) ∷ step s4 k4 0 48 (7 ∷ []) ∷ step s4 k4 2 48 (7 ∷ []) ∷ []) ≡ (Some (record { kind = kind.Witness; unit = record { instance = dg (0 ∷ 0 ∷ 0 ∷ 0 ∷ []); creator = 2; seq = 0; time = 42; exponent = 4; panorama = (Absent ∷ Absent ∷ Absent ∷ Correct (dg (29 ∷ 3 ∷ 3 ∷ 0 ∷ 42 ∷ [])) ∷ []); value = None; endorsed = ([]) } }) ∷ None ∷ None ∷ None ∷ [])

-- ---- case 5

abbrev s5 : Setting
s5 = named_by spread (record { weights = (3 ∷ 2 ∷ 4 ∷ []); ftt = 2; levels = 3; min_exponent = 5; max_exponent = 5; leaders = Table (0 ∷ 0 ∷ 0 ∷ []); max_records = 131072; max_parked = 4096; end = Some (1) })

abbrev u5_0 : WireUnit
u5_0 = record { instance = dg (0 ∷ 0 ∷ 0 ∷ 0 ∷ []); creator = 0; seq = 0; time = 32; exponent = 5; panorama = (Faulty ∷ Absent ∷ Absent ∷ []); value = Some ((55 ∷ 126 ∷ 245 ∷ 2 ∷ [])); endorsed = ([]) }

abbrev u5_1 : WireUnit
u5_1 = record { instance = dg (0 ∷ 0 ∷ 0 ∷ 0 ∷ []); creator = 0; seq = 0; time = 32; exponent = 5; panorama = (Absent ∷ Absent ∷ Absent ∷ []); value = Some ((55 ∷ 126 ∷ 245 ∷ 2 ∷ [])); endorsed = ([]) }

abbrev u5_2 : WireUnit
u5_2 = record { instance = dg (0 ∷ 0 ∷ 0 ∷ 0 ∷ []); creator = 0; seq = 0; time = 32; exponent = 5; panorama = (Absent ∷ Absent ∷ Absent ∷ []); value = Some ((0 ∷ 0 ∷ 0 ∷ 0 ∷ 0 ∷ 0 ∷ 0 ∷ 0 ∷ 0 ∷ 0 ∷ 0 ∷ 32 ∷ [])); endorsed = ([]) }

abbrev u5_3 : WireUnit
u5_3 = record { instance = dg (0 ∷ 0 ∷ 0 ∷ 0 ∷ []); creator = 0; seq = 1; time = 53; exponent = 5; panorama = (Correct (dg (31 ∷ 0 ∷ 0 ∷ 0 ∷ 32 ∷ [])) ∷ Absent ∷ Absent ∷ []); value = None; endorsed = ([]) }

abbrev u5_4 : WireUnit
u5_4 = record { instance = dg (0 ∷ 0 ∷ 0 ∷ 0 ∷ []); creator = 0; seq = 1; time = 53; exponent = 5; panorama = (Correct (dg (39 ∷ 0 ∷ 0 ∷ 0 ∷ 32 ∷ [])) ∷ Absent ∷ Absent ∷ []); value = None; endorsed = ([]) }

abbrev j5 : List Vertex
j5 = (sent_as [] u5_1 ∷ sent_as [] u5_2 ∷ sent_as [] u5_3 ∷ backs (dg (24 ∷ 0 ∷ 1 ∷ 0 ∷ 53 ∷ [])) 0 ∷ [])

abbrev r5 : List Vertex
r5 = (sent_as [] u5_1 ∷ sent_as [] u5_4 ∷ sent_as [] u5_2 ∷ backs (dg (24 ∷ 0 ∷ 1 ∷ 0 ∷ 53 ∷ [])) 0 ∷ [])

abbrev k5 : Received
k5 = received_of s5 j5

pub record RandomCase5 : Type 0 where
  pub answers : answers_from s5 [] ((sent_as [] u5_0, true) ∷ (sent_as [] u5_1, true) ∷ (sent_as [] u5_2, true) ∷ (sent_as [] u5_3, true) ∷ (sent_as [] u5_4, true) ∷ (both_as [] u5_1 [] u5_0, true) ∷ (backs (dg (24 ∷ 0 ∷ 1 ∷ 0 ∷ 53 ∷ [])) 0, true) ∷ (both_as [] u5_1 [] u5_1, true) ∷ []) ≡ (Err (cause.Local rule.FaultySelf) ∷ Ok (receipt.Admitted 1) ∷ Ok (receipt.Admitted 1) ∷ Ok (receipt.Admitted 1) ∷ Err (cause.Clash (dg (24 ∷ 0 ∷ 1 ∷ 0 ∷ 53 ∷ []))) ∷ Err (cause.Clash (dg (39 ∷ 0 ∷ 0 ∷ 0 ∷ 32 ∷ []))) ∷ Ok (receipt.Admitted 0) ∷ Err (cause.Pair fault.Same) ∷ [])
  pub kept : journal_of s5 ((sent_as [] u5_0, true) ∷ (sent_as [] u5_1, true) ∷ (sent_as [] u5_2, true) ∷ (sent_as [] u5_3, true) ∷ (sent_as [] u5_4, true) ∷ (both_as [] u5_1 [] u5_0, true) ∷ (backs (dg (24 ∷ 0 ∷ 1 ∷ 0 ∷ 53 ∷ [])) 0, true) ∷ (both_as [] u5_1 [] u5_1, true) ∷ []) ≡ j5
  pub settled : names_of (settled_of s5.config k5) ≡ (dg (24 ∷ 0 ∷ 1 ∷ 0 ∷ 53 ∷ []) ∷ dg (31 ∷ 0 ∷ 0 ∷ 0 ∷ 32 ∷ []) ∷ dg (39 ∷ 0 ∷ 0 ∷ 0 ∷ 32 ∷ []) ∷ [])
  pub parked : names_of (parked_of s5.config k5) ≡ ([])
  pub dropped : names_of (dropped_of s5.config k5) ≡ ([])
  pub faulty : faulty_named s5 k5 ≡ (0 ∷ [])
  pub panorama : panorama_of s5.config k5 ≡ (Faulty ∷ Absent ∷ Absent ∷ [])
  pub fork : name_of (fork_choice s5.config k5) ≡ None
  pub decisions : decisions_of s5 j5 ≡ ([])
  pub culprits : culprits_of s5 j5 r5 ≡ (0 ∷ [])
  pub pair0 : pair_of (shown_in_either s5 j5 r5) 0 ≡ Some (named s5 u5_2, named s5 u5_1)
  pub steps : (step s5 k5 0 54 (7 ∷ []) ∷ step s5 k5 0 53 (7 ∷ []) ∷ step s5 k5 2 54 (7 ∷ []) ∷ step s5 k5 0 64 (7 ∷ []) ∷ []) ≡ (None ∷ None ∷ None ∷ None ∷ [])

-- ---- case 6

abbrev s6 : Setting
s6 = named_by spread (record { weights = (1 ∷ []); ftt = 0; levels = 3; min_exponent = 4; max_exponent = 6; leaders = Table (0 ∷ 0 ∷ 0 ∷ []); max_records = 131072; max_parked = 4096; end = None })

abbrev u6_0 : WireUnit
u6_0 = record { instance = dg (0 ∷ 0 ∷ 0 ∷ 0 ∷ []); creator = 0; seq = 1; time = 28; exponent = 4; panorama = (Correct (dg (85 ∷ 0 ∷ 0 ∷ 0 ∷ 16 ∷ [])) ∷ []); value = None; endorsed = ([]) }

abbrev u6_1 : WireUnit
u6_1 = record { instance = dg (0 ∷ 0 ∷ 0 ∷ 0 ∷ []); creator = 0; seq = 3; time = 44; exponent = 4; panorama = (Correct (dg (36 ∷ 0 ∷ 2 ∷ 0 ∷ 32 ∷ [])) ∷ []); value = None; endorsed = ([]) }

abbrev u6_2 : WireUnit
u6_2 = record { instance = dg (0 ∷ 0 ∷ 0 ∷ 0 ∷ []); creator = 0; seq = 2; time = 32; exponent = 4; panorama = (Correct (dg (35 ∷ 0 ∷ 1 ∷ 0 ∷ 28 ∷ [])) ∷ []); value = Some ((0 ∷ 0 ∷ 0 ∷ 0 ∷ 0 ∷ 0 ∷ 0 ∷ 0 ∷ 0 ∷ 0 ∷ 0 ∷ 32 ∷ [])); endorsed = ([]) }

abbrev u6_3 : WireUnit
u6_3 = record { instance = dg (0 ∷ 0 ∷ 0 ∷ 0 ∷ []); creator = 0; seq = 5; time = 58; exponent = 4; panorama = (Correct (dg (44 ∷ 0 ∷ 4 ∷ 0 ∷ 48 ∷ [])) ∷ []); value = None; endorsed = ([]) }

abbrev u6_4 : WireUnit
u6_4 = record { instance = dg (0 ∷ 0 ∷ 0 ∷ 0 ∷ []); creator = 0; seq = 0; time = 16; exponent = 4; panorama = (Absent ∷ []); value = Some ((222 ∷ 130 ∷ 152 ∷ 219 ∷ 86 ∷ 89 ∷ 127 ∷ 228 ∷ 100 ∷ 209 ∷ 189 ∷ 228 ∷ 198 ∷ 68 ∷ 41 ∷ 152 ∷ 33 ∷ 124 ∷ [])); endorsed = ([]) }

abbrev u6_5 : WireUnit
u6_5 = record { instance = dg (0 ∷ 0 ∷ 0 ∷ 0 ∷ []); creator = 0; seq = 4; time = 48; exponent = 4; panorama = (Correct (dg (27 ∷ 0 ∷ 3 ∷ 0 ∷ 44 ∷ [])) ∷ []); value = Some ((0 ∷ 0 ∷ 0 ∷ 0 ∷ 0 ∷ 0 ∷ 0 ∷ 0 ∷ 0 ∷ 0 ∷ 0 ∷ 48 ∷ [])); endorsed = ([]) }

abbrev j6 : List Vertex
j6 = (sent_as [] u6_0 ∷ sent_as [] u6_1 ∷ sent_as [] u6_2 ∷ sent_as [] u6_3 ∷ sent_as [] u6_4 ∷ sent_as [] u6_5 ∷ [])

abbrev r6 : List Vertex
r6 = (sent_as [] u6_4 ∷ sent_as [] u6_2 ∷ sent_as [] u6_5 ∷ sent_as [] u6_3 ∷ sent_as [] u6_0 ∷ [])

abbrev k6 : Received
k6 = received_of s6 j6

pub record RandomCase6 : Type 0 where
  pub answers : answers_from s6 [] ((sent_as [] u6_0, true) ∷ (sent_as [] u6_1, true) ∷ (sent_as [] u6_2, true) ∷ (sent_as [] u6_3, true) ∷ (sent_as [] u6_4, true) ∷ (sent_as [] u6_5, true) ∷ []) ≡ (Ok (receipt.Parked 1) ∷ Ok (receipt.Parked 1) ∷ Ok (receipt.Parked 1) ∷ Ok (receipt.Parked 1) ∷ Ok (receipt.Admitted 4) ∷ Ok (receipt.Admitted 2) ∷ [])
  pub kept : journal_of s6 ((sent_as [] u6_0, true) ∷ (sent_as [] u6_1, true) ∷ (sent_as [] u6_2, true) ∷ (sent_as [] u6_3, true) ∷ (sent_as [] u6_4, true) ∷ (sent_as [] u6_5, true) ∷ []) ≡ j6
  pub settled : names_of (settled_of s6.config k6) ≡ (dg (27 ∷ 0 ∷ 3 ∷ 0 ∷ 44 ∷ []) ∷ dg (35 ∷ 0 ∷ 1 ∷ 0 ∷ 28 ∷ []) ∷ dg (36 ∷ 0 ∷ 2 ∷ 0 ∷ 32 ∷ []) ∷ dg (44 ∷ 0 ∷ 4 ∷ 0 ∷ 48 ∷ []) ∷ dg (85 ∷ 0 ∷ 0 ∷ 0 ∷ 16 ∷ []) ∷ dg (94 ∷ 0 ∷ 5 ∷ 0 ∷ 58 ∷ []) ∷ [])
  pub parked : names_of (parked_of s6.config k6) ≡ ([])
  pub dropped : names_of (dropped_of s6.config k6) ≡ ([])
  pub faulty : faulty_named s6 k6 ≡ ([])
  pub panorama : panorama_of s6.config k6 ≡ (Correct (dg (94 ∷ 0 ∷ 5 ∷ 0 ∷ 58 ∷ [])) ∷ [])
  pub fork : name_of (fork_choice s6.config k6) ≡ Some (dg (44 ∷ 0 ∷ 4 ∷ 0 ∷ 48 ∷ []))
  pub decisions : decisions_of s6 j6 ≡ (record { block = dg (85 ∷ 0 ∷ 0 ∷ 0 ∷ 16 ∷ []); height = 0; level = 1; quorum = 1; at = 5 } ∷ record { block = dg (36 ∷ 0 ∷ 2 ∷ 0 ∷ 32 ∷ []); height = 1; level = 1; quorum = 1; at = 5 } ∷ record { block = dg (44 ∷ 0 ∷ 4 ∷ 0 ∷ 48 ∷ []); height = 2; level = 1; quorum = 1; at = 6 } ∷ [])
  pub culprits : culprits_of s6 j6 r6 ≡ ([])
  pub steps : (step s6 k6 0 58 (7 ∷ []) ∷ step s6 k6 0 59 (7 ∷ []) ∷ step s6 k6 0 64 (7 ∷ []) ∷ []) ≡ (None ∷ None ∷ Some (record { kind = kind.Propose; unit = record { instance = dg (0 ∷ 0 ∷ 0 ∷ 0 ∷ []); creator = 0; seq = 6; time = 64; exponent = 4; panorama = (Correct (dg (94 ∷ 0 ∷ 5 ∷ 0 ∷ 58 ∷ [])) ∷ []); value = Some ((7 ∷ [])); endorsed = ([]) } }) ∷ [])

-- ---- case 7

abbrev s7 : Setting
s7 = named_by crowded (record { weights = (1 ∷ []); ftt = 0; levels = 2; min_exponent = 4; max_exponent = 8; leaders = Table (0 ∷ []); max_records = 131072; max_parked = 4096; end = Some (3) })

abbrev u7_0 : WireUnit
u7_0 = record { instance = dg (0 ∷ 0 ∷ 0 ∷ 0 ∷ []); creator = 0; seq = 3; time = 44; exponent = 4; panorama = (Correct (dg (1 ∷ 0 ∷ 0 ∷ 0 ∷ 0 ∷ [])) ∷ []); value = None; endorsed = ([]) }

abbrev u7_1 : WireUnit
u7_1 = record { instance = dg (0 ∷ 0 ∷ 0 ∷ 0 ∷ []); creator = 0; seq = 2; time = 32; exponent = 4; panorama = (Correct (dg (4 ∷ 0 ∷ 0 ∷ 0 ∷ 0 ∷ [])) ∷ []); value = Some ((22 ∷ 99 ∷ 36 ∷ 12 ∷ 126 ∷ 129 ∷ 122 ∷ 121 ∷ 230 ∷ 143 ∷ 7 ∷ 74 ∷ 245 ∷ 158 ∷ [])); endorsed = ([]) }

abbrev u7_2 : WireUnit
u7_2 = record { instance = dg (0 ∷ 0 ∷ 0 ∷ 0 ∷ []); creator = 0; seq = 1; time = 26; exponent = 4; panorama = (Correct (dg (2 ∷ 0 ∷ 0 ∷ 0 ∷ 0 ∷ [])) ∷ []); value = None; endorsed = ([]) }

abbrev u7_3 : WireUnit
u7_3 = record { instance = dg (0 ∷ 0 ∷ 0 ∷ 0 ∷ []); creator = 0; seq = 0; time = 16; exponent = 4; panorama = (Absent ∷ []); value = Some ((0 ∷ 0 ∷ 0 ∷ 0 ∷ 0 ∷ 0 ∷ 0 ∷ 0 ∷ 0 ∷ 0 ∷ 0 ∷ 16 ∷ [])); endorsed = ([]) }

abbrev j7 : List Vertex
j7 = (backs (dg (2 ∷ 0 ∷ 0 ∷ 0 ∷ 0 ∷ [])) 0 ∷ sent_as [] u7_0 ∷ sent_as [] u7_1 ∷ sent_as [] u7_2 ∷ [])

abbrev r7 : List Vertex
r7 = (sent_as [] u7_2 ∷ sent_as [] u7_0 ∷ backs (dg (2 ∷ 0 ∷ 0 ∷ 0 ∷ 0 ∷ [])) 0 ∷ sent_as [] u7_1 ∷ [])

abbrev k7 : Received
k7 = received_of s7 j7

pub record RandomCase7 : Type 0 where
  pub answers : answers_from s7 [] ((backs (dg (2 ∷ 0 ∷ 0 ∷ 0 ∷ 0 ∷ [])) 0, true) ∷ (sent_as [] u7_0, true) ∷ (sent_as [] u7_1, true) ∷ (sent_as [] u7_2, true) ∷ (sent_as [] u7_3, true) ∷ []) ≡ (Ok (receipt.Admitted 0) ∷ Ok (receipt.Parked 1) ∷ Ok (receipt.Parked 1) ∷ Ok (receipt.Parked 1) ∷ Err (cause.Clash (dg (2 ∷ 0 ∷ 0 ∷ 0 ∷ 0 ∷ []))) ∷ [])
  pub kept : journal_of s7 ((backs (dg (2 ∷ 0 ∷ 0 ∷ 0 ∷ 0 ∷ [])) 0, true) ∷ (sent_as [] u7_0, true) ∷ (sent_as [] u7_1, true) ∷ (sent_as [] u7_2, true) ∷ (sent_as [] u7_3, true) ∷ []) ≡ j7
  pub settled : names_of (settled_of s7.config k7) ≡ ([])
  pub parked : names_of (parked_of s7.config k7) ≡ (dg (1 ∷ 0 ∷ 0 ∷ 0 ∷ 0 ∷ []) ∷ dg (2 ∷ 0 ∷ 0 ∷ 0 ∷ 0 ∷ []) ∷ dg (4 ∷ 0 ∷ 0 ∷ 0 ∷ 0 ∷ []) ∷ [])
  pub dropped : names_of (dropped_of s7.config k7) ≡ ([])
  pub faulty : faulty_named s7 k7 ≡ ([])
  pub panorama : panorama_of s7.config k7 ≡ (Absent ∷ [])
  pub fork : name_of (fork_choice s7.config k7) ≡ None
  pub decisions : decisions_of s7 j7 ≡ ([])
  pub missing : map (missing_of s7.config k7 (settled_of s7.config k7)) (named s7 u7_0 ∷ named s7 u7_1 ∷ named s7 u7_2 ∷ []) ≡ ((need.Unit (dg (1 ∷ 0 ∷ 0 ∷ 0 ∷ 0 ∷ [])) ∷ []) ∷ (need.Unit (dg (4 ∷ 0 ∷ 0 ∷ 0 ∷ 0 ∷ [])) ∷ []) ∷ (need.Unit (dg (2 ∷ 0 ∷ 0 ∷ 0 ∷ 0 ∷ [])) ∷ []) ∷ [])
  pub culprits : culprits_of s7 j7 r7 ≡ ([])
  pub steps : (step s7 k7 0 48 (7 ∷ []) ∷ step s7 k7 0 45 (7 ∷ []) ∷ step s7 k7 0 42 (7 ∷ []) ∷ []) ≡ (Some (record { kind = kind.Propose; unit = record { instance = dg (0 ∷ 0 ∷ 0 ∷ 0 ∷ []); creator = 0; seq = 0; time = 48; exponent = 4; panorama = (Absent ∷ []); value = Some ((7 ∷ [])); endorsed = ([]) } }) ∷ None ∷ None ∷ [])

-- ---- case 8

abbrev s8 : Setting
s8 = named_by crowded (record { weights = (2 ∷ 2 ∷ 3 ∷ []); ftt = 2; levels = 3; min_exponent = 4; max_exponent = 4; leaders = Table (1 ∷ 1 ∷ 1 ∷ 1 ∷ []); max_records = 131072; max_parked = 4096; end = None })

abbrev u8_0 : WireUnit
u8_0 = record { instance = dg (0 ∷ 0 ∷ 0 ∷ 0 ∷ []); creator = 2; seq = 0; time = 28; exponent = 4; panorama = (Absent ∷ Absent ∷ Absent ∷ []); value = None; endorsed = ([]) }

abbrev u8_1 : WireUnit
u8_1 = record { instance = dg (0 ∷ 0 ∷ 0 ∷ 0 ∷ []); creator = 1; seq = 1; time = 27; exponent = 4; panorama = (Absent ∷ Correct (dg (2 ∷ 1 ∷ 0 ∷ 0 ∷ 0 ∷ [])) ∷ Absent ∷ []); value = None; endorsed = ([]) }

abbrev u8_2 : WireUnit
u8_2 = record { instance = dg (217 ∷ 41 ∷ 138 ∷ 16 ∷ 209 ∷ 176 ∷ 115 ∷ 88 ∷ 55 ∷ 220 ∷ 75 ∷ 216 ∷ 93 ∷ 172 ∷ 100 ∷ 27 ∷ 15 ∷ 60 ∷ 239 ∷ 39 ∷ 164 ∷ 126 ∷ 93 ∷ 83 ∷ 165 ∷ 79 ∷ 47 ∷ 63 ∷ 91 ∷ 47 ∷ 207 ∷ 250 ∷ []); creator = 1; seq = 1; time = 27; exponent = 4; panorama = (Absent ∷ Correct (dg (2 ∷ 1 ∷ 0 ∷ 0 ∷ 0 ∷ [])) ∷ Absent ∷ []); value = None; endorsed = ([]) }

abbrev u8_3 : WireUnit
u8_3 = record { instance = dg (0 ∷ 0 ∷ 0 ∷ 0 ∷ []); creator = 1; seq = 0; time = 16; exponent = 4; panorama = (Absent ∷ Absent ∷ Absent ∷ []); value = Some ((0 ∷ 0 ∷ 0 ∷ 1 ∷ 0 ∷ 0 ∷ 0 ∷ 0 ∷ 0 ∷ 0 ∷ 0 ∷ 16 ∷ [])); endorsed = ([]) }

abbrev j8 : List Vertex
j8 = (backs (dg (4 ∷ 1 ∷ 0 ∷ 0 ∷ 0 ∷ [])) 1 ∷ backs (dg (4 ∷ 1 ∷ 0 ∷ 0 ∷ 0 ∷ [])) 2 ∷ sent_as [] u8_1 ∷ sent_as [] u8_3 ∷ [])

abbrev r8 : List Vertex
r8 = (sent_as [] u8_3 ∷ sent_as [] u8_1 ∷ backs (dg (4 ∷ 1 ∷ 0 ∷ 0 ∷ 0 ∷ [])) 2 ∷ backs (dg (4 ∷ 1 ∷ 0 ∷ 0 ∷ 0 ∷ [])) 1 ∷ [])

abbrev k8 : Received
k8 = received_of s8 j8

pub record RandomCase8 : Type 0 where
  pub answers : answers_from s8 [] ((backs (dg (4 ∷ 1 ∷ 0 ∷ 0 ∷ 0 ∷ [])) 1, true) ∷ (backs (dg (4 ∷ 1 ∷ 0 ∷ 0 ∷ 0 ∷ [])) 2, true) ∷ (sent_as [] u8_0, true) ∷ (sent_as [] u8_1, true) ∷ (sent_as [] u8_2, true) ∷ (sent_as [] u8_3, true) ∷ []) ≡ (Ok (receipt.Admitted 0) ∷ Ok (receipt.Admitted 0) ∷ Err (cause.Local rule.NoBlock) ∷ Ok (receipt.Parked 1) ∷ Err (cause.Local rule.WrongInstance) ∷ Ok (receipt.Admitted 2) ∷ [])
  pub kept : journal_of s8 ((backs (dg (4 ∷ 1 ∷ 0 ∷ 0 ∷ 0 ∷ [])) 1, true) ∷ (backs (dg (4 ∷ 1 ∷ 0 ∷ 0 ∷ 0 ∷ [])) 2, true) ∷ (sent_as [] u8_0, true) ∷ (sent_as [] u8_1, true) ∷ (sent_as [] u8_2, true) ∷ (sent_as [] u8_3, true) ∷ []) ≡ j8
  pub settled : names_of (settled_of s8.config k8) ≡ (dg (2 ∷ 1 ∷ 0 ∷ 0 ∷ 0 ∷ []) ∷ dg (4 ∷ 1 ∷ 0 ∷ 0 ∷ 0 ∷ []) ∷ [])
  pub parked : names_of (parked_of s8.config k8) ≡ ([])
  pub dropped : names_of (dropped_of s8.config k8) ≡ ([])
  pub faulty : faulty_named s8 k8 ≡ ([])
  pub panorama : panorama_of s8.config k8 ≡ (Absent ∷ Correct (dg (4 ∷ 1 ∷ 0 ∷ 0 ∷ 0 ∷ [])) ∷ Absent ∷ [])
  pub fork : name_of (fork_choice s8.config k8) ≡ Some (dg (2 ∷ 1 ∷ 0 ∷ 0 ∷ 0 ∷ []))
  pub decisions : decisions_of s8 j8 ≡ ([])
  pub culprits : culprits_of s8 j8 r8 ≡ ([])
  pub steps : (step s8 k8 1 28 (7 ∷ []) ∷ step s8 k8 2 28 (7 ∷ []) ∷ step s8 k8 1 32 (7 ∷ []) ∷ step s8 k8 2 32 (7 ∷ []) ∷ []) ≡ (None ∷ Some (record { kind = kind.Witness; unit = record { instance = dg (0 ∷ 0 ∷ 0 ∷ 0 ∷ []); creator = 2; seq = 0; time = 28; exponent = 4; panorama = (Absent ∷ Correct (dg (4 ∷ 1 ∷ 0 ∷ 0 ∷ 0 ∷ [])) ∷ Absent ∷ []); value = None; endorsed = (dg (4 ∷ 1 ∷ 0 ∷ 0 ∷ 0 ∷ []) ∷ []) } }) ∷ Some (record { kind = kind.Propose; unit = record { instance = dg (0 ∷ 0 ∷ 0 ∷ 0 ∷ []); creator = 1; seq = 2; time = 32; exponent = 4; panorama = (Absent ∷ Correct (dg (4 ∷ 1 ∷ 0 ∷ 0 ∷ 0 ∷ [])) ∷ Absent ∷ []); value = Some ((7 ∷ [])); endorsed = (dg (4 ∷ 1 ∷ 0 ∷ 0 ∷ 0 ∷ []) ∷ []) } }) ∷ None ∷ [])

-- ---- case 9

abbrev s9 : Setting
s9 = named_by spread (record { weights = (1 ∷ []); ftt = 0; levels = 3; min_exponent = 4; max_exponent = 8; leaders = Table (0 ∷ 0 ∷ 0 ∷ 0 ∷ []); max_records = 131072; max_parked = 1; end = Some (1) })

abbrev u9_0 : WireUnit
u9_0 = record { instance = dg (0 ∷ 0 ∷ 0 ∷ 0 ∷ []); creator = 0; seq = 0; time = 32; exponent = 4; panorama = (Absent ∷ []); value = Some ((0 ∷ 0 ∷ 0 ∷ 0 ∷ 0 ∷ 0 ∷ 0 ∷ 0 ∷ 0 ∷ 0 ∷ 0 ∷ 32 ∷ [])); endorsed = ([]) }

abbrev u9_1 : WireUnit
u9_1 = record { instance = dg (0 ∷ 0 ∷ 0 ∷ 0 ∷ []); creator = 0; seq = 1; time = 31; exponent = 4; panorama = (Correct (dg (26 ∷ 0 ∷ 0 ∷ 0 ∷ 32 ∷ [])) ∷ []); value = None; endorsed = ([]) }

abbrev u9_2 : WireUnit
u9_2 = record { instance = dg (0 ∷ 0 ∷ 0 ∷ 0 ∷ []); creator = 0; seq = 1; time = 44; exponent = 4; panorama = (Correct (dg (26 ∷ 0 ∷ 0 ∷ 0 ∷ 32 ∷ [])) ∷ []); value = None; endorsed = ([]) }

abbrev u9_3 : WireUnit
u9_3 = record { instance = dg (217 ∷ 41 ∷ 138 ∷ 16 ∷ 209 ∷ 176 ∷ 115 ∷ 88 ∷ 55 ∷ 220 ∷ 75 ∷ 216 ∷ 93 ∷ 172 ∷ 100 ∷ 27 ∷ 15 ∷ 60 ∷ 239 ∷ 39 ∷ 164 ∷ 126 ∷ 93 ∷ 83 ∷ 165 ∷ 79 ∷ 47 ∷ 63 ∷ 91 ∷ 47 ∷ 207 ∷ 250 ∷ []); creator = 0; seq = 1; time = 31; exponent = 4; panorama = (Correct (dg (26 ∷ 0 ∷ 0 ∷ 0 ∷ 32 ∷ [])) ∷ []); value = None; endorsed = ([]) }

abbrev u9_4 : WireUnit
u9_4 = record { instance = dg (0 ∷ 0 ∷ 0 ∷ 0 ∷ []); creator = 0; seq = 1; time = 45; exponent = 4; panorama = (Correct (dg (26 ∷ 0 ∷ 0 ∷ 0 ∷ 32 ∷ [])) ∷ []); value = None; endorsed = ([]) }

abbrev j9 : List Vertex
j9 = (sent_as [] u9_0 ∷ sent_as [] u9_1 ∷ sent_as [] u9_2 ∷ backs (dg (26 ∷ 0 ∷ 0 ∷ 0 ∷ 32 ∷ [])) 0 ∷ both_as [] u9_2 [] u9_4 ∷ [])

abbrev r9 : List Vertex
r9 = (sent_as [] u9_0 ∷ both_as [] u9_2 [] u9_4 ∷ backs (dg (26 ∷ 0 ∷ 0 ∷ 0 ∷ 32 ∷ [])) 0 ∷ sent_as [] u9_2 ∷ sent_as [] u9_1 ∷ [])

abbrev k9 : Received
k9 = received_of s9 j9

pub record RandomCase9 : Type 0 where
  pub answers : answers_from s9 [] ((sent_as [] u9_0, true) ∷ (sent_as [] u9_1, true) ∷ (sent_as [] u9_2, true) ∷ (both_as [] u9_1 [] u9_3, true) ∷ (backs (dg (26 ∷ 0 ∷ 0 ∷ 0 ∷ 32 ∷ [])) 0, true) ∷ (backs (dg (26 ∷ 0 ∷ 0 ∷ 0 ∷ 32 ∷ [])) 0, true) ∷ (both_as [] u9_2 [] u9_4, true) ∷ []) ≡ (Ok (receipt.Admitted 1) ∷ Ok (receipt.Dropped rule.TimeGoesBack) ∷ Ok (receipt.Admitted 1) ∷ Err (cause.Pair fault.Instance) ∷ Ok (receipt.Admitted 0) ∷ Ok receipt.Repeat ∷ Ok (receipt.Admitted 0) ∷ [])
  pub kept : journal_of s9 ((sent_as [] u9_0, true) ∷ (sent_as [] u9_1, true) ∷ (sent_as [] u9_2, true) ∷ (both_as [] u9_1 [] u9_3, true) ∷ (backs (dg (26 ∷ 0 ∷ 0 ∷ 0 ∷ 32 ∷ [])) 0, true) ∷ (backs (dg (26 ∷ 0 ∷ 0 ∷ 0 ∷ 32 ∷ [])) 0, true) ∷ (both_as [] u9_2 [] u9_4, true) ∷ []) ≡ j9
  pub settled : names_of (settled_of s9.config k9) ≡ (dg (17 ∷ 0 ∷ 1 ∷ 0 ∷ 44 ∷ []) ∷ dg (26 ∷ 0 ∷ 0 ∷ 0 ∷ 32 ∷ []) ∷ [])
  pub parked : names_of (parked_of s9.config k9) ≡ ([])
  pub dropped : names_of (dropped_of s9.config k9) ≡ (dg (68 ∷ 0 ∷ 1 ∷ 0 ∷ 31 ∷ []) ∷ [])
  pub faulty : faulty_named s9 k9 ≡ (0 ∷ [])
  pub panorama : panorama_of s9.config k9 ≡ (Faulty ∷ [])
  pub fork : name_of (fork_choice s9.config k9) ≡ None
  pub decisions : decisions_of s9 j9 ≡ (record { block = dg (26 ∷ 0 ∷ 0 ∷ 0 ∷ 32 ∷ []); height = 0; level = 1; quorum = 1; at = 3 } ∷ [])
  pub culprits : culprits_of s9 j9 r9 ≡ (0 ∷ [])
  pub pair0 : pair_of (shown_in_either s9 j9 r9) 0 ≡ Some (named s9 u9_2, named s9 u9_4)
  pub steps : (step s9 k9 0 48 (7 ∷ []) ∷ step s9 k9 0 45 (7 ∷ []) ∷ step s9 k9 0 42 (7 ∷ []) ∷ []) ≡ (None ∷ None ∷ None ∷ [])

-- ---- case 10

abbrev s10 : Setting
s10 = named_by spread (record { weights = (1 ∷ []); ftt = 0; levels = 3; min_exponent = 4; max_exponent = 5; leaders = Table (0 ∷ 0 ∷ 0 ∷ 0 ∷ []); max_records = 1; max_parked = 4096; end = None })

abbrev u10_0 : WireUnit
u10_0 = record { instance = dg (0 ∷ 0 ∷ 0 ∷ 0 ∷ []); creator = 0; seq = 0; time = 16; exponent = 4; panorama = (Absent ∷ []); value = Some ((0 ∷ 0 ∷ 0 ∷ 0 ∷ 0 ∷ 0 ∷ 0 ∷ 0 ∷ 0 ∷ 0 ∷ 0 ∷ 16 ∷ [])); endorsed = ([]) }

abbrev u10_1 : WireUnit
u10_1 = record { instance = dg (0 ∷ 0 ∷ 0 ∷ 0 ∷ []); creator = 0; seq = 1; time = 27; exponent = 4; panorama = (Correct (dg (28 ∷ 0 ∷ 0 ∷ 0 ∷ 16 ∷ [])) ∷ []); value = None; endorsed = ([]) }

abbrev j10 : List Vertex
j10 = (sent_as [] u10_0 ∷ [])

abbrev r10 : List Vertex
r10 = (sent_as [] u10_0 ∷ [])

abbrev k10 : Received
k10 = received_of s10 j10

pub record RandomCase10 : Type 0 where
  pub answers : answers_from s10 [] ((sent_as [] u10_0, true) ∷ (sent_as [] u10_1, true) ∷ (sent_as [] u10_1, true) ∷ (backs (dg (28 ∷ 0 ∷ 0 ∷ 0 ∷ 16 ∷ [])) 0, true) ∷ (backs (dg (24 ∷ 0 ∷ 1 ∷ 0 ∷ 27 ∷ [])) 0, true) ∷ (backs (dg (28 ∷ 0 ∷ 0 ∷ 0 ∷ 16 ∷ [])) 0, true) ∷ []) ≡ (Ok (receipt.Admitted 1) ∷ Err cause.RecordsFull ∷ Err cause.RecordsFull ∷ Err cause.RecordsFull ∷ Err cause.RecordsFull ∷ Err cause.RecordsFull ∷ [])
  pub kept : journal_of s10 ((sent_as [] u10_0, true) ∷ (sent_as [] u10_1, true) ∷ (sent_as [] u10_1, true) ∷ (backs (dg (28 ∷ 0 ∷ 0 ∷ 0 ∷ 16 ∷ [])) 0, true) ∷ (backs (dg (24 ∷ 0 ∷ 1 ∷ 0 ∷ 27 ∷ [])) 0, true) ∷ (backs (dg (28 ∷ 0 ∷ 0 ∷ 0 ∷ 16 ∷ [])) 0, true) ∷ []) ≡ j10
  pub settled : names_of (settled_of s10.config k10) ≡ (dg (28 ∷ 0 ∷ 0 ∷ 0 ∷ 16 ∷ []) ∷ [])
  pub parked : names_of (parked_of s10.config k10) ≡ ([])
  pub dropped : names_of (dropped_of s10.config k10) ≡ ([])
  pub faulty : faulty_named s10 k10 ≡ ([])
  pub panorama : panorama_of s10.config k10 ≡ (Correct (dg (28 ∷ 0 ∷ 0 ∷ 0 ∷ 16 ∷ [])) ∷ [])
  pub fork : name_of (fork_choice s10.config k10) ≡ Some (dg (28 ∷ 0 ∷ 0 ∷ 0 ∷ 16 ∷ []))
  pub decisions : decisions_of s10 j10 ≡ ([])
  pub culprits : culprits_of s10 j10 r10 ≡ ([])
  pub steps : (step s10 k10 0 17 (7 ∷ []) ∷ step s10 k10 0 32 (7 ∷ []) ∷ step s10 k10 0 26 (7 ∷ []) ∷ []) ≡ (None ∷ Some (record { kind = kind.Propose; unit = record { instance = dg (0 ∷ 0 ∷ 0 ∷ 0 ∷ []); creator = 0; seq = 1; time = 32; exponent = 4; panorama = (Correct (dg (28 ∷ 0 ∷ 0 ∷ 0 ∷ 16 ∷ [])) ∷ []); value = Some ((7 ∷ [])); endorsed = ([]) } }) ∷ Some (record { kind = kind.Witness; unit = record { instance = dg (0 ∷ 0 ∷ 0 ∷ 0 ∷ []); creator = 0; seq = 1; time = 26; exponent = 4; panorama = (Correct (dg (28 ∷ 0 ∷ 0 ∷ 0 ∷ 16 ∷ [])) ∷ []); value = None; endorsed = ([]) } }) ∷ [])

-- All of them.
pub record RandomCases1 : Type 0 where
  pub case1 : RandomCase1
  pub case2 : RandomCase2
  pub case3 : RandomCase3
  pub case4 : RandomCase4
  pub case5 : RandomCase5
  pub case6 : RandomCase6
  pub case7 : RandomCase7
  pub case8 : RandomCase8
  pub case9 : RandomCase9
  pub case10 : RandomCase10
