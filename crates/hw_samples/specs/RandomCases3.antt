-- Random journals with evidence, endorsements and refusals, and what they say.
-- The values are those of another reading of the definitions, written apart from them. The program that drew these
-- journals and wrote this isn't kept.
use Rattle.std.specs.Prelude.{◌≡◌, true, false, List, [], ◌∷◌, map, Some, None, Ok, Err}
use Rattle.hw_types.specs.declared.unit.Obs.TheVariants.{Absent, Correct, Faulty}
use Rattle.hw_types.specs.declared.unit.WireUnit.{WireUnit}
use Rattle.hw_types.specs.declared.unit.Vertex.{Vertex}
use Rattle.hw_types.specs.declared.unit.Need.TheVariants as need
use Rattle.hw_types.specs.declared.config.Leaders.TheVariants.{Table}
use Rattle.hw_types.specs.declared.answers.Receipt.TheVariants as receipt
use Rattle.hw_types.specs.declared.answers.Cause.TheVariants as cause
use Rattle.hw_types.specs.declared.answers.Rule.TheVariants as rule
use Rattle.hw_types.specs.declared.answers.PairFault.TheVariants as fault
use Rattle.hw_types.specs.declared.answers.PlanKind.TheVariants as kind
use Rattle.hw_types.specs.Settled.{Received, settled_of, parked_of, dropped_of, missing_of, panorama_of, fork_choice}
use Rattle.hw_types.specs.Journal.{Setting, named, received_of, journal_of, answers_from}
use Rattle.hw_types.specs.Step.{step}
use Rattle.hw_types.specs.Culprits.{culprits_of, pair_of, shown_in_either}
use Rattle.hw_safety.specs.Decided.{decisions_of}
use Rattle.hw_samples.specs.Words.{names_of, name_of}
use Rattle.hw_samples.specs.JournalWords.{dg, sent_as, both_as, backs, named_by}
use Rattle.hw_samples.specs.CaseWords.{spread, crowded, faulty_named}

-- ---- case 21

abbrev s21 : Setting
s21 = named_by crowded (record { weights = (1 ∷ 1 ∷ 1 ∷ []); ftt = 0; levels = 5; min_exponent = 4; max_exponent = 8; leaders = Table (2 ∷ 1 ∷ 1 ∷ 1 ∷ 0 ∷ []); max_records = 131072; max_parked = 4096; end = Some (2) })

abbrev u21_0 : WireUnit
u21_0 = record { instance = dg (0 ∷ 0 ∷ 0 ∷ 0 ∷ []); creator = 1; seq = 0; time = 16; exponent = 4; panorama = (Absent ∷ Absent ∷ Absent ∷ []); value = Some ((0 ∷ 0 ∷ 0 ∷ 1 ∷ 0 ∷ 0 ∷ 0 ∷ 0 ∷ 0 ∷ 0 ∷ 0 ∷ 16 ∷ [])); endorsed = ([]) }

abbrev u21_1 : WireUnit
u21_1 = record { instance = dg (0 ∷ 0 ∷ 0 ∷ 0 ∷ []); creator = 0; seq = 0; time = 20; exponent = 4; panorama = (Absent ∷ Correct (dg (2 ∷ 1 ∷ 0 ∷ 0 ∷ 0 ∷ [])) ∷ Absent ∷ []); value = None; endorsed = ([]) }

abbrev u21_2 : WireUnit
u21_2 = record { instance = dg (0 ∷ 0 ∷ 0 ∷ 0 ∷ []); creator = 2; seq = 0; time = 21; exponent = 4; panorama = (Correct (dg (0 ∷ 0 ∷ 0 ∷ 0 ∷ 0 ∷ [])) ∷ Correct (dg (2 ∷ 1 ∷ 0 ∷ 0 ∷ 0 ∷ [])) ∷ Absent ∷ []); value = None; endorsed = ([]) }

abbrev u21_3 : WireUnit
u21_3 = record { instance = dg (0 ∷ 0 ∷ 0 ∷ 0 ∷ []); creator = 1; seq = 1; time = 28; exponent = 6; panorama = (Correct (dg (0 ∷ 0 ∷ 0 ∷ 0 ∷ 0 ∷ [])) ∷ Correct (dg (2 ∷ 1 ∷ 0 ∷ 0 ∷ 0 ∷ [])) ∷ Correct (dg (0 ∷ 2 ∷ 0 ∷ 0 ∷ 0 ∷ [])) ∷ []); value = None; endorsed = ([]) }

abbrev u21_4 : WireUnit
u21_4 = record { instance = dg (0 ∷ 0 ∷ 0 ∷ 0 ∷ []); creator = 0; seq = 1; time = 28; exponent = 4; panorama = (Correct (dg (0 ∷ 0 ∷ 0 ∷ 0 ∷ 0 ∷ [])) ∷ Correct (dg (2 ∷ 1 ∷ 0 ∷ 0 ∷ 0 ∷ [])) ∷ Correct (dg (0 ∷ 2 ∷ 0 ∷ 0 ∷ 0 ∷ [])) ∷ []); value = None; endorsed = ([]) }

abbrev u21_5 : WireUnit
u21_5 = record { instance = dg (0 ∷ 0 ∷ 0 ∷ 0 ∷ []); creator = 2; seq = 1; time = 28; exponent = 4; panorama = (Correct (dg (3 ∷ 0 ∷ 0 ∷ 0 ∷ 0 ∷ [])) ∷ Correct (dg (2 ∷ 1 ∷ 0 ∷ 0 ∷ 0 ∷ [])) ∷ Correct (dg (0 ∷ 2 ∷ 0 ∷ 0 ∷ 0 ∷ [])) ∷ []); value = None; endorsed = ([]) }

abbrev j21 : List Vertex
j21 = (sent_as [] u21_0 ∷ sent_as [] u21_1 ∷ sent_as [] u21_2 ∷ sent_as [] u21_3 ∷ sent_as [] u21_4 ∷ sent_as [] u21_5 ∷ [])

abbrev r21 : List Vertex
r21 = (sent_as [] u21_1 ∷ sent_as [] u21_3 ∷ sent_as [] u21_0 ∷ sent_as [] u21_5 ∷ sent_as [] u21_4 ∷ [])

abbrev k21 : Received
k21 = received_of s21 j21

pub record RandomCase21 : Type 0 where
  pub answers : answers_from s21 [] ((sent_as [] u21_0, true) ∷ (sent_as [] u21_1, true) ∷ (sent_as [] u21_2, true) ∷ (sent_as [] u21_3, true) ∷ (sent_as [] u21_4, true) ∷ (sent_as [] u21_5, true) ∷ []) ≡ (Ok (receipt.Admitted 1) ∷ Ok (receipt.Admitted 1) ∷ Ok (receipt.Admitted 1) ∷ Ok (receipt.Dropped rule.RoundChange) ∷ Ok (receipt.Admitted 1) ∷ Ok (receipt.Admitted 1) ∷ [])
  pub kept : journal_of s21 ((sent_as [] u21_0, true) ∷ (sent_as [] u21_1, true) ∷ (sent_as [] u21_2, true) ∷ (sent_as [] u21_3, true) ∷ (sent_as [] u21_4, true) ∷ (sent_as [] u21_5, true) ∷ []) ≡ j21
  pub settled : names_of (settled_of s21.config k21) ≡ (dg (0 ∷ 0 ∷ 0 ∷ 0 ∷ 0 ∷ []) ∷ dg (0 ∷ 2 ∷ 0 ∷ 0 ∷ 0 ∷ []) ∷ dg (2 ∷ 1 ∷ 0 ∷ 0 ∷ 0 ∷ []) ∷ dg (2 ∷ 2 ∷ 0 ∷ 0 ∷ 0 ∷ []) ∷ dg (3 ∷ 0 ∷ 0 ∷ 0 ∷ 0 ∷ []) ∷ [])
  pub parked : names_of (parked_of s21.config k21) ≡ ([])
  pub dropped : names_of (dropped_of s21.config k21) ≡ (dg (1 ∷ 1 ∷ 0 ∷ 0 ∷ 0 ∷ []) ∷ [])
  pub faulty : faulty_named s21 k21 ≡ ([])
  pub panorama : panorama_of s21.config k21 ≡ (Correct (dg (3 ∷ 0 ∷ 0 ∷ 0 ∷ 0 ∷ [])) ∷ Correct (dg (2 ∷ 1 ∷ 0 ∷ 0 ∷ 0 ∷ [])) ∷ Correct (dg (2 ∷ 2 ∷ 0 ∷ 0 ∷ 0 ∷ [])) ∷ [])
  pub fork : name_of (fork_choice s21.config k21) ≡ Some (dg (2 ∷ 1 ∷ 0 ∷ 0 ∷ 0 ∷ []))
  pub decisions : decisions_of s21 j21 ≡ (record { block = dg (2 ∷ 1 ∷ 0 ∷ 0 ∷ 0 ∷ []); height = 0; level = 1; quorum = 2; at = 6 } ∷ [])
  pub culprits : culprits_of s21 j21 r21 ≡ ([])
  pub steps : (step s21 k21 2 26 (7 ∷ []) ∷ step s21 k21 1 29 (7 ∷ []) ∷ step s21 k21 0 29 (7 ∷ []) ∷ step s21 k21 1 32 (7 ∷ []) ∷ []) ≡ (None ∷ Some (record { kind = kind.Witness; unit = record { instance = dg (0 ∷ 0 ∷ 0 ∷ 0 ∷ []); creator = 1; seq = 1; time = 29; exponent = 4; panorama = (Correct (dg (3 ∷ 0 ∷ 0 ∷ 0 ∷ 0 ∷ [])) ∷ Correct (dg (2 ∷ 1 ∷ 0 ∷ 0 ∷ 0 ∷ [])) ∷ Correct (dg (2 ∷ 2 ∷ 0 ∷ 0 ∷ 0 ∷ [])) ∷ []); value = None; endorsed = ([]) } }) ∷ None ∷ Some (record { kind = kind.Propose; unit = record { instance = dg (0 ∷ 0 ∷ 0 ∷ 0 ∷ []); creator = 1; seq = 1; time = 32; exponent = 4; panorama = (Correct (dg (3 ∷ 0 ∷ 0 ∷ 0 ∷ 0 ∷ [])) ∷ Correct (dg (2 ∷ 1 ∷ 0 ∷ 0 ∷ 0 ∷ [])) ∷ Correct (dg (2 ∷ 2 ∷ 0 ∷ 0 ∷ 0 ∷ [])) ∷ []); value = Some ((7 ∷ [])); endorsed = ([]) } }) ∷ [])

-- ---- case 22

abbrev s22 : Setting
s22 = named_by spread (record { weights = (2 ∷ 2 ∷ []); ftt = 1; levels = 2; min_exponent = 4; max_exponent = 5; leaders = Table (0 ∷ 1 ∷ 1 ∷ 1 ∷ 1 ∷ []); max_records = 131072; max_parked = 4096; end = None })

abbrev u22_0 : WireUnit
u22_0 = record { instance = dg (0 ∷ 0 ∷ 0 ∷ 0 ∷ []); creator = 1; seq = 3; time = 44; exponent = 4; panorama = (Absent ∷ Correct (dg (45 ∷ 1 ∷ 2 ∷ 0 ∷ 32 ∷ [])) ∷ []); value = None; endorsed = ([]) }

abbrev u22_1 : WireUnit
u22_1 = record { instance = dg (0 ∷ 0 ∷ 0 ∷ 0 ∷ []); creator = 1; seq = 3; time = 44; exponent = 5; panorama = (Absent ∷ Correct (dg (45 ∷ 1 ∷ 2 ∷ 0 ∷ 32 ∷ [])) ∷ []); value = None; endorsed = ([]) }

abbrev u22_2 : WireUnit
u22_2 = record { instance = dg (0 ∷ 0 ∷ 0 ∷ 0 ∷ []); creator = 1; seq = 2; time = 32; exponent = 4; panorama = (Absent ∷ Correct (dg (43 ∷ 1 ∷ 1 ∷ 0 ∷ 28 ∷ [])) ∷ []); value = Some ((0 ∷ 0 ∷ 0 ∷ 1 ∷ 0 ∷ 0 ∷ 0 ∷ 0 ∷ 0 ∷ 0 ∷ 0 ∷ 32 ∷ [])); endorsed = ([]) }

abbrev u22_3 : WireUnit
u22_3 = record { instance = dg (0 ∷ 0 ∷ 0 ∷ 0 ∷ []); creator = 1; seq = 1; time = 28; exponent = 4; panorama = (Absent ∷ Correct (dg (37 ∷ 1 ∷ 0 ∷ 0 ∷ 16 ∷ [])) ∷ []); value = None; endorsed = ([]) }

abbrev u22_4 : WireUnit
u22_4 = record { instance = dg (0 ∷ 0 ∷ 0 ∷ 0 ∷ []); creator = 1; seq = 0; time = 16; exponent = 4; panorama = (Absent ∷ Absent ∷ []); value = Some ((0 ∷ 0 ∷ 0 ∷ 1 ∷ 0 ∷ 0 ∷ 0 ∷ 0 ∷ 0 ∷ 0 ∷ 0 ∷ 16 ∷ [])); endorsed = ([]) }

abbrev j22 : List Vertex
j22 = (sent_as [] u22_0 ∷ sent_as [] u22_2 ∷ sent_as [] u22_3 ∷ sent_as [] u22_4 ∷ [])

abbrev r22 : List Vertex
r22 = ([])

abbrev k22 : Received
k22 = received_of s22 j22

pub record RandomCase22 : Type 0 where
  pub answers : answers_from s22 [] ((sent_as [] u22_0, true) ∷ (sent_as [] u22_1, false) ∷ (sent_as [] u22_2, true) ∷ (sent_as [] u22_3, true) ∷ (sent_as [] u22_4, true) ∷ []) ≡ (Ok (receipt.Parked 1) ∷ Err cause.BadSignature ∷ Ok (receipt.Parked 1) ∷ Ok (receipt.Parked 1) ∷ Ok (receipt.Admitted 4) ∷ [])
  pub kept : journal_of s22 ((sent_as [] u22_0, true) ∷ (sent_as [] u22_1, false) ∷ (sent_as [] u22_2, true) ∷ (sent_as [] u22_3, true) ∷ (sent_as [] u22_4, true) ∷ []) ≡ j22
  pub settled : names_of (settled_of s22.config k22) ≡ (dg (35 ∷ 1 ∷ 3 ∷ 0 ∷ 44 ∷ []) ∷ dg (37 ∷ 1 ∷ 0 ∷ 0 ∷ 16 ∷ []) ∷ dg (43 ∷ 1 ∷ 1 ∷ 0 ∷ 28 ∷ []) ∷ dg (45 ∷ 1 ∷ 2 ∷ 0 ∷ 32 ∷ []) ∷ [])
  pub parked : names_of (parked_of s22.config k22) ≡ ([])
  pub dropped : names_of (dropped_of s22.config k22) ≡ ([])
  pub faulty : faulty_named s22 k22 ≡ ([])
  pub panorama : panorama_of s22.config k22 ≡ (Absent ∷ Correct (dg (35 ∷ 1 ∷ 3 ∷ 0 ∷ 44 ∷ [])) ∷ [])
  pub fork : name_of (fork_choice s22.config k22) ≡ Some (dg (45 ∷ 1 ∷ 2 ∷ 0 ∷ 32 ∷ []))
  pub decisions : decisions_of s22 j22 ≡ ([])
  pub culprits : culprits_of s22 j22 r22 ≡ ([])
  pub steps : (step s22 k22 0 48 (7 ∷ []) ∷ step s22 k22 0 42 (7 ∷ []) ∷ step s22 k22 1 48 (7 ∷ []) ∷ step s22 k22 0 45 (7 ∷ []) ∷ []) ≡ (None ∷ None ∷ Some (record { kind = kind.Propose; unit = record { instance = dg (0 ∷ 0 ∷ 0 ∷ 0 ∷ []); creator = 1; seq = 4; time = 48; exponent = 4; panorama = (Absent ∷ Correct (dg (35 ∷ 1 ∷ 3 ∷ 0 ∷ 44 ∷ [])) ∷ []); value = Some ((7 ∷ [])); endorsed = ([]) } }) ∷ Some (record { kind = kind.Witness; unit = record { instance = dg (0 ∷ 0 ∷ 0 ∷ 0 ∷ []); creator = 0; seq = 0; time = 45; exponent = 4; panorama = (Absent ∷ Correct (dg (35 ∷ 1 ∷ 3 ∷ 0 ∷ 44 ∷ [])) ∷ []); value = None; endorsed = ([]) } }) ∷ [])

-- ---- case 23

abbrev s23 : Setting
s23 = named_by spread (record { weights = (1 ∷ []); ftt = 0; levels = 3; min_exponent = 4; max_exponent = 4; leaders = Table (0 ∷ 0 ∷ 0 ∷ 0 ∷ 0 ∷ 0 ∷ []); max_records = 131072; max_parked = 4096; end = None })

abbrev u23_0 : WireUnit
u23_0 = record { instance = dg (0 ∷ 0 ∷ 0 ∷ 0 ∷ []); creator = 0; seq = 0; time = 16; exponent = 4; panorama = (Absent ∷ []); value = Some ((52 ∷ 239 ∷ 227 ∷ 127 ∷ 81 ∷ 164 ∷ 31 ∷ 167 ∷ 140 ∷ 67 ∷ 63 ∷ 199 ∷ 15 ∷ 148 ∷ 74 ∷ 17 ∷ 41 ∷ 250 ∷ 15 ∷ 87 ∷ [])); endorsed = ([]) }

abbrev u23_1 : WireUnit
u23_1 = record { instance = dg (0 ∷ 0 ∷ 0 ∷ 0 ∷ []); creator = 0; seq = 1; time = 32; exponent = 4; panorama = (Correct (dg (82 ∷ 0 ∷ 0 ∷ 0 ∷ 16 ∷ [])) ∷ []); value = Some ((75 ∷ [])); endorsed = ([]) }

abbrev u23_2 : WireUnit
u23_2 = record { instance = dg (0 ∷ 0 ∷ 0 ∷ 0 ∷ []); creator = 0; seq = 2; time = 42; exponent = 4; panorama = (Correct (dg (74 ∷ 0 ∷ 1 ∷ 0 ∷ 32 ∷ [])) ∷ []); value = None; endorsed = (dg (32 ∷ 174 ∷ 255 ∷ 4 ∷ 148 ∷ 232 ∷ 40 ∷ 209 ∷ 136 ∷ 199 ∷ 4 ∷ 225 ∷ 244 ∷ 136 ∷ 165 ∷ 137 ∷ 177 ∷ 90 ∷ 224 ∷ 29 ∷ 17 ∷ 246 ∷ 203 ∷ 18 ∷ 159 ∷ 98 ∷ 18 ∷ 156 ∷ 170 ∷ 108 ∷ 197 ∷ 67 ∷ []) ∷ []) }

abbrev u23_3 : WireUnit
u23_3 = record { instance = dg (0 ∷ 0 ∷ 0 ∷ 0 ∷ []); creator = 0; seq = 2; time = 42; exponent = 4; panorama = (Correct (dg (74 ∷ 0 ∷ 1 ∷ 0 ∷ 32 ∷ [])) ∷ []); value = None; endorsed = ([]) }

abbrev j23 : List Vertex
j23 = (sent_as [] u23_0 ∷ sent_as [] u23_1 ∷ backs (dg (32 ∷ 174 ∷ 255 ∷ 4 ∷ 148 ∷ 232 ∷ 40 ∷ 209 ∷ 136 ∷ 199 ∷ 4 ∷ 225 ∷ 244 ∷ 136 ∷ 165 ∷ 137 ∷ 177 ∷ 90 ∷ 224 ∷ 29 ∷ 17 ∷ 246 ∷ 203 ∷ 18 ∷ 159 ∷ 98 ∷ 18 ∷ 156 ∷ 170 ∷ 108 ∷ 197 ∷ 67 ∷ [])) 0 ∷ sent_as [] u23_2 ∷ sent_as [] u23_3 ∷ [])

abbrev r23 : List Vertex
r23 = (sent_as [] u23_0 ∷ sent_as [] u23_1 ∷ backs (dg (32 ∷ 174 ∷ 255 ∷ 4 ∷ 148 ∷ 232 ∷ 40 ∷ 209 ∷ 136 ∷ 199 ∷ 4 ∷ 225 ∷ 244 ∷ 136 ∷ 165 ∷ 137 ∷ 177 ∷ 90 ∷ 224 ∷ 29 ∷ 17 ∷ 246 ∷ 203 ∷ 18 ∷ 159 ∷ 98 ∷ 18 ∷ 156 ∷ 170 ∷ 108 ∷ 197 ∷ 67 ∷ [])) 0 ∷ sent_as [] u23_3 ∷ [])

abbrev k23 : Received
k23 = received_of s23 j23

pub record RandomCase23 : Type 0 where
  pub answers : answers_from s23 [] ((sent_as [] u23_0, true) ∷ (sent_as [] u23_1, true) ∷ (backs (dg (32 ∷ 174 ∷ 255 ∷ 4 ∷ 148 ∷ 232 ∷ 40 ∷ 209 ∷ 136 ∷ 199 ∷ 4 ∷ 225 ∷ 244 ∷ 136 ∷ 165 ∷ 137 ∷ 177 ∷ 90 ∷ 224 ∷ 29 ∷ 17 ∷ 246 ∷ 203 ∷ 18 ∷ 159 ∷ 98 ∷ 18 ∷ 156 ∷ 170 ∷ 108 ∷ 197 ∷ 67 ∷ [])) 0, true) ∷ (sent_as [] u23_2, true) ∷ (sent_as [] u23_3, true) ∷ []) ≡ (Ok (receipt.Admitted 1) ∷ Ok (receipt.Admitted 1) ∷ Ok (receipt.Admitted 0) ∷ Ok (receipt.Dropped rule.EndorsedUnseen) ∷ Ok (receipt.Admitted 1) ∷ [])
  pub kept : journal_of s23 ((sent_as [] u23_0, true) ∷ (sent_as [] u23_1, true) ∷ (backs (dg (32 ∷ 174 ∷ 255 ∷ 4 ∷ 148 ∷ 232 ∷ 40 ∷ 209 ∷ 136 ∷ 199 ∷ 4 ∷ 225 ∷ 244 ∷ 136 ∷ 165 ∷ 137 ∷ 177 ∷ 90 ∷ 224 ∷ 29 ∷ 17 ∷ 246 ∷ 203 ∷ 18 ∷ 159 ∷ 98 ∷ 18 ∷ 156 ∷ 170 ∷ 108 ∷ 197 ∷ 67 ∷ [])) 0, true) ∷ (sent_as [] u23_2, true) ∷ (sent_as [] u23_3, true) ∷ []) ≡ j23
  pub settled : names_of (settled_of s23.config k23) ≡ (dg (0 ∷ 0 ∷ 2 ∷ 0 ∷ 42 ∷ []) ∷ dg (74 ∷ 0 ∷ 1 ∷ 0 ∷ 32 ∷ []) ∷ dg (82 ∷ 0 ∷ 0 ∷ 0 ∷ 16 ∷ []) ∷ [])
  pub parked : names_of (parked_of s23.config k23) ≡ ([])
  pub dropped : names_of (dropped_of s23.config k23) ≡ (dg (13 ∷ 0 ∷ 2 ∷ 0 ∷ 42 ∷ []) ∷ [])
  pub faulty : faulty_named s23 k23 ≡ ([])
  pub panorama : panorama_of s23.config k23 ≡ (Correct (dg (0 ∷ 0 ∷ 2 ∷ 0 ∷ 42 ∷ [])) ∷ [])
  pub fork : name_of (fork_choice s23.config k23) ≡ Some (dg (74 ∷ 0 ∷ 1 ∷ 0 ∷ 32 ∷ []))
  pub decisions : decisions_of s23 j23 ≡ (record { block = dg (82 ∷ 0 ∷ 0 ∷ 0 ∷ 16 ∷ []); height = 0; level = 1; quorum = 1; at = 2 } ∷ record { block = dg (74 ∷ 0 ∷ 1 ∷ 0 ∷ 32 ∷ []); height = 1; level = 1; quorum = 1; at = 5 } ∷ [])
  pub culprits : culprits_of s23 j23 r23 ≡ ([])
  pub steps : (step s23 k23 0 42 (7 ∷ []) ∷ step s23 k23 0 43 (7 ∷ []) ∷ step s23 k23 0 48 (7 ∷ []) ∷ []) ≡ (None ∷ None ∷ Some (record { kind = kind.Propose; unit = record { instance = dg (0 ∷ 0 ∷ 0 ∷ 0 ∷ []); creator = 0; seq = 3; time = 48; exponent = 4; panorama = (Correct (dg (0 ∷ 0 ∷ 2 ∷ 0 ∷ 42 ∷ [])) ∷ []); value = Some ((7 ∷ [])); endorsed = ([]) } }) ∷ [])

-- ---- case 24

abbrev s24 : Setting
s24 = named_by spread (record { weights = (5 ∷ 5 ∷ []); ftt = 0; levels = 2; min_exponent = 4; max_exponent = 4; leaders = Table (0 ∷ 0 ∷ 0 ∷ []); max_records = 131072; max_parked = 4096; end = Some (0) })

abbrev u24_0 : WireUnit
u24_0 = record { instance = dg (0 ∷ 0 ∷ 0 ∷ 0 ∷ []); creator = 0; seq = 0; time = 16; exponent = 4; panorama = (Absent ∷ Absent ∷ []); value = Some (([])); endorsed = ([]) }

abbrev u24_1 : WireUnit
u24_1 = record { instance = dg (0 ∷ 0 ∷ 0 ∷ 0 ∷ []); creator = 0; seq = 1; time = 26; exponent = 4; panorama = (Correct (dg (13 ∷ 0 ∷ 0 ∷ 0 ∷ 16 ∷ [])) ∷ []); value = None; endorsed = ([]) }

abbrev u24_2 : WireUnit
u24_2 = record { instance = dg (0 ∷ 0 ∷ 0 ∷ 0 ∷ []); creator = 1; seq = 0; time = 28; exponent = 4; panorama = (Correct (dg (14 ∷ 0 ∷ 1 ∷ 0 ∷ 26 ∷ [])) ∷ []); value = None; endorsed = ([]) }

abbrev u24_3 : WireUnit
u24_3 = record { instance = dg (0 ∷ 0 ∷ 0 ∷ 0 ∷ []); creator = 0; seq = 1; time = 26; exponent = 4; panorama = (Correct (dg (13 ∷ 0 ∷ 0 ∷ 0 ∷ 16 ∷ [])) ∷ Absent ∷ []); value = None; endorsed = ([]) }

abbrev u24_4 : WireUnit
u24_4 = record { instance = dg (0 ∷ 0 ∷ 0 ∷ 0 ∷ []); creator = 1; seq = 0; time = 28; exponent = 4; panorama = (Correct (dg (14 ∷ 0 ∷ 1 ∷ 0 ∷ 26 ∷ [])) ∷ Absent ∷ []); value = None; endorsed = ([]) }

abbrev j24 : List Vertex
j24 = (sent_as [] u24_0 ∷ sent_as [] u24_3 ∷ sent_as [] u24_4 ∷ backs (dg (13 ∷ 0 ∷ 0 ∷ 0 ∷ 16 ∷ [])) 0 ∷ [])

abbrev r24 : List Vertex
r24 = (sent_as [] u24_0 ∷ sent_as [] u24_4 ∷ backs (dg (13 ∷ 0 ∷ 0 ∷ 0 ∷ 16 ∷ [])) 0 ∷ [])

abbrev k24 : Received
k24 = received_of s24 j24

pub record RandomCase24 : Type 0 where
  pub answers : answers_from s24 [] ((sent_as [] u24_0, true) ∷ (sent_as [] u24_1, true) ∷ (sent_as [] u24_2, true) ∷ (sent_as [] u24_3, true) ∷ (sent_as [] u24_4, true) ∷ (backs (dg (13 ∷ 0 ∷ 0 ∷ 0 ∷ 16 ∷ [])) 0, true) ∷ []) ≡ (Ok (receipt.Admitted 1) ∷ Err (cause.Local rule.PanoramaLength) ∷ Err (cause.Local rule.PanoramaLength) ∷ Ok (receipt.Admitted 1) ∷ Ok (receipt.Admitted 1) ∷ Ok (receipt.Admitted 0) ∷ [])
  pub kept : journal_of s24 ((sent_as [] u24_0, true) ∷ (sent_as [] u24_1, true) ∷ (sent_as [] u24_2, true) ∷ (sent_as [] u24_3, true) ∷ (sent_as [] u24_4, true) ∷ (backs (dg (13 ∷ 0 ∷ 0 ∷ 0 ∷ 16 ∷ [])) 0, true) ∷ []) ≡ j24
  pub settled : names_of (settled_of s24.config k24) ≡ (dg (13 ∷ 0 ∷ 0 ∷ 0 ∷ 16 ∷ []) ∷ dg (14 ∷ 0 ∷ 1 ∷ 0 ∷ 26 ∷ []) ∷ dg (38 ∷ 1 ∷ 0 ∷ 0 ∷ 28 ∷ []) ∷ [])
  pub parked : names_of (parked_of s24.config k24) ≡ ([])
  pub dropped : names_of (dropped_of s24.config k24) ≡ ([])
  pub faulty : faulty_named s24 k24 ≡ ([])
  pub panorama : panorama_of s24.config k24 ≡ (Correct (dg (14 ∷ 0 ∷ 1 ∷ 0 ∷ 26 ∷ [])) ∷ Correct (dg (38 ∷ 1 ∷ 0 ∷ 0 ∷ 28 ∷ [])) ∷ [])
  pub fork : name_of (fork_choice s24.config k24) ≡ Some (dg (13 ∷ 0 ∷ 0 ∷ 0 ∷ 16 ∷ []))
  pub decisions : decisions_of s24 j24 ≡ ([])
  pub culprits : culprits_of s24 j24 r24 ≡ ([])
  pub steps : (step s24 k24 1 29 (7 ∷ []) ∷ step s24 k24 0 32 (7 ∷ []) ∷ step s24 k24 1 32 (7 ∷ []) ∷ step s24 k24 1 26 (7 ∷ []) ∷ []) ≡ (None ∷ None ∷ None ∷ None ∷ [])

-- ---- case 25

abbrev s25 : Setting
s25 = named_by spread (record { weights = (1 ∷ 1 ∷ 1 ∷ 1 ∷ []); ftt = 1; levels = 2; min_exponent = 4; max_exponent = 8; leaders = Table (2 ∷ []); max_records = 131072; max_parked = 4096; end = Some (0) })

abbrev u25_0 : WireUnit
u25_0 = record { instance = dg (0 ∷ 0 ∷ 0 ∷ 0 ∷ []); creator = 3; seq = 0; time = 18; exponent = 4; panorama = (Absent ∷ Absent ∷ Absent ∷ Absent ∷ []); value = None; endorsed = ([]) }

abbrev u25_1 : WireUnit
u25_1 = record { instance = dg (0 ∷ 0 ∷ 0 ∷ 0 ∷ []); creator = 3; seq = 0; time = 36; exponent = 4; panorama = (Absent ∷ Absent ∷ Absent ∷ Absent ∷ []); value = None; endorsed = ([]) }

abbrev j25 : List Vertex
j25 = (both_as [] u25_1 [] u25_0 ∷ [])

abbrev r25 : List Vertex
r25 = (both_as [] u25_1 [] u25_0 ∷ backs (dg (45 ∷ 3 ∷ 0 ∷ 0 ∷ 36 ∷ [])) 0 ∷ [])

abbrev k25 : Received
k25 = received_of s25 j25

pub record RandomCase25 : Type 0 where
  pub answers : answers_from s25 [] ((sent_as [] u25_0, true) ∷ (sent_as [] u25_1, true) ∷ (backs (dg (45 ∷ 3 ∷ 0 ∷ 0 ∷ 36 ∷ [])) 0, false) ∷ (both_as [] u25_0 [] u25_0, true) ∷ (both_as [] u25_1 [] u25_0, true) ∷ []) ≡ (Err (cause.Local rule.NoBlock) ∷ Err (cause.Local rule.NoBlock) ∷ Err cause.BadSignature ∷ Err (cause.Pair fault.Same) ∷ Ok (receipt.Admitted 0) ∷ [])
  pub kept : journal_of s25 ((sent_as [] u25_0, true) ∷ (sent_as [] u25_1, true) ∷ (backs (dg (45 ∷ 3 ∷ 0 ∷ 0 ∷ 36 ∷ [])) 0, false) ∷ (both_as [] u25_0 [] u25_0, true) ∷ (both_as [] u25_1 [] u25_0, true) ∷ []) ≡ j25
  pub settled : names_of (settled_of s25.config k25) ≡ ([])
  pub parked : names_of (parked_of s25.config k25) ≡ ([])
  pub dropped : names_of (dropped_of s25.config k25) ≡ ([])
  pub faulty : faulty_named s25 k25 ≡ (3 ∷ [])
  pub panorama : panorama_of s25.config k25 ≡ (Absent ∷ Absent ∷ Absent ∷ Faulty ∷ [])
  pub fork : name_of (fork_choice s25.config k25) ≡ None
  pub decisions : decisions_of s25 j25 ≡ ([])
  pub culprits : culprits_of s25 j25 r25 ≡ (3 ∷ [])
  pub pair3 : pair_of (shown_in_either s25 j25 r25) 3 ≡ Some (named s25 u25_0, named s25 u25_1)
  pub steps : (step s25 k25 2 32 (7 ∷ []) ∷ step s25 k25 3 17 (7 ∷ []) ∷ step s25 k25 0 32 (7 ∷ []) ∷ step s25 k25 3 32 (7 ∷ []) ∷ []) ≡ (Some (record { kind = kind.Propose; unit = record { instance = dg (0 ∷ 0 ∷ 0 ∷ 0 ∷ []); creator = 2; seq = 0; time = 32; exponent = 4; panorama = (Absent ∷ Absent ∷ Absent ∷ Faulty ∷ []); value = Some ((7 ∷ [])); endorsed = ([]) } }) ∷ None ∷ None ∷ None ∷ [])

-- ---- case 26

abbrev s26 : Setting
s26 = named_by spread (record { weights = (1 ∷ 1 ∷ 1 ∷ 1 ∷ []); ftt = 1; levels = 1; min_exponent = 4; max_exponent = 8; leaders = Table (0 ∷ 2 ∷ 1 ∷ 0 ∷ 1 ∷ []); max_records = 131072; max_parked = 4096; end = Some (1) })

abbrev u26_0 : WireUnit
u26_0 = record { instance = dg (0 ∷ 0 ∷ 0 ∷ 0 ∷ []); creator = 1; seq = 0; time = 32; exponent = 4; panorama = (Absent ∷ Absent ∷ Faulty ∷ Absent ∷ []); value = Some ((0 ∷ 0 ∷ 0 ∷ 1 ∷ 0 ∷ 0 ∷ 0 ∷ 0 ∷ 0 ∷ 0 ∷ 0 ∷ 32 ∷ [])); endorsed = ([]) }

abbrev u26_1 : WireUnit
u26_1 = record { instance = dg (0 ∷ 0 ∷ 0 ∷ 0 ∷ []); creator = 1; seq = 0; time = 32; exponent = 4; panorama = (Absent ∷ Absent ∷ Absent ∷ Absent ∷ []); value = Some ((0 ∷ 0 ∷ 0 ∷ 1 ∷ 0 ∷ 0 ∷ 0 ∷ 0 ∷ 0 ∷ 0 ∷ 0 ∷ 32 ∷ [])); endorsed = ([]) }

abbrev u26_2 : WireUnit
u26_2 = record { instance = dg (0 ∷ 0 ∷ 0 ∷ 0 ∷ []); creator = 4; seq = 0; time = 32; exponent = 4; panorama = (Absent ∷ Absent ∷ Faulty ∷ Absent ∷ []); value = Some ((0 ∷ 0 ∷ 0 ∷ 1 ∷ 0 ∷ 0 ∷ 0 ∷ 0 ∷ 0 ∷ 0 ∷ 0 ∷ 32 ∷ [])); endorsed = ([]) }

abbrev u26_3 : WireUnit
u26_3 = record { instance = dg (0 ∷ 0 ∷ 0 ∷ 0 ∷ []); creator = 4; seq = 0; time = 32; exponent = 4; panorama = (Absent ∷ Absent ∷ Absent ∷ Absent ∷ []); value = Some ((0 ∷ 0 ∷ 0 ∷ 1 ∷ 0 ∷ 0 ∷ 0 ∷ 0 ∷ 0 ∷ 0 ∷ 0 ∷ 32 ∷ [])); endorsed = ([]) }

abbrev j26 : List Vertex
j26 = (sent_as [] u26_0 ∷ [])

abbrev r26 : List Vertex
r26 = (sent_as [] u26_1 ∷ [])

abbrev k26 : Received
k26 = received_of s26 j26

pub record RandomCase26 : Type 0 where
  pub answers : answers_from s26 [] ((both_as [] u26_0 [] u26_0, true) ∷ (sent_as [] u26_0, true) ∷ (both_as [] u26_1 [] u26_0, true) ∷ (both_as [] u26_2 [] u26_3, true) ∷ (sent_as [] u26_1, true) ∷ []) ≡ (Err (cause.Pair fault.Same) ∷ Ok (receipt.Parked 1) ∷ Err (cause.Clash (dg (37 ∷ 1 ∷ 0 ∷ 0 ∷ 32 ∷ []))) ∷ Err (cause.Pair fault.Creator) ∷ Err (cause.Clash (dg (37 ∷ 1 ∷ 0 ∷ 0 ∷ 32 ∷ []))) ∷ [])
  pub kept : journal_of s26 ((both_as [] u26_0 [] u26_0, true) ∷ (sent_as [] u26_0, true) ∷ (both_as [] u26_1 [] u26_0, true) ∷ (both_as [] u26_2 [] u26_3, true) ∷ (sent_as [] u26_1, true) ∷ []) ≡ j26
  pub settled : names_of (settled_of s26.config k26) ≡ ([])
  pub parked : names_of (parked_of s26.config k26) ≡ (dg (37 ∷ 1 ∷ 0 ∷ 0 ∷ 32 ∷ []) ∷ [])
  pub dropped : names_of (dropped_of s26.config k26) ≡ ([])
  pub faulty : faulty_named s26 k26 ≡ ([])
  pub panorama : panorama_of s26.config k26 ≡ (Absent ∷ Absent ∷ Absent ∷ Absent ∷ [])
  pub fork : name_of (fork_choice s26.config k26) ≡ None
  pub decisions : decisions_of s26 j26 ≡ ([])
  pub missing : map (missing_of s26.config k26 (settled_of s26.config k26)) (named s26 u26_0 ∷ []) ≡ ((need.Evidence 2 ∷ []) ∷ [])
  pub culprits : culprits_of s26 j26 r26 ≡ ([])
  pub steps : (step s26 k26 2 33 (7 ∷ []) ∷ step s26 k26 3 33 (7 ∷ []) ∷ step s26 k26 3 48 (7 ∷ []) ∷ step s26 k26 2 48 (7 ∷ []) ∷ []) ≡ (None ∷ None ∷ None ∷ None ∷ [])

-- ---- case 27

abbrev s27 : Setting
s27 = named_by crowded (record { weights = (3 ∷ 4 ∷ []); ftt = 2; levels = 3; min_exponent = 5; max_exponent = 9; leaders = Table (0 ∷ []); max_records = 131072; max_parked = 4096; end = Some (1) })

abbrev u27_0 : WireUnit
u27_0 = record { instance = dg (0 ∷ 0 ∷ 0 ∷ 0 ∷ []); creator = 0; seq = 0; time = 32; exponent = 5; panorama = (Absent ∷ Absent ∷ []); value = Some ((0 ∷ 0 ∷ 0 ∷ 0 ∷ 0 ∷ 0 ∷ 0 ∷ 0 ∷ 0 ∷ 0 ∷ 0 ∷ 32 ∷ [])); endorsed = ([]) }

abbrev u27_1 : WireUnit
u27_1 = record { instance = dg (0 ∷ 0 ∷ 0 ∷ 0 ∷ []); creator = 1; seq = 0; time = 54; exponent = 10; panorama = (Correct (dg (3 ∷ 0 ∷ 0 ∷ 0 ∷ 0 ∷ [])) ∷ Absent ∷ []); value = None; endorsed = ([]) }

abbrev u27_2 : WireUnit
u27_2 = record { instance = dg (0 ∷ 0 ∷ 0 ∷ 0 ∷ []); creator = 0; seq = 1; time = 54; exponent = 5; panorama = (Faulty ∷ Correct (dg (3 ∷ 1 ∷ 0 ∷ 0 ∷ 0 ∷ [])) ∷ []); value = None; endorsed = ([]) }

abbrev u27_3 : WireUnit
u27_3 = record { instance = dg (0 ∷ 0 ∷ 0 ∷ 0 ∷ []); creator = 1; seq = 0; time = 54; exponent = 5; panorama = (Correct (dg (3 ∷ 0 ∷ 0 ∷ 0 ∷ 0 ∷ [])) ∷ Absent ∷ []); value = None; endorsed = ([]) }

abbrev u27_4 : WireUnit
u27_4 = record { instance = dg (0 ∷ 0 ∷ 0 ∷ 0 ∷ []); creator = 0; seq = 1; time = 54; exponent = 5; panorama = (Correct (dg (3 ∷ 0 ∷ 0 ∷ 0 ∷ 0 ∷ [])) ∷ Correct (dg (3 ∷ 1 ∷ 0 ∷ 0 ∷ 0 ∷ [])) ∷ []); value = None; endorsed = ([]) }

abbrev j27 : List Vertex
j27 = (sent_as [] u27_0 ∷ sent_as [] u27_3 ∷ sent_as [] u27_4 ∷ [])

abbrev r27 : List Vertex
r27 = (sent_as [] u27_4 ∷ [])

abbrev k27 : Received
k27 = received_of s27 j27

pub record RandomCase27 : Type 0 where
  pub answers : answers_from s27 [] ((sent_as [] u27_0, true) ∷ (sent_as [] u27_1, true) ∷ (sent_as [] u27_2, true) ∷ (sent_as [] u27_3, true) ∷ (sent_as [] u27_4, true) ∷ []) ≡ (Ok (receipt.Admitted 1) ∷ Err (cause.Local rule.RoundExponent) ∷ Err (cause.Local rule.FaultySelf) ∷ Ok (receipt.Admitted 1) ∷ Ok (receipt.Admitted 1) ∷ [])
  pub kept : journal_of s27 ((sent_as [] u27_0, true) ∷ (sent_as [] u27_1, true) ∷ (sent_as [] u27_2, true) ∷ (sent_as [] u27_3, true) ∷ (sent_as [] u27_4, true) ∷ []) ≡ j27
  pub settled : names_of (settled_of s27.config k27) ≡ (dg (1 ∷ 0 ∷ 0 ∷ 0 ∷ 0 ∷ []) ∷ dg (3 ∷ 0 ∷ 0 ∷ 0 ∷ 0 ∷ []) ∷ dg (3 ∷ 1 ∷ 0 ∷ 0 ∷ 0 ∷ []) ∷ [])
  pub parked : names_of (parked_of s27.config k27) ≡ ([])
  pub dropped : names_of (dropped_of s27.config k27) ≡ ([])
  pub faulty : faulty_named s27 k27 ≡ ([])
  pub panorama : panorama_of s27.config k27 ≡ (Correct (dg (1 ∷ 0 ∷ 0 ∷ 0 ∷ 0 ∷ [])) ∷ Correct (dg (3 ∷ 1 ∷ 0 ∷ 0 ∷ 0 ∷ [])) ∷ [])
  pub fork : name_of (fork_choice s27.config k27) ≡ Some (dg (3 ∷ 0 ∷ 0 ∷ 0 ∷ 0 ∷ []))
  pub decisions : decisions_of s27 j27 ≡ ([])
  pub culprits : culprits_of s27 j27 r27 ≡ ([])
  pub steps : (step s27 k27 0 55 (7 ∷ []) ∷ step s27 k27 1 53 (7 ∷ []) ∷ step s27 k27 1 64 (7 ∷ []) ∷ step s27 k27 0 64 (7 ∷ []) ∷ []) ≡ (None ∷ None ∷ None ∷ Some (record { kind = kind.Propose; unit = record { instance = dg (0 ∷ 0 ∷ 0 ∷ 0 ∷ []); creator = 0; seq = 2; time = 64; exponent = 5; panorama = (Correct (dg (1 ∷ 0 ∷ 0 ∷ 0 ∷ 0 ∷ [])) ∷ Correct (dg (3 ∷ 1 ∷ 0 ∷ 0 ∷ 0 ∷ [])) ∷ []); value = Some ((7 ∷ [])); endorsed = ([]) } }) ∷ [])

-- ---- case 28

abbrev s28 : Setting
s28 = named_by spread (record { weights = (1 ∷ 4 ∷ 3 ∷ 2 ∷ []); ftt = 9; levels = 4; min_exponent = 5; max_exponent = 5; leaders = Table (3 ∷ []); max_records = 131072; max_parked = 4; end = None })

abbrev u28_0 : WireUnit
u28_0 = record { instance = dg (0 ∷ 0 ∷ 0 ∷ 0 ∷ []); creator = 3; seq = 0; time = 32; exponent = 5; panorama = (Absent ∷ Absent ∷ Faulty ∷ Absent ∷ []); value = Some ((183 ∷ 221 ∷ 141 ∷ 173 ∷ 193 ∷ 77 ∷ 211 ∷ 145 ∷ 226 ∷ 165 ∷ 211 ∷ 112 ∷ 64 ∷ 189 ∷ 55 ∷ 137 ∷ 227 ∷ 144 ∷ 80 ∷ 223 ∷ [])); endorsed = ([]) }

abbrev u28_1 : WireUnit
u28_1 = record { instance = dg (0 ∷ 0 ∷ 0 ∷ 0 ∷ []); creator = 3; seq = 0; time = 78; exponent = 5; panorama = (Absent ∷ Absent ∷ Absent ∷ Absent ∷ []); value = Some ((160 ∷ 100 ∷ 223 ∷ 66 ∷ [])); endorsed = ([]) }

abbrev u28_2 : WireUnit
u28_2 = record { instance = dg (0 ∷ 0 ∷ 0 ∷ 0 ∷ []); creator = 3; seq = 0; time = 85; exponent = 5; panorama = (Absent ∷ Absent ∷ Absent ∷ Absent ∷ []); value = None; endorsed = ([]) }

abbrev u28_3 : WireUnit
u28_3 = record { instance = dg (0 ∷ 0 ∷ 0 ∷ 0 ∷ []); creator = 0; seq = 0; time = 87; exponent = 5; panorama = (Absent ∷ Absent ∷ Absent ∷ Absent ∷ []); value = None; endorsed = ([]) }

abbrev j28 : List Vertex
j28 = (sent_as [] u28_0 ∷ sent_as [] u28_1 ∷ [])

abbrev r28 : List Vertex
r28 = (sent_as [] u28_0 ∷ sent_as [] u28_1 ∷ [])

abbrev k28 : Received
k28 = received_of s28 j28

pub record RandomCase28 : Type 0 where
  pub answers : answers_from s28 [] ((sent_as [] u28_0, true) ∷ (sent_as [] u28_1, true) ∷ (sent_as [] u28_2, true) ∷ (sent_as [] u28_3, true) ∷ []) ≡ (Ok (receipt.Parked 1) ∷ Ok (receipt.Dropped rule.NotLeader) ∷ Err (cause.Local rule.NoBlock) ∷ Err (cause.Local rule.NoBlock) ∷ [])
  pub kept : journal_of s28 ((sent_as [] u28_0, true) ∷ (sent_as [] u28_1, true) ∷ (sent_as [] u28_2, true) ∷ (sent_as [] u28_3, true) ∷ []) ≡ j28
  pub settled : names_of (settled_of s28.config k28) ≡ ([])
  pub parked : names_of (parked_of s28.config k28) ≡ (dg (94 ∷ 3 ∷ 0 ∷ 0 ∷ 32 ∷ []) ∷ [])
  pub dropped : names_of (dropped_of s28.config k28) ≡ (dg (9 ∷ 3 ∷ 0 ∷ 0 ∷ 78 ∷ []) ∷ [])
  pub faulty : faulty_named s28 k28 ≡ ([])
  pub panorama : panorama_of s28.config k28 ≡ (Absent ∷ Absent ∷ Absent ∷ Absent ∷ [])
  pub fork : name_of (fork_choice s28.config k28) ≡ None
  pub decisions : decisions_of s28 j28 ≡ ([])
  pub missing : map (missing_of s28.config k28 (settled_of s28.config k28)) (named s28 u28_0 ∷ []) ≡ ((need.Evidence 2 ∷ []) ∷ [])
  pub culprits : culprits_of s28 j28 r28 ≡ ([])
  pub steps : (step s28 k28 2 96 (7 ∷ []) ∷ step s28 k28 2 85 (7 ∷ []) ∷ step s28 k28 0 96 (7 ∷ []) ∷ step s28 k28 3 96 (7 ∷ []) ∷ []) ≡ (None ∷ None ∷ None ∷ Some (record { kind = kind.Propose; unit = record { instance = dg (0 ∷ 0 ∷ 0 ∷ 0 ∷ []); creator = 3; seq = 0; time = 96; exponent = 5; panorama = (Absent ∷ Absent ∷ Absent ∷ Absent ∷ []); value = Some ((7 ∷ [])); endorsed = ([]) } }) ∷ [])

-- ---- case 29

abbrev s29 : Setting
s29 = named_by crowded (record { weights = (1 ∷ []); ftt = 0; levels = 1; min_exponent = 4; max_exponent = 5; leaders = Table (0 ∷ []); max_records = 131072; max_parked = 4096; end = None })

abbrev u29_0 : WireUnit
u29_0 = record { instance = dg (0 ∷ 0 ∷ 0 ∷ 0 ∷ []); creator = 0; seq = 0; time = 16; exponent = 4; panorama = (Absent ∷ []); value = None; endorsed = ([]) }

abbrev u29_1 : WireUnit
u29_1 = record { instance = dg (0 ∷ 0 ∷ 0 ∷ 0 ∷ []); creator = 0; seq = 0; time = 16; exponent = 4; panorama = (Absent ∷ []); value = Some ((0 ∷ 0 ∷ 0 ∷ 0 ∷ 0 ∷ 0 ∷ 0 ∷ 0 ∷ 0 ∷ 0 ∷ 0 ∷ 16 ∷ [])); endorsed = ([]) }

abbrev u29_2 : WireUnit
u29_2 = record { instance = dg (0 ∷ 0 ∷ 0 ∷ 0 ∷ []); creator = 0; seq = 1; time = 43; exponent = 4; panorama = (Correct (dg (2 ∷ 0 ∷ 0 ∷ 0 ∷ 0 ∷ [])) ∷ []); value = None; endorsed = ([]) }

abbrev j29 : List Vertex
j29 = (sent_as [] u29_1 ∷ sent_as [] u29_2 ∷ backs (dg (1 ∷ 0 ∷ 0 ∷ 0 ∷ 0 ∷ [])) 0 ∷ both_as [] u29_1 [] u29_0 ∷ backs (dg (4 ∷ 0 ∷ 0 ∷ 0 ∷ 0 ∷ [])) 0 ∷ [])

abbrev r29 : List Vertex
r29 = (sent_as [] u29_1 ∷ sent_as [] u29_2 ∷ backs (dg (1 ∷ 0 ∷ 0 ∷ 0 ∷ 0 ∷ [])) 0 ∷ both_as [] u29_1 [] u29_0 ∷ backs (dg (4 ∷ 0 ∷ 0 ∷ 0 ∷ 0 ∷ [])) 0 ∷ [])

abbrev k29 : Received
k29 = received_of s29 j29

pub record RandomCase29 : Type 0 where
  pub answers : answers_from s29 [] ((sent_as [] u29_0, true) ∷ (sent_as [] u29_1, true) ∷ (sent_as [] u29_2, true) ∷ (backs (dg (1 ∷ 0 ∷ 0 ∷ 0 ∷ 0 ∷ [])) 0, true) ∷ (both_as [] u29_2 [] u29_0, true) ∷ (both_as [] u29_1 [] u29_0, true) ∷ (backs (dg (4 ∷ 0 ∷ 0 ∷ 0 ∷ 0 ∷ [])) 0, true) ∷ []) ≡ (Err (cause.Local rule.NoBlock) ∷ Ok (receipt.Admitted 1) ∷ Ok (receipt.Admitted 1) ∷ Ok (receipt.Admitted 0) ∷ Err (cause.Pair fault.Sequence) ∷ Ok (receipt.Admitted 0) ∷ Ok (receipt.Admitted 0) ∷ [])
  pub kept : journal_of s29 ((sent_as [] u29_0, true) ∷ (sent_as [] u29_1, true) ∷ (sent_as [] u29_2, true) ∷ (backs (dg (1 ∷ 0 ∷ 0 ∷ 0 ∷ 0 ∷ [])) 0, true) ∷ (both_as [] u29_2 [] u29_0, true) ∷ (both_as [] u29_1 [] u29_0, true) ∷ (backs (dg (4 ∷ 0 ∷ 0 ∷ 0 ∷ 0 ∷ [])) 0, true) ∷ []) ≡ j29
  pub settled : names_of (settled_of s29.config k29) ≡ (dg (1 ∷ 0 ∷ 0 ∷ 0 ∷ 0 ∷ []) ∷ dg (2 ∷ 0 ∷ 0 ∷ 0 ∷ 0 ∷ []) ∷ [])
  pub parked : names_of (parked_of s29.config k29) ≡ ([])
  pub dropped : names_of (dropped_of s29.config k29) ≡ ([])
  pub faulty : faulty_named s29 k29 ≡ (0 ∷ [])
  pub panorama : panorama_of s29.config k29 ≡ (Faulty ∷ [])
  pub fork : name_of (fork_choice s29.config k29) ≡ None
  pub decisions : decisions_of s29 j29 ≡ (record { block = dg (2 ∷ 0 ∷ 0 ∷ 0 ∷ 0 ∷ []); height = 0; level = 1; quorum = 1; at = 2 } ∷ [])
  pub culprits : culprits_of s29 j29 r29 ≡ (0 ∷ [])
  pub pair0 : pair_of (shown_in_either s29 j29 r29) 0 ≡ Some (named s29 u29_1, named s29 u29_0)
  pub steps : (step s29 k29 0 48 (7 ∷ []) ∷ step s29 k29 0 42 (7 ∷ []) ∷ step s29 k29 0 44 (7 ∷ []) ∷ []) ≡ (None ∷ None ∷ None ∷ [])

-- ---- case 30

abbrev s30 : Setting
s30 = named_by spread (record { weights = (2 ∷ 3 ∷ 3 ∷ 4 ∷ []); ftt = 1; levels = 5; min_exponent = 5; max_exponent = 7; leaders = Table (1 ∷ []); max_records = 3; max_parked = 4096; end = Some (2) })

abbrev u30_0 : WireUnit
u30_0 = record { instance = dg (0 ∷ 0 ∷ 0 ∷ 0 ∷ []); creator = 1; seq = 0; time = 32; exponent = 5; panorama = (Absent ∷ Absent ∷ Absent ∷ Faulty ∷ []); value = Some ((162 ∷ 227 ∷ 18 ∷ 4 ∷ 144 ∷ 20 ∷ [])); endorsed = ([]) }

abbrev u30_1 : WireUnit
u30_1 = record { instance = dg (0 ∷ 0 ∷ 0 ∷ 0 ∷ []); creator = 1; seq = 0; time = 32; exponent = 5; panorama = (Absent ∷ Absent ∷ Absent ∷ Absent ∷ []); value = Some ((162 ∷ 227 ∷ 18 ∷ 4 ∷ 144 ∷ 20 ∷ [])); endorsed = ([]) }

abbrev u30_2 : WireUnit
u30_2 = record { instance = dg (0 ∷ 0 ∷ 0 ∷ 0 ∷ []); creator = 0; seq = 0; time = 33; exponent = 5; panorama = (Absent ∷ Absent ∷ Absent ∷ Absent ∷ []); value = None; endorsed = ([]) }

abbrev u30_3 : WireUnit
u30_3 = record { instance = dg (0 ∷ 0 ∷ 0 ∷ 0 ∷ []); creator = 1; seq = 0; time = 32; exponent = 5; panorama = (Absent ∷ Absent ∷ Absent ∷ Faulty ∷ []); value = Some (([])); endorsed = ([]) }

abbrev j30 : List Vertex
j30 = (sent_as [] u30_0 ∷ [])

abbrev r30 : List Vertex
r30 = (sent_as [] u30_3 ∷ [])

abbrev k30 : Received
k30 = received_of s30 j30

pub record RandomCase30 : Type 0 where
  pub answers : answers_from s30 [] ((sent_as [] u30_0, true) ∷ (sent_as [] u30_1, false) ∷ (sent_as [] u30_2, true) ∷ []) ≡ (Ok (receipt.Parked 1) ∷ Err cause.BadSignature ∷ Err (cause.Local rule.NoBlock) ∷ [])
  pub kept : journal_of s30 ((sent_as [] u30_0, true) ∷ (sent_as [] u30_1, false) ∷ (sent_as [] u30_2, true) ∷ []) ≡ j30
  pub settled : names_of (settled_of s30.config k30) ≡ ([])
  pub parked : names_of (parked_of s30.config k30) ≡ (dg (0 ∷ 1 ∷ 0 ∷ 0 ∷ 32 ∷ []) ∷ [])
  pub dropped : names_of (dropped_of s30.config k30) ≡ ([])
  pub faulty : faulty_named s30 k30 ≡ ([])
  pub panorama : panorama_of s30.config k30 ≡ (Absent ∷ Absent ∷ Absent ∷ Absent ∷ [])
  pub fork : name_of (fork_choice s30.config k30) ≡ None
  pub decisions : decisions_of s30 j30 ≡ ([])
  pub missing : map (missing_of s30.config k30 (settled_of s30.config k30)) (named s30 u30_0 ∷ []) ≡ ((need.Evidence 3 ∷ []) ∷ [])
  pub culprits : culprits_of s30 j30 r30 ≡ ([])
  pub steps : (step s30 k30 2 33 (7 ∷ []) ∷ step s30 k30 3 33 (7 ∷ []) ∷ step s30 k30 3 64 (7 ∷ []) ∷ step s30 k30 2 64 (7 ∷ []) ∷ []) ≡ (None ∷ None ∷ None ∷ None ∷ [])

-- All of them.
pub record RandomCases3 : Type 0 where
  pub case21 : RandomCase21
  pub case22 : RandomCase22
  pub case23 : RandomCase23
  pub case24 : RandomCase24
  pub case25 : RandomCase25
  pub case26 : RandomCase26
  pub case27 : RandomCase27
  pub case28 : RandomCase28
  pub case29 : RandomCase29
  pub case30 : RandomCase30
