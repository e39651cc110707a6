-- Random journals with evidence, endorsements and refusals, and what they say.
-- The values are those of another reading of the definitions, written apart from them. The program that drew these
-- journals and wrote this isn't kept.
use Rattle.std.specs.Prelude.{◌≡◌, true, List, [], ◌∷◌, map, Some, None, Ok, Err}
use Rattle.hw_types.specs.declared.unit.Obs.TheVariants.{Absent, Correct, Faulty}
use Rattle.hw_types.specs.declared.unit.WireUnit.{WireUnit}
use Rattle.hw_types.specs.declared.unit.Vertex.{Vertex}
use Rattle.hw_types.specs.declared.unit.Need.TheVariants as need
use Rattle.hw_types.specs.declared.config.Leaders.TheVariants.{Table}
use Rattle.hw_types.specs.declared.answers.Receipt.TheVariants as receipt
use Rattle.hw_types.specs.declared.answers.Cause.TheVariants as cause
use Rattle.hw_types.specs.declared.answers.Rule.TheVariants as rule
use Rattle.hw_types.specs.declared.answers.PairFault.TheVariants as fault
use Rattle.hw_types.specs.declared.answers.PlanKind.TheVariants as kind
use Rattle.hw_types.specs.Settled.{Received, settled_of, parked_of, dropped_of, missing_of, panorama_of, fork_choice}
use Rattle.hw_types.specs.Journal.{Setting, named, received_of, journal_of, answers_from}
use Rattle.hw_types.specs.Step.{step}
use Rattle.hw_types.specs.Culprits.{culprits_of, pair_of, shown_in_either}
use Rattle.hw_safety.specs.Decided.{decisions_of}
use Rattle.hw_samples.specs.Words.{names_of, name_of}
use Rattle.hw_samples.specs.JournalWords.{dg, sent_as, both_as, backs, named_by}
use Rattle.hw_samples.specs.CaseWords.{spread, faulty_named}

-- ---- case 11

abbrev s11 : Setting
s11 = named_by spread (record { weights = (1 ∷ []); ftt = 0; levels = 1; min_exponent = 4; max_exponent = 8; leaders = Table (0 ∷ 0 ∷ 0 ∷ 0 ∷ 0 ∷ 0 ∷ []); max_records = 131072; max_parked = 4096; end = None })

abbrev u11_0 : WireUnit
u11_0 = record { instance = dg (0 ∷ 0 ∷ 0 ∷ 0 ∷ []); creator = 0; seq = 0; time = 16; exponent = 4; panorama = (Absent ∷ []); value = Some ((0 ∷ 0 ∷ 0 ∷ 0 ∷ 0 ∷ 0 ∷ 0 ∷ 0 ∷ 0 ∷ 0 ∷ 0 ∷ 16 ∷ [])); endorsed = ([]) }

abbrev u11_1 : WireUnit
u11_1 = record { instance = dg (0 ∷ 0 ∷ 0 ∷ 0 ∷ []); creator = 0; seq = 1; time = 26; exponent = 4; panorama = (Correct (dg (28 ∷ 0 ∷ 0 ∷ 0 ∷ 16 ∷ [])) ∷ []); value = None; endorsed = ([]) }

abbrev u11_2 : WireUnit
u11_2 = record { instance = dg (0 ∷ 0 ∷ 0 ∷ 0 ∷ []); creator = 2; seq = 2; time = 32; exponent = 4; panorama = (Correct (dg (13 ∷ 0 ∷ 1 ∷ 0 ∷ 26 ∷ [])) ∷ []); value = Some ((0 ∷ 0 ∷ 0 ∷ 0 ∷ 0 ∷ 0 ∷ 0 ∷ 0 ∷ 0 ∷ 0 ∷ 0 ∷ 32 ∷ [])); endorsed = ([]) }

abbrev u11_3 : WireUnit
u11_3 = record { instance = dg (0 ∷ 0 ∷ 0 ∷ 0 ∷ []); creator = 0; seq = 2; time = 32; exponent = 4; panorama = (Correct (dg (13 ∷ 0 ∷ 1 ∷ 0 ∷ 26 ∷ [])) ∷ []); value = Some ((0 ∷ 0 ∷ 0 ∷ 0 ∷ 0 ∷ 0 ∷ 0 ∷ 0 ∷ 0 ∷ 0 ∷ 0 ∷ 32 ∷ [])); endorsed = ([]) }

abbrev u11_4 : WireUnit
u11_4 = record { instance = dg (0 ∷ 0 ∷ 0 ∷ 0 ∷ []); creator = 0; seq = 0; time = 43; exponent = 4; panorama = (Absent ∷ []); value = None; endorsed = ([]) }

abbrev u11_5 : WireUnit
u11_5 = record { instance = dg (0 ∷ 0 ∷ 0 ∷ 0 ∷ []); creator = 0; seq = 3; time = 43; exponent = 4; panorama = (Correct (dg (36 ∷ 0 ∷ 2 ∷ 0 ∷ 32 ∷ [])) ∷ []); value = None; endorsed = ([]) }

abbrev j11 : List Vertex
j11 = (sent_as [] u11_0 ∷ sent_as [] u11_1 ∷ sent_as [] u11_3 ∷ sent_as [] u11_5 ∷ [])

abbrev r11 : List Vertex
r11 = (sent_as [] u11_5 ∷ sent_as [] u11_1 ∷ sent_as [] u11_0 ∷ [])

abbrev k11 : Received
k11 = received_of s11 j11

pub record RandomCase11 : Type 0 where
  pub answers : answers_from s11 [] ((sent_as [] u11_0, true) ∷ (sent_as [] u11_1, true) ∷ (sent_as [] u11_2, true) ∷ (sent_as [] u11_3, true) ∷ (sent_as [] u11_4, true) ∷ (sent_as [] u11_5, true) ∷ (both_as [] u11_5 [] u11_1, true) ∷ []) ≡ (Ok (receipt.Admitted 1) ∷ Ok (receipt.Admitted 1) ∷ Err (cause.Local rule.UnknownCreator) ∷ Ok (receipt.Admitted 1) ∷ Err (cause.Local rule.NoBlock) ∷ Ok (receipt.Admitted 1) ∷ Err (cause.Pair fault.Sequence) ∷ [])
  pub kept : journal_of s11 ((sent_as [] u11_0, true) ∷ (sent_as [] u11_1, true) ∷ (sent_as [] u11_2, true) ∷ (sent_as [] u11_3, true) ∷ (sent_as [] u11_4, true) ∷ (sent_as [] u11_5, true) ∷ (both_as [] u11_5 [] u11_1, true) ∷ []) ≡ j11
  pub settled : names_of (settled_of s11.config k11) ≡ (dg (13 ∷ 0 ∷ 1 ∷ 0 ∷ 26 ∷ []) ∷ dg (16 ∷ 0 ∷ 3 ∷ 0 ∷ 43 ∷ []) ∷ dg (28 ∷ 0 ∷ 0 ∷ 0 ∷ 16 ∷ []) ∷ dg (36 ∷ 0 ∷ 2 ∷ 0 ∷ 32 ∷ []) ∷ [])
  pub parked : names_of (parked_of s11.config k11) ≡ ([])
  pub dropped : names_of (dropped_of s11.config k11) ≡ ([])
  pub faulty : faulty_named s11 k11 ≡ ([])
  pub panorama : panorama_of s11.config k11 ≡ (Correct (dg (16 ∷ 0 ∷ 3 ∷ 0 ∷ 43 ∷ [])) ∷ [])
  pub fork : name_of (fork_choice s11.config k11) ≡ Some (dg (36 ∷ 0 ∷ 2 ∷ 0 ∷ 32 ∷ []))
  pub decisions : decisions_of s11 j11 ≡ (record { block = dg (28 ∷ 0 ∷ 0 ∷ 0 ∷ 16 ∷ []); height = 0; level = 1; quorum = 1; at = 2 } ∷ record { block = dg (36 ∷ 0 ∷ 2 ∷ 0 ∷ 32 ∷ []); height = 1; level = 1; quorum = 1; at = 4 } ∷ [])
  pub culprits : culprits_of s11 j11 r11 ≡ ([])
  pub steps : (step s11 k11 0 48 (7 ∷ []) ∷ step s11 k11 0 42 (7 ∷ []) ∷ step s11 k11 0 44 (7 ∷ []) ∷ []) ≡ (Some (record { kind = kind.Propose; unit = record { instance = dg (0 ∷ 0 ∷ 0 ∷ 0 ∷ []); creator = 0; seq = 4; time = 48; exponent = 4; panorama = (Correct (dg (16 ∷ 0 ∷ 3 ∷ 0 ∷ 43 ∷ [])) ∷ []); value = Some ((7 ∷ [])); endorsed = ([]) } }) ∷ None ∷ None ∷ [])

-- ---- case 12

abbrev s12 : Setting
s12 = named_by spread (record { weights = (1 ∷ []); ftt = 0; levels = 2; min_exponent = 4; max_exponent = 4; leaders = Table (0 ∷ 0 ∷ 0 ∷ 0 ∷ []); max_records = 131072; max_parked = 4096; end = None })

abbrev u12_0 : WireUnit
u12_0 = record { instance = dg (0 ∷ 0 ∷ 0 ∷ 0 ∷ []); creator = 0; seq = 1; time = 26; exponent = 4; panorama = (Correct (dg (28 ∷ 0 ∷ 0 ∷ 0 ∷ 16 ∷ [])) ∷ []); value = None; endorsed = ([]) }

abbrev u12_1 : WireUnit
u12_1 = record { instance = dg (0 ∷ 0 ∷ 0 ∷ 0 ∷ []); creator = 0; seq = 2; time = 44; exponent = 4; panorama = (Correct (dg (13 ∷ 0 ∷ 1 ∷ 0 ∷ 26 ∷ [])) ∷ []); value = None; endorsed = ([]) }

abbrev u12_2 : WireUnit
u12_2 = record { instance = dg (0 ∷ 0 ∷ 0 ∷ 0 ∷ []); creator = 0; seq = 0; time = 16; exponent = 4; panorama = (Absent ∷ []); value = Some ((0 ∷ 0 ∷ 0 ∷ 0 ∷ 0 ∷ 0 ∷ 0 ∷ 0 ∷ 0 ∷ 0 ∷ 0 ∷ 16 ∷ [])); endorsed = ([]) }

abbrev j12 : List Vertex
j12 = (sent_as [] u12_0 ∷ sent_as [] u12_1 ∷ sent_as [] u12_2 ∷ [])

abbrev r12 : List Vertex
r12 = (sent_as [] u12_0 ∷ sent_as [] u12_1 ∷ sent_as [] u12_2 ∷ [])

abbrev k12 : Received
k12 = received_of s12 j12

pub record RandomCase12 : Type 0 where
  pub answers : answers_from s12 [] ((sent_as [] u12_0, true) ∷ (sent_as [] u12_1, true) ∷ (sent_as [] u12_2, true) ∷ []) ≡ (Ok (receipt.Parked 1) ∷ Ok (receipt.Parked 1) ∷ Ok (receipt.Admitted 3) ∷ [])
  pub kept : journal_of s12 ((sent_as [] u12_0, true) ∷ (sent_as [] u12_1, true) ∷ (sent_as [] u12_2, true) ∷ []) ≡ j12
  pub settled : names_of (settled_of s12.config k12) ≡ (dg (13 ∷ 0 ∷ 1 ∷ 0 ∷ 26 ∷ []) ∷ dg (22 ∷ 0 ∷ 2 ∷ 0 ∷ 44 ∷ []) ∷ dg (28 ∷ 0 ∷ 0 ∷ 0 ∷ 16 ∷ []) ∷ [])
  pub parked : names_of (parked_of s12.config k12) ≡ ([])
  pub dropped : names_of (dropped_of s12.config k12) ≡ ([])
  pub faulty : faulty_named s12 k12 ≡ ([])
  pub panorama : panorama_of s12.config k12 ≡ (Correct (dg (22 ∷ 0 ∷ 2 ∷ 0 ∷ 44 ∷ [])) ∷ [])
  pub fork : name_of (fork_choice s12.config k12) ≡ Some (dg (28 ∷ 0 ∷ 0 ∷ 0 ∷ 16 ∷ []))
  pub decisions : decisions_of s12 j12 ≡ (record { block = dg (28 ∷ 0 ∷ 0 ∷ 0 ∷ 16 ∷ []); height = 0; level = 1; quorum = 1; at = 3 } ∷ [])
  pub culprits : culprits_of s12 j12 r12 ≡ ([])
  pub steps : (step s12 k12 0 48 (7 ∷ []) ∷ step s12 k12 0 45 (7 ∷ []) ∷ step s12 k12 0 42 (7 ∷ []) ∷ []) ≡ (Some (record { kind = kind.Propose; unit = record { instance = dg (0 ∷ 0 ∷ 0 ∷ 0 ∷ []); creator = 0; seq = 3; time = 48; exponent = 4; panorama = (Correct (dg (22 ∷ 0 ∷ 2 ∷ 0 ∷ 44 ∷ [])) ∷ []); value = Some ((7 ∷ [])); endorsed = ([]) } }) ∷ None ∷ None ∷ [])

-- ---- case 13

abbrev s13 : Setting
s13 = named_by spread (record { weights = (1 ∷ 1 ∷ []); ftt = 0; levels = 2; min_exponent = 4; max_exponent = 6; leaders = Table (0 ∷ 1 ∷ 0 ∷ []); max_records = 8; max_parked = 4096; end = None })

abbrev u13_0 : WireUnit
u13_0 = record { instance = dg (0 ∷ 0 ∷ 0 ∷ 0 ∷ []); creator = 1; seq = 0; time = 16; exponent = 4; panorama = (Correct (dg (180 ∷ 204 ∷ 122 ∷ 213 ∷ 109 ∷ 180 ∷ 56 ∷ 181 ∷ 3 ∷ 139 ∷ 206 ∷ 131 ∷ 187 ∷ 245 ∷ 212 ∷ 200 ∷ 197 ∷ 229 ∷ 217 ∷ 42 ∷ 118 ∷ 11 ∷ 255 ∷ 210 ∷ 198 ∷ 188 ∷ 149 ∷ 132 ∷ 181 ∷ 192 ∷ 242 ∷ 4 ∷ [])) ∷ Absent ∷ []); value = Some ((0 ∷ 0 ∷ 0 ∷ 1 ∷ 0 ∷ 0 ∷ 0 ∷ 0 ∷ 0 ∷ 0 ∷ 0 ∷ 16 ∷ [])); endorsed = ([]) }

abbrev u13_1 : WireUnit
u13_1 = record { instance = dg (0 ∷ 0 ∷ 0 ∷ 0 ∷ []); creator = 1; seq = 0; time = 16; exponent = 4; panorama = (Absent ∷ Absent ∷ []); value = Some ((0 ∷ 0 ∷ 0 ∷ 1 ∷ 0 ∷ 0 ∷ 0 ∷ 0 ∷ 0 ∷ 0 ∷ 0 ∷ 16 ∷ [])); endorsed = ([]) }

abbrev u13_2 : WireUnit
u13_2 = record { instance = dg (0 ∷ 0 ∷ 0 ∷ 0 ∷ []); creator = 1; seq = 0; time = 35; exponent = 4; panorama = (Correct (dg (59 ∷ 0 ∷ 0 ∷ 0 ∷ 32 ∷ [])) ∷ Absent ∷ Absent ∷ []); value = None; endorsed = ([]) }

abbrev u13_3 : WireUnit
u13_3 = record { instance = dg (0 ∷ 0 ∷ 0 ∷ 0 ∷ []); creator = 1; seq = 0; time = 35; exponent = 4; panorama = (Correct (dg (59 ∷ 0 ∷ 0 ∷ 0 ∷ 32 ∷ [])) ∷ Absent ∷ []); value = None; endorsed = ([]) }

abbrev u13_4 : WireUnit
u13_4 = record { instance = dg (0 ∷ 0 ∷ 0 ∷ 0 ∷ []); creator = 0; seq = 0; time = 32; exponent = 4; panorama = (Absent ∷ Absent ∷ []); value = Some ((80 ∷ 121 ∷ 4 ∷ 133 ∷ 253 ∷ 43 ∷ 215 ∷ 19 ∷ 23 ∷ 68 ∷ 75 ∷ [])); endorsed = ([]) }

abbrev u13_5 : WireUnit
u13_5 = record { instance = dg (0 ∷ 0 ∷ 0 ∷ 0 ∷ []); creator = 0; seq = 1; time = 42; exponent = 4; panorama = (Correct (dg (59 ∷ 0 ∷ 0 ∷ 0 ∷ 32 ∷ [])) ∷ Absent ∷ []); value = None; endorsed = ([]) }

abbrev j13 : List Vertex
j13 = (sent_as [] u13_0 ∷ sent_as [] u13_3 ∷ sent_as [] u13_4 ∷ sent_as [] u13_5 ∷ both_as [] u13_2 [] u13_0 ∷ [])

abbrev r13 : List Vertex
r13 = (sent_as [] u13_5 ∷ sent_as [] u13_4 ∷ sent_as [] u13_1 ∷ sent_as [] u13_3 ∷ both_as [] u13_2 [] u13_0 ∷ [])

abbrev k13 : Received
k13 = received_of s13 j13

pub record RandomCase13 : Type 0 where
  pub answers : answers_from s13 [] ((sent_as [] u13_0, true) ∷ (sent_as [] u13_1, true) ∷ (sent_as [] u13_1, true) ∷ (sent_as [] u13_2, true) ∷ (sent_as [] u13_3, true) ∷ (sent_as [] u13_4, true) ∷ (sent_as [] u13_5, true) ∷ (both_as [] u13_2 [] u13_0, true) ∷ []) ≡ (Ok (receipt.Parked 1) ∷ Err (cause.Clash (dg (37 ∷ 1 ∷ 0 ∷ 0 ∷ 16 ∷ []))) ∷ Err (cause.Clash (dg (37 ∷ 1 ∷ 0 ∷ 0 ∷ 16 ∷ []))) ∷ Err (cause.Local rule.PanoramaLength) ∷ Ok (receipt.Parked 1) ∷ Ok (receipt.Admitted 2) ∷ Ok (receipt.Admitted 1) ∷ Ok (receipt.Admitted 0) ∷ [])
  pub kept : journal_of s13 ((sent_as [] u13_0, true) ∷ (sent_as [] u13_1, true) ∷ (sent_as [] u13_1, true) ∷ (sent_as [] u13_2, true) ∷ (sent_as [] u13_3, true) ∷ (sent_as [] u13_4, true) ∷ (sent_as [] u13_5, true) ∷ (both_as [] u13_2 [] u13_0, true) ∷ []) ≡ j13
  pub settled : names_of (settled_of s13.config k13) ≡ (dg (18 ∷ 1 ∷ 0 ∷ 0 ∷ 35 ∷ []) ∷ dg (59 ∷ 0 ∷ 0 ∷ 0 ∷ 32 ∷ []) ∷ dg (93 ∷ 0 ∷ 1 ∷ 0 ∷ 42 ∷ []) ∷ [])
  pub parked : names_of (parked_of s13.config k13) ≡ (dg (37 ∷ 1 ∷ 0 ∷ 0 ∷ 16 ∷ []) ∷ [])
  pub dropped : names_of (dropped_of s13.config k13) ≡ ([])
  pub faulty : faulty_named s13 k13 ≡ (1 ∷ [])
  pub panorama : panorama_of s13.config k13 ≡ (Correct (dg (93 ∷ 0 ∷ 1 ∷ 0 ∷ 42 ∷ [])) ∷ Faulty ∷ [])
  pub fork : name_of (fork_choice s13.config k13) ≡ Some (dg (59 ∷ 0 ∷ 0 ∷ 0 ∷ 32 ∷ []))
  pub decisions : decisions_of s13 j13 ≡ ([])
  pub missing : map (missing_of s13.config k13 (settled_of s13.config k13)) (named s13 u13_0 ∷ []) ≡ ((need.Unit (dg (180 ∷ 204 ∷ 122 ∷ 213 ∷ 109 ∷ 180 ∷ 56 ∷ 181 ∷ 3 ∷ 139 ∷ 206 ∷ 131 ∷ 187 ∷ 245 ∷ 212 ∷ 200 ∷ 197 ∷ 229 ∷ 217 ∷ 42 ∷ 118 ∷ 11 ∷ 255 ∷ 210 ∷ 198 ∷ 188 ∷ 149 ∷ 132 ∷ 181 ∷ 192 ∷ 242 ∷ 4 ∷ [])) ∷ []) ∷ [])
  pub culprits : culprits_of s13 j13 r13 ≡ (1 ∷ [])
  pub pair1 : pair_of (shown_in_either s13 j13 r13) 1 ≡ Some (named s13 u13_3, named s13 u13_2)
  pub steps : (step s13 k13 1 43 (7 ∷ []) ∷ step s13 k13 0 42 (7 ∷ []) ∷ step s13 k13 0 48 (7 ∷ []) ∷ step s13 k13 1 42 (7 ∷ []) ∷ []) ≡ (None ∷ None ∷ Some (record { kind = kind.Propose; unit = record { instance = dg (0 ∷ 0 ∷ 0 ∷ 0 ∷ []); creator = 0; seq = 2; time = 48; exponent = 4; panorama = (Correct (dg (93 ∷ 0 ∷ 1 ∷ 0 ∷ 42 ∷ [])) ∷ Faulty ∷ []); value = Some ((7 ∷ [])); endorsed = ([]) } }) ∷ None ∷ [])

-- ---- case 14

abbrev s14 : Setting
s14 = named_by spread (record { weights = (4 ∷ 3 ∷ 4 ∷ 1 ∷ []); ftt = 10; levels = 3; min_exponent = 3; max_exponent = 7; leaders = Table (2 ∷ 1 ∷ 3 ∷ []); max_records = 131072; max_parked = 4096; end = Some (0) })

abbrev u14_0 : WireUnit
u14_0 = record { instance = dg (0 ∷ 0 ∷ 0 ∷ 0 ∷ []); creator = 1; seq = 1; time = 15; exponent = 3; panorama = (Absent ∷ Correct (dg (37 ∷ 1 ∷ 0 ∷ 0 ∷ 8 ∷ [])) ∷ Absent ∷ Absent ∷ []); value = None; endorsed = ([]) }

abbrev u14_1 : WireUnit
u14_1 = record { instance = dg (0 ∷ 0 ∷ 0 ∷ 0 ∷ []); creator = 1; seq = 1; time = 14; exponent = 3; panorama = (Absent ∷ Correct (dg (15 ∷ 1 ∷ 0 ∷ 0 ∷ 8 ∷ [])) ∷ Absent ∷ Absent ∷ []); value = None; endorsed = ([]) }

abbrev u14_2 : WireUnit
u14_2 = record { instance = dg (0 ∷ 0 ∷ 0 ∷ 0 ∷ []); creator = 2; seq = 0; time = 10; exponent = 3; panorama = (Absent ∷ Faulty ∷ Absent ∷ Absent ∷ []); value = None; endorsed = ([]) }

abbrev u14_3 : WireUnit
u14_3 = record { instance = dg (0 ∷ 0 ∷ 0 ∷ 0 ∷ []); creator = 1; seq = 0; time = 8; exponent = 3; panorama = (Absent ∷ Absent ∷ Absent ∷ Absent ∷ []); value = Some ((24 ∷ 73 ∷ 89 ∷ 89 ∷ 116 ∷ 81 ∷ [])); endorsed = ([]) }

abbrev u14_4 : WireUnit
u14_4 = record { instance = dg (0 ∷ 0 ∷ 0 ∷ 0 ∷ []); creator = 1; seq = 0; time = 0; exponent = 6; panorama = (Absent ∷ Absent ∷ Absent ∷ Absent ∷ []); value = Some ((0 ∷ 0 ∷ 0 ∷ 1 ∷ 0 ∷ 0 ∷ 0 ∷ 0 ∷ 0 ∷ 0 ∷ 0 ∷ 0 ∷ [])); endorsed = ([]) }

abbrev u14_5 : WireUnit
u14_5 = record { instance = dg (0 ∷ 0 ∷ 0 ∷ 0 ∷ []); creator = 1; seq = 0; time = 8; exponent = 3; panorama = (Absent ∷ Absent ∷ Absent ∷ Absent ∷ []); value = Some ((0 ∷ 0 ∷ 0 ∷ 1 ∷ 0 ∷ 0 ∷ 0 ∷ 0 ∷ 0 ∷ 0 ∷ 0 ∷ 8 ∷ [])); endorsed = ([]) }

abbrev j14 : List Vertex
j14 = (sent_as [] u14_0 ∷ sent_as [] u14_1 ∷ sent_as [] u14_3 ∷ sent_as [] u14_4 ∷ sent_as [] u14_5 ∷ [])

abbrev r14 : List Vertex
r14 = (sent_as [] u14_5 ∷ sent_as [] u14_4 ∷ sent_as [] u14_1 ∷ sent_as [] u14_3 ∷ [])

abbrev k14 : Received
k14 = received_of s14 j14

pub record RandomCase14 : Type 0 where
  pub answers : answers_from s14 [] ((sent_as [] u14_0, true) ∷ (sent_as [] u14_1, true) ∷ (sent_as [] u14_2, true) ∷ (sent_as [] u14_3, true) ∷ (sent_as [] u14_4, true) ∷ (sent_as [] u14_5, true) ∷ []) ≡ (Ok (receipt.Parked 1) ∷ Ok (receipt.Parked 1) ∷ Err (cause.Local rule.NoBlock) ∷ Ok (receipt.Admitted 2) ∷ Ok (receipt.Dropped rule.NotLeader) ∷ Ok (receipt.Admitted 2) ∷ [])
  pub kept : journal_of s14 ((sent_as [] u14_0, true) ∷ (sent_as [] u14_1, true) ∷ (sent_as [] u14_2, true) ∷ (sent_as [] u14_3, true) ∷ (sent_as [] u14_4, true) ∷ (sent_as [] u14_5, true) ∷ []) ≡ j14
  pub settled : names_of (settled_of s14.config k14) ≡ (dg (15 ∷ 1 ∷ 0 ∷ 0 ∷ 8 ∷ []) ∷ dg (37 ∷ 1 ∷ 0 ∷ 0 ∷ 8 ∷ []) ∷ dg (82 ∷ 1 ∷ 1 ∷ 0 ∷ 14 ∷ []) ∷ dg (93 ∷ 1 ∷ 1 ∷ 0 ∷ 15 ∷ []) ∷ [])
  pub parked : names_of (parked_of s14.config k14) ≡ ([])
  pub dropped : names_of (dropped_of s14.config k14) ≡ (dg (47 ∷ 1 ∷ 0 ∷ 0 ∷ 0 ∷ []) ∷ [])
  pub faulty : faulty_named s14 k14 ≡ (1 ∷ [])
  pub panorama : panorama_of s14.config k14 ≡ (Absent ∷ Faulty ∷ Absent ∷ Absent ∷ [])
  pub fork : name_of (fork_choice s14.config k14) ≡ None
  pub decisions : decisions_of s14 j14 ≡ ([])
  pub culprits : culprits_of s14 j14 r14 ≡ (1 ∷ [])
  pub pair1 : pair_of (shown_in_either s14 j14 r14) 1 ≡ Some (named s14 u14_3, named s14 u14_5)
  pub steps : (step s14 k14 2 24 (7 ∷ []) ∷ step s14 k14 3 17 (7 ∷ []) ∷ step s14 k14 0 24 (7 ∷ []) ∷ step s14 k14 3 24 (7 ∷ []) ∷ []) ≡ (Some (record { kind = kind.Propose; unit = record { instance = dg (0 ∷ 0 ∷ 0 ∷ 0 ∷ []); creator = 2; seq = 0; time = 24; exponent = 3; panorama = (Absent ∷ Faulty ∷ Absent ∷ Absent ∷ []); value = Some ((7 ∷ [])); endorsed = ([]) } }) ∷ Some (record { kind = kind.Propose; unit = record { instance = dg (0 ∷ 0 ∷ 0 ∷ 0 ∷ []); creator = 3; seq = 0; time = 16; exponent = 3; panorama = (Absent ∷ Faulty ∷ Absent ∷ Absent ∷ []); value = Some ((7 ∷ [])); endorsed = ([]) } }) ∷ None ∷ None ∷ [])

-- ---- case 15

abbrev s15 : Setting
s15 = named_by spread (record { weights = (5 ∷ 3 ∷ 5 ∷ []); ftt = 4; levels = 3; min_exponent = 4; max_exponent = 6; leaders = Table (2 ∷ []); max_records = 131072; max_parked = 4096; end = Some (0) })

abbrev u15_0 : WireUnit
u15_0 = record { instance = dg (0 ∷ 0 ∷ 0 ∷ 0 ∷ []); creator = 2; seq = 0; time = 44; exponent = 4; panorama = (Absent ∷ Absent ∷ Absent ∷ []); value = None; endorsed = ([]) }

abbrev u15_1 : WireUnit
u15_1 = record { instance = dg (0 ∷ 0 ∷ 0 ∷ 0 ∷ []); creator = 1; seq = 0; time = 42; exponent = 4; panorama = (Absent ∷ Absent ∷ Absent ∷ []); value = None; endorsed = ([]) }

abbrev u15_2 : WireUnit
u15_2 = record { instance = dg (0 ∷ 0 ∷ 0 ∷ 0 ∷ []); creator = 2; seq = 0; time = 16; exponent = 4; panorama = (Absent ∷ Absent ∷ Absent ∷ []); value = Some ((0 ∷ 0 ∷ 0 ∷ 2 ∷ 0 ∷ 0 ∷ 0 ∷ 0 ∷ 0 ∷ 0 ∷ 0 ∷ 16 ∷ [])); endorsed = ([]) }

abbrev u15_3 : WireUnit
u15_3 = record { instance = dg (217 ∷ 41 ∷ 138 ∷ 16 ∷ 209 ∷ 176 ∷ 115 ∷ 88 ∷ 55 ∷ 220 ∷ 75 ∷ 216 ∷ 93 ∷ 172 ∷ 100 ∷ 27 ∷ 15 ∷ 60 ∷ 239 ∷ 39 ∷ 164 ∷ 126 ∷ 93 ∷ 83 ∷ 165 ∷ 79 ∷ 47 ∷ 63 ∷ 91 ∷ 47 ∷ 207 ∷ 250 ∷ []); creator = 2; seq = 0; time = 16; exponent = 4; panorama = (Absent ∷ Absent ∷ Absent ∷ []); value = Some ((0 ∷ 0 ∷ 0 ∷ 2 ∷ 0 ∷ 0 ∷ 0 ∷ 0 ∷ 0 ∷ 0 ∷ 0 ∷ 16 ∷ [])); endorsed = ([]) }

abbrev u15_4 : WireUnit
u15_4 = record { instance = dg (0 ∷ 0 ∷ 0 ∷ 0 ∷ []); creator = 2; seq = 0; time = 16; exponent = 4; panorama = (Faulty ∷ Absent ∷ Absent ∷ []); value = Some ((0 ∷ 0 ∷ 0 ∷ 2 ∷ 0 ∷ 0 ∷ 0 ∷ 0 ∷ 0 ∷ 0 ∷ 0 ∷ 16 ∷ [])); endorsed = ([]) }

abbrev u15_5 : WireUnit
u15_5 = record { instance = dg (0 ∷ 0 ∷ 0 ∷ 0 ∷ []); creator = 0; seq = 0; time = 42; exponent = 4; panorama = (Absent ∷ Absent ∷ Absent ∷ []); value = None; endorsed = ([]) }

abbrev j15 : List Vertex
j15 = (sent_as [] u15_4 ∷ [])

abbrev r15 : List Vertex
r15 = (sent_as [] u15_4 ∷ [])

abbrev k15 : Received
k15 = received_of s15 j15

pub record RandomCase15 : Type 0 where
  pub answers : answers_from s15 [] ((sent_as [] u15_0, true) ∷ (sent_as [] u15_1, true) ∷ (both_as [] u15_2 [] u15_3, true) ∷ (sent_as [] u15_4, true) ∷ (sent_as [] u15_2, true) ∷ (sent_as [] u15_5, true) ∷ []) ≡ (Err (cause.Local rule.NoBlock) ∷ Err (cause.Local rule.NoBlock) ∷ Err (cause.Pair fault.Instance) ∷ Ok (receipt.Parked 1) ∷ Err (cause.Clash (dg (46 ∷ 2 ∷ 0 ∷ 0 ∷ 16 ∷ []))) ∷ Err (cause.Local rule.NoBlock) ∷ [])
  pub kept : journal_of s15 ((sent_as [] u15_0, true) ∷ (sent_as [] u15_1, true) ∷ (both_as [] u15_2 [] u15_3, true) ∷ (sent_as [] u15_4, true) ∷ (sent_as [] u15_2, true) ∷ (sent_as [] u15_5, true) ∷ []) ≡ j15
  pub settled : names_of (settled_of s15.config k15) ≡ ([])
  pub parked : names_of (parked_of s15.config k15) ≡ (dg (46 ∷ 2 ∷ 0 ∷ 0 ∷ 16 ∷ []) ∷ [])
  pub dropped : names_of (dropped_of s15.config k15) ≡ ([])
  pub faulty : faulty_named s15 k15 ≡ ([])
  pub panorama : panorama_of s15.config k15 ≡ (Absent ∷ Absent ∷ Absent ∷ [])
  pub fork : name_of (fork_choice s15.config k15) ≡ None
  pub decisions : decisions_of s15 j15 ≡ ([])
  pub missing : map (missing_of s15.config k15 (settled_of s15.config k15)) (named s15 u15_4 ∷ []) ≡ ((need.Evidence 0 ∷ []) ∷ [])
  pub culprits : culprits_of s15 j15 r15 ≡ ([])
  pub steps : (step s15 k15 2 32 (7 ∷ []) ∷ step s15 k15 0 17 (7 ∷ []) ∷ step s15 k15 1 26 (7 ∷ []) ∷ step s15 k15 0 26 (7 ∷ []) ∷ []) ≡ (Some (record { kind = kind.Propose; unit = record { instance = dg (0 ∷ 0 ∷ 0 ∷ 0 ∷ []); creator = 2; seq = 0; time = 32; exponent = 4; panorama = (Absent ∷ Absent ∷ Absent ∷ []); value = Some ((7 ∷ [])); endorsed = ([]) } }) ∷ None ∷ None ∷ None ∷ [])

-- ---- case 16

abbrev s16 : Setting
s16 = named_by spread (record { weights = (1 ∷ []); ftt = 0; levels = 1; min_exponent = 4; max_exponent = 5; leaders = Table (0 ∷ []); max_records = 2; max_parked = 4096; end = None })

abbrev u16_0 : WireUnit
u16_0 = record { instance = dg (0 ∷ 0 ∷ 0 ∷ 0 ∷ []); creator = 0; seq = 3; time = 31; exponent = 5; panorama = (Correct (dg (39 ∷ 0 ∷ 2 ∷ 0 ∷ 32 ∷ [])) ∷ []); value = None; endorsed = ([]) }

abbrev u16_1 : WireUnit
u16_1 = record { instance = dg (0 ∷ 0 ∷ 0 ∷ 0 ∷ []); creator = 0; seq = 1; time = 28; exponent = 4; panorama = (Correct (dg (28 ∷ 0 ∷ 0 ∷ 0 ∷ 16 ∷ [])) ∷ []); value = None; endorsed = ([]) }

abbrev u16_2 : WireUnit
u16_2 = record { instance = dg (0 ∷ 0 ∷ 0 ∷ 0 ∷ []); creator = 0; seq = 3; time = 42; exponent = 5; panorama = (Correct (dg (39 ∷ 0 ∷ 2 ∷ 0 ∷ 32 ∷ [])) ∷ []); value = None; endorsed = ([]) }

abbrev u16_3 : WireUnit
u16_3 = record { instance = dg (0 ∷ 0 ∷ 0 ∷ 0 ∷ []); creator = 0; seq = 2; time = 32; exponent = 5; panorama = (Correct (dg (35 ∷ 0 ∷ 1 ∷ 0 ∷ 28 ∷ [])) ∷ []); value = Some ((0 ∷ 0 ∷ 0 ∷ 0 ∷ 0 ∷ 0 ∷ 0 ∷ 0 ∷ 0 ∷ 0 ∷ 0 ∷ 32 ∷ [])); endorsed = ([]) }

abbrev u16_4 : WireUnit
u16_4 = record { instance = dg (0 ∷ 0 ∷ 0 ∷ 0 ∷ []); creator = 0; seq = 0; time = 16; exponent = 4; panorama = (Absent ∷ []); value = Some ((0 ∷ 0 ∷ 0 ∷ 0 ∷ 0 ∷ 0 ∷ 0 ∷ 0 ∷ 0 ∷ 0 ∷ 0 ∷ 16 ∷ [])); endorsed = ([]) }

abbrev j16 : List Vertex
j16 = (sent_as [] u16_0 ∷ sent_as [] u16_1 ∷ [])

abbrev r16 : List Vertex
r16 = (sent_as [] u16_0 ∷ sent_as [] u16_2 ∷ [])

abbrev k16 : Received
k16 = received_of s16 j16

pub record RandomCase16 : Type 0 where
  pub answers : answers_from s16 [] ((sent_as [] u16_0, true) ∷ (sent_as [] u16_1, true) ∷ (sent_as [] u16_2, true) ∷ (sent_as [] u16_3, true) ∷ (sent_as [] u16_4, true) ∷ []) ≡ (Ok (receipt.Parked 1) ∷ Ok (receipt.Parked 1) ∷ Err cause.RecordsFull ∷ Err cause.RecordsFull ∷ Err cause.RecordsFull ∷ [])
  pub kept : journal_of s16 ((sent_as [] u16_0, true) ∷ (sent_as [] u16_1, true) ∷ (sent_as [] u16_2, true) ∷ (sent_as [] u16_3, true) ∷ (sent_as [] u16_4, true) ∷ []) ≡ j16
  pub settled : names_of (settled_of s16.config k16) ≡ ([])
  pub parked : names_of (parked_of s16.config k16) ≡ (dg (35 ∷ 0 ∷ 1 ∷ 0 ∷ 28 ∷ []) ∷ dg (81 ∷ 0 ∷ 3 ∷ 0 ∷ 31 ∷ []) ∷ [])
  pub dropped : names_of (dropped_of s16.config k16) ≡ ([])
  pub faulty : faulty_named s16 k16 ≡ ([])
  pub panorama : panorama_of s16.config k16 ≡ (Absent ∷ [])
  pub fork : name_of (fork_choice s16.config k16) ≡ None
  pub decisions : decisions_of s16 j16 ≡ ([])
  pub missing : map (missing_of s16.config k16 (settled_of s16.config k16)) (named s16 u16_0 ∷ named s16 u16_1 ∷ []) ≡ ((need.Unit (dg (39 ∷ 0 ∷ 2 ∷ 0 ∷ 32 ∷ [])) ∷ []) ∷ (need.Unit (dg (28 ∷ 0 ∷ 0 ∷ 0 ∷ 16 ∷ [])) ∷ []) ∷ [])
  pub culprits : culprits_of s16 j16 r16 ≡ ([])
  pub steps : (step s16 k16 0 32 (7 ∷ []) ∷ step s16 k16 0 26 (7 ∷ []) ∷ step s16 k16 0 32 (7 ∷ []) ∷ []) ≡ (Some (record { kind = kind.Propose; unit = record { instance = dg (0 ∷ 0 ∷ 0 ∷ 0 ∷ []); creator = 0; seq = 0; time = 32; exponent = 4; panorama = (Absent ∷ []); value = Some ((7 ∷ [])); endorsed = ([]) } }) ∷ None ∷ Some (record { kind = kind.Propose; unit = record { instance = dg (0 ∷ 0 ∷ 0 ∷ 0 ∷ []); creator = 0; seq = 0; time = 32; exponent = 4; panorama = (Absent ∷ []); value = Some ((7 ∷ [])); endorsed = ([]) } }) ∷ [])

-- ---- case 17

abbrev s17 : Setting
s17 = named_by spread (record { weights = (4 ∷ 2 ∷ 4 ∷ 4 ∷ []); ftt = 5; levels = 3; min_exponent = 5; max_exponent = 5; leaders = Table (0 ∷ 3 ∷ []); max_records = 131072; max_parked = 4096; end = None })

abbrev u17_0 : WireUnit
u17_0 = record { instance = dg (0 ∷ 0 ∷ 0 ∷ 0 ∷ []); creator = 3; seq = 1; time = 32; exponent = 5; panorama = (Absent ∷ Absent ∷ Absent ∷ Absent ∷ []); value = Some (([])); endorsed = ([]) }

abbrev u17_1 : WireUnit
u17_1 = record { instance = dg (0 ∷ 0 ∷ 0 ∷ 0 ∷ []); creator = 3; seq = 0; time = 32; exponent = 5; panorama = (Absent ∷ Absent ∷ Absent ∷ Absent ∷ []); value = Some (([])); endorsed = ([]) }

abbrev u17_2 : WireUnit
u17_2 = record { instance = dg (0 ∷ 0 ∷ 0 ∷ 0 ∷ []); creator = 1; seq = 0; time = 36; exponent = 5; panorama = (Absent ∷ Absent ∷ Absent ∷ Correct (dg (21 ∷ 3 ∷ 0 ∷ 0 ∷ 32 ∷ [])) ∷ []); value = None; endorsed = ([]) }

abbrev u17_3 : WireUnit
u17_3 = record { instance = dg (0 ∷ 0 ∷ 0 ∷ 0 ∷ []); creator = 3; seq = 1; time = 53; exponent = 255; panorama = (Absent ∷ Correct (dg (34 ∷ 1 ∷ 0 ∷ 0 ∷ 36 ∷ [])) ∷ Absent ∷ Correct (dg (21 ∷ 3 ∷ 0 ∷ 0 ∷ 32 ∷ [])) ∷ []); value = None; endorsed = ([]) }

abbrev u17_4 : WireUnit
u17_4 = record { instance = dg (0 ∷ 0 ∷ 0 ∷ 0 ∷ []); creator = 3; seq = 1; time = 53; exponent = 5; panorama = (Absent ∷ Correct (dg (34 ∷ 1 ∷ 0 ∷ 0 ∷ 36 ∷ [])) ∷ Absent ∷ Correct (dg (21 ∷ 3 ∷ 0 ∷ 0 ∷ 32 ∷ [])) ∷ []); value = None; endorsed = ([]) }

abbrev u17_5 : WireUnit
u17_5 = record { instance = dg (0 ∷ 0 ∷ 0 ∷ 0 ∷ []); creator = 1; seq = 1; time = 53; exponent = 5; panorama = (Absent ∷ Correct (dg (34 ∷ 1 ∷ 0 ∷ 0 ∷ 36 ∷ [])) ∷ Absent ∷ Correct (dg (46 ∷ 3 ∷ 1 ∷ 0 ∷ 53 ∷ [])) ∷ []); value = None; endorsed = ([]) }

abbrev j17 : List Vertex
j17 = (sent_as [] u17_1 ∷ sent_as [] u17_2 ∷ sent_as [] u17_4 ∷ sent_as [] u17_5 ∷ [])

abbrev r17 : List Vertex
r17 = (sent_as [] u17_1 ∷ sent_as [] u17_5 ∷ sent_as [] u17_2 ∷ sent_as [] u17_4 ∷ [])

abbrev k17 : Received
k17 = received_of s17 j17

pub record RandomCase17 : Type 0 where
  pub answers : answers_from s17 [] ((sent_as [] u17_0, true) ∷ (sent_as [] u17_1, true) ∷ (sent_as [] u17_2, true) ∷ (sent_as [] u17_3, true) ∷ (sent_as [] u17_4, true) ∷ (sent_as [] u17_5, true) ∷ []) ≡ (Err (cause.Local rule.FirstSequence) ∷ Ok (receipt.Admitted 1) ∷ Ok (receipt.Admitted 1) ∷ Err (cause.Local rule.RoundExponent) ∷ Ok (receipt.Admitted 1) ∷ Ok (receipt.Admitted 1) ∷ [])
  pub kept : journal_of s17 ((sent_as [] u17_0, true) ∷ (sent_as [] u17_1, true) ∷ (sent_as [] u17_2, true) ∷ (sent_as [] u17_3, true) ∷ (sent_as [] u17_4, true) ∷ (sent_as [] u17_5, true) ∷ []) ≡ j17
  pub settled : names_of (settled_of s17.config k17) ≡ (dg (21 ∷ 3 ∷ 0 ∷ 0 ∷ 32 ∷ []) ∷ dg (32 ∷ 1 ∷ 1 ∷ 0 ∷ 53 ∷ []) ∷ dg (34 ∷ 1 ∷ 0 ∷ 0 ∷ 36 ∷ []) ∷ dg (46 ∷ 3 ∷ 1 ∷ 0 ∷ 53 ∷ []) ∷ [])
  pub parked : names_of (parked_of s17.config k17) ≡ ([])
  pub dropped : names_of (dropped_of s17.config k17) ≡ ([])
  pub faulty : faulty_named s17 k17 ≡ ([])
  pub panorama : panorama_of s17.config k17 ≡ (Absent ∷ Correct (dg (32 ∷ 1 ∷ 1 ∷ 0 ∷ 53 ∷ [])) ∷ Absent ∷ Correct (dg (46 ∷ 3 ∷ 1 ∷ 0 ∷ 53 ∷ [])) ∷ [])
  pub fork : name_of (fork_choice s17.config k17) ≡ Some (dg (21 ∷ 3 ∷ 0 ∷ 0 ∷ 32 ∷ []))
  pub decisions : decisions_of s17 j17 ≡ ([])
  pub culprits : culprits_of s17 j17 r17 ≡ ([])
  pub steps : (step s17 k17 0 53 (7 ∷ []) ∷ step s17 k17 0 54 (7 ∷ []) ∷ step s17 k17 2 54 (7 ∷ []) ∷ step s17 k17 3 53 (7 ∷ []) ∷ []) ≡ (Some (record { kind = kind.Witness; unit = record { instance = dg (0 ∷ 0 ∷ 0 ∷ 0 ∷ []); creator = 0; seq = 0; time = 53; exponent = 5; panorama = (Absent ∷ Correct (dg (32 ∷ 1 ∷ 1 ∷ 0 ∷ 53 ∷ [])) ∷ Absent ∷ Correct (dg (46 ∷ 3 ∷ 1 ∷ 0 ∷ 53 ∷ [])) ∷ []); value = None; endorsed = ([]) } }) ∷ Some (record { kind = kind.Witness; unit = record { instance = dg (0 ∷ 0 ∷ 0 ∷ 0 ∷ []); creator = 0; seq = 0; time = 54; exponent = 5; panorama = (Absent ∷ Correct (dg (32 ∷ 1 ∷ 1 ∷ 0 ∷ 53 ∷ [])) ∷ Absent ∷ Correct (dg (46 ∷ 3 ∷ 1 ∷ 0 ∷ 53 ∷ [])) ∷ []); value = None; endorsed = ([]) } }) ∷ Some (record { kind = kind.Witness; unit = record { instance = dg (0 ∷ 0 ∷ 0 ∷ 0 ∷ []); creator = 2; seq = 0; time = 54; exponent = 5; panorama = (Absent ∷ Correct (dg (32 ∷ 1 ∷ 1 ∷ 0 ∷ 53 ∷ [])) ∷ Absent ∷ Correct (dg (46 ∷ 3 ∷ 1 ∷ 0 ∷ 53 ∷ [])) ∷ []); value = None; endorsed = ([]) } }) ∷ None ∷ [])

-- ---- case 18

abbrev s18 : Setting
s18 = named_by spread (record { weights = (3 ∷ []); ftt = 0; levels = 1; min_exponent = 4; max_exponent = 5; leaders = Table (0 ∷ 0 ∷ []); max_records = 4; max_parked = 4096; end = Some (1) })

abbrev u18_0 : WireUnit
u18_0 = record { instance = dg (0 ∷ 0 ∷ 0 ∷ 0 ∷ []); creator = 0; seq = 0; time = 16; exponent = 4; panorama = (Absent ∷ []); value = Some ((0 ∷ 0 ∷ 0 ∷ 0 ∷ 0 ∷ 0 ∷ 0 ∷ 0 ∷ 0 ∷ 0 ∷ 0 ∷ 16 ∷ [])); endorsed = ([]) }

abbrev u18_1 : WireUnit
u18_1 = record { instance = dg (0 ∷ 0 ∷ 0 ∷ 0 ∷ []); creator = 0; seq = 1; time = 32; exponent = 4; panorama = (Correct (dg (28 ∷ 0 ∷ 0 ∷ 0 ∷ 16 ∷ [])) ∷ Absent ∷ []); value = Some ((0 ∷ 0 ∷ 0 ∷ 0 ∷ 0 ∷ 0 ∷ 0 ∷ 0 ∷ 0 ∷ 0 ∷ 0 ∷ 32 ∷ [])); endorsed = ([]) }

abbrev u18_2 : WireUnit
u18_2 = record { instance = dg (0 ∷ 0 ∷ 0 ∷ 0 ∷ []); creator = 0; seq = 1; time = 32; exponent = 4; panorama = (Correct (dg (28 ∷ 0 ∷ 0 ∷ 0 ∷ 16 ∷ [])) ∷ []); value = Some ((160 ∷ 187 ∷ 251 ∷ 142 ∷ 3 ∷ 44 ∷ 85 ∷ 197 ∷ 236 ∷ 70 ∷ 156 ∷ 173 ∷ 240 ∷ 159 ∷ 92 ∷ 22 ∷ 127 ∷ 134 ∷ 63 ∷ 58 ∷ [])); endorsed = ([]) }

abbrev u18_3 : WireUnit
u18_3 = record { instance = dg (0 ∷ 0 ∷ 0 ∷ 0 ∷ []); creator = 0; seq = 1; time = 32; exponent = 4; panorama = (Correct (dg (28 ∷ 0 ∷ 0 ∷ 0 ∷ 16 ∷ [])) ∷ []); value = Some ((0 ∷ 0 ∷ 0 ∷ 0 ∷ 0 ∷ 0 ∷ 0 ∷ 0 ∷ 0 ∷ 0 ∷ 0 ∷ 32 ∷ [])); endorsed = ([]) }

abbrev u18_4 : WireUnit
u18_4 = record { instance = dg (0 ∷ 0 ∷ 0 ∷ 0 ∷ []); creator = 0; seq = 2; time = 42; exponent = 4; panorama = (Correct (dg (76 ∷ 0 ∷ 1 ∷ 0 ∷ 32 ∷ [])) ∷ []); value = None; endorsed = ([]) }

abbrev u18_5 : WireUnit
u18_5 = record { instance = dg (0 ∷ 0 ∷ 0 ∷ 0 ∷ []); creator = 0; seq = 2; time = 48; exponent = 4; panorama = (Correct (dg (31 ∷ 0 ∷ 1 ∷ 0 ∷ 32 ∷ [])) ∷ []); value = Some ((0 ∷ 0 ∷ 0 ∷ 0 ∷ 0 ∷ 0 ∷ 0 ∷ 0 ∷ 0 ∷ 0 ∷ 0 ∷ 48 ∷ [])); endorsed = ([]) }

abbrev j18 : List Vertex
j18 = (sent_as [] u18_0 ∷ sent_as [] u18_2 ∷ sent_as [] u18_3 ∷ sent_as [] u18_4 ∷ [])

abbrev r18 : List Vertex
r18 = (sent_as [] u18_0 ∷ sent_as [] u18_3 ∷ sent_as [] u18_4 ∷ sent_as [] u18_5 ∷ [])

abbrev k18 : Received
k18 = received_of s18 j18

pub record RandomCase18 : Type 0 where
  pub answers : answers_from s18 [] ((sent_as [] u18_0, true) ∷ (sent_as [] u18_0, true) ∷ (sent_as [] u18_1, true) ∷ (sent_as [] u18_2, true) ∷ (sent_as [] u18_3, true) ∷ (sent_as [] u18_4, true) ∷ (sent_as [] u18_5, true) ∷ []) ≡ (Ok (receipt.Admitted 1) ∷ Ok receipt.Repeat ∷ Err (cause.Local rule.PanoramaLength) ∷ Ok (receipt.Admitted 1) ∷ Ok (receipt.Admitted 1) ∷ Ok (receipt.Admitted 1) ∷ Err cause.RecordsFull ∷ [])
  pub kept : journal_of s18 ((sent_as [] u18_0, true) ∷ (sent_as [] u18_0, true) ∷ (sent_as [] u18_1, true) ∷ (sent_as [] u18_2, true) ∷ (sent_as [] u18_3, true) ∷ (sent_as [] u18_4, true) ∷ (sent_as [] u18_5, true) ∷ []) ≡ j18
  pub settled : names_of (settled_of s18.config k18) ≡ (dg (0 ∷ 0 ∷ 2 ∷ 0 ∷ 42 ∷ []) ∷ dg (28 ∷ 0 ∷ 0 ∷ 0 ∷ 16 ∷ []) ∷ dg (31 ∷ 0 ∷ 1 ∷ 0 ∷ 32 ∷ []) ∷ dg (76 ∷ 0 ∷ 1 ∷ 0 ∷ 32 ∷ []) ∷ [])
  pub parked : names_of (parked_of s18.config k18) ≡ ([])
  pub dropped : names_of (dropped_of s18.config k18) ≡ ([])
  pub faulty : faulty_named s18 k18 ≡ (0 ∷ [])
  pub panorama : panorama_of s18.config k18 ≡ (Faulty ∷ [])
  pub fork : name_of (fork_choice s18.config k18) ≡ None
  pub decisions : decisions_of s18 j18 ≡ (record { block = dg (28 ∷ 0 ∷ 0 ∷ 0 ∷ 16 ∷ []); height = 0; level = 1; quorum = 2; at = 2 } ∷ [])
  pub culprits : culprits_of s18 j18 r18 ≡ (0 ∷ [])
  pub pair0 : pair_of (shown_in_either s18 j18 r18) 0 ≡ Some (named s18 u18_3, named s18 u18_2)
  pub steps : (step s18 k18 0 42 (7 ∷ []) ∷ step s18 k18 0 43 (7 ∷ []) ∷ step s18 k18 0 48 (7 ∷ []) ∷ []) ≡ (None ∷ None ∷ None ∷ [])

-- ---- case 19

abbrev s19 : Setting
s19 = named_by spread (record { weights = (1 ∷ []); ftt = 0; levels = 3; min_exponent = 4; max_exponent = 4; leaders = Table (0 ∷ 0 ∷ 0 ∷ 0 ∷ 0 ∷ 0 ∷ []); max_records = 131072; max_parked = 4096; end = None })

abbrev u19_0 : WireUnit
u19_0 = record { instance = dg (0 ∷ 0 ∷ 0 ∷ 0 ∷ []); creator = 0; seq = 3; time = 42; exponent = 4; panorama = (Correct (dg (36 ∷ 0 ∷ 2 ∷ 0 ∷ 32 ∷ [])) ∷ []); value = None; endorsed = ([]) }

abbrev u19_1 : WireUnit
u19_1 = record { instance = dg (0 ∷ 0 ∷ 0 ∷ 0 ∷ []); creator = 0; seq = 1; time = 28; exponent = 4; panorama = (Correct (dg (12 ∷ 0 ∷ 0 ∷ 0 ∷ 16 ∷ [])) ∷ []); value = None; endorsed = ([]) }

abbrev u19_2 : WireUnit
u19_2 = record { instance = dg (0 ∷ 0 ∷ 0 ∷ 0 ∷ []); creator = 0; seq = 0; time = 16; exponent = 4; panorama = (Absent ∷ []); value = Some (([])); endorsed = ([]) }

abbrev u19_3 : WireUnit
u19_3 = record { instance = dg (0 ∷ 0 ∷ 0 ∷ 0 ∷ []); creator = 0; seq = 2; time = 32; exponent = 4; panorama = (Correct (dg (35 ∷ 0 ∷ 1 ∷ 0 ∷ 28 ∷ [])) ∷ []); value = Some ((0 ∷ 0 ∷ 0 ∷ 0 ∷ 0 ∷ 0 ∷ 0 ∷ 0 ∷ 0 ∷ 0 ∷ 0 ∷ 32 ∷ [])); endorsed = ([]) }

abbrev j19 : List Vertex
j19 = (sent_as [] u19_0 ∷ sent_as [] u19_1 ∷ sent_as [] u19_3 ∷ backs (dg (35 ∷ 0 ∷ 1 ∷ 0 ∷ 28 ∷ [])) 0 ∷ sent_as [] u19_2 ∷ [])

abbrev r19 : List Vertex
r19 = (sent_as [] u19_2 ∷ sent_as [] u19_1 ∷ sent_as [] u19_0 ∷ backs (dg (35 ∷ 0 ∷ 1 ∷ 0 ∷ 28 ∷ [])) 0 ∷ sent_as [] u19_3 ∷ [])

abbrev k19 : Received
k19 = received_of s19 j19

pub record RandomCase19 : Type 0 where
  pub answers : answers_from s19 [] ((sent_as [] u19_0, true) ∷ (both_as [] u19_0 [] u19_0, true) ∷ (sent_as [] u19_1, true) ∷ (both_as [] u19_2 [] u19_3, true) ∷ (sent_as [] u19_3, true) ∷ (backs (dg (35 ∷ 0 ∷ 1 ∷ 0 ∷ 28 ∷ [])) 0, true) ∷ (sent_as [] u19_2, true) ∷ []) ≡ (Ok (receipt.Parked 1) ∷ Err (cause.Pair fault.Same) ∷ Ok (receipt.Parked 1) ∷ Err (cause.Pair fault.Sequence) ∷ Ok (receipt.Parked 1) ∷ Ok (receipt.Admitted 0) ∷ Ok (receipt.Admitted 4) ∷ [])
  pub kept : journal_of s19 ((sent_as [] u19_0, true) ∷ (both_as [] u19_0 [] u19_0, true) ∷ (sent_as [] u19_1, true) ∷ (both_as [] u19_2 [] u19_3, true) ∷ (sent_as [] u19_3, true) ∷ (backs (dg (35 ∷ 0 ∷ 1 ∷ 0 ∷ 28 ∷ [])) 0, true) ∷ (sent_as [] u19_2, true) ∷ []) ≡ j19
  pub settled : names_of (settled_of s19.config k19) ≡ (dg (5 ∷ 0 ∷ 3 ∷ 0 ∷ 42 ∷ []) ∷ dg (12 ∷ 0 ∷ 0 ∷ 0 ∷ 16 ∷ []) ∷ dg (35 ∷ 0 ∷ 1 ∷ 0 ∷ 28 ∷ []) ∷ dg (36 ∷ 0 ∷ 2 ∷ 0 ∷ 32 ∷ []) ∷ [])
  pub parked : names_of (parked_of s19.config k19) ≡ ([])
  pub dropped : names_of (dropped_of s19.config k19) ≡ ([])
  pub faulty : faulty_named s19 k19 ≡ ([])
  pub panorama : panorama_of s19.config k19 ≡ (Correct (dg (5 ∷ 0 ∷ 3 ∷ 0 ∷ 42 ∷ [])) ∷ [])
  pub fork : name_of (fork_choice s19.config k19) ≡ Some (dg (36 ∷ 0 ∷ 2 ∷ 0 ∷ 32 ∷ []))
  pub decisions : decisions_of s19 j19 ≡ (record { block = dg (12 ∷ 0 ∷ 0 ∷ 0 ∷ 16 ∷ []); height = 0; level = 1; quorum = 1; at = 5 } ∷ record { block = dg (36 ∷ 0 ∷ 2 ∷ 0 ∷ 32 ∷ []); height = 1; level = 1; quorum = 1; at = 5 } ∷ [])
  pub culprits : culprits_of s19 j19 r19 ≡ ([])
  pub steps : (step s19 k19 0 42 (7 ∷ []) ∷ step s19 k19 0 43 (7 ∷ []) ∷ step s19 k19 0 48 (7 ∷ []) ∷ []) ≡ (None ∷ None ∷ Some (record { kind = kind.Propose; unit = record { instance = dg (0 ∷ 0 ∷ 0 ∷ 0 ∷ []); creator = 0; seq = 4; time = 48; exponent = 4; panorama = (Correct (dg (5 ∷ 0 ∷ 3 ∷ 0 ∷ 42 ∷ [])) ∷ []); value = Some ((7 ∷ [])); endorsed = (dg (35 ∷ 0 ∷ 1 ∷ 0 ∷ 28 ∷ []) ∷ []) } }) ∷ [])

-- ---- case 20

abbrev s20 : Setting
s20 = named_by spread (record { weights = (1 ∷ 1 ∷ []); ftt = 1; levels = 3; min_exponent = 5; max_exponent = 9; leaders = Table (0 ∷ 0 ∷ 1 ∷ 0 ∷ []); max_records = 131072; max_parked = 4096; end = None })

abbrev u20_0 : WireUnit
u20_0 = record { instance = dg (0 ∷ 0 ∷ 0 ∷ 0 ∷ []); creator = 0; seq = 1; time = 53; exponent = 9; panorama = (Correct (dg (30 ∷ 0 ∷ 0 ∷ 0 ∷ 32 ∷ [])) ∷ Correct (dg (76 ∷ 1 ∷ 0 ∷ 0 ∷ 40 ∷ [])) ∷ []); value = None; endorsed = ([]) }

abbrev u20_1 : WireUnit
u20_1 = record { instance = dg (0 ∷ 0 ∷ 0 ∷ 0 ∷ []); creator = 0; seq = 0; time = 32; exponent = 4; panorama = (Absent ∷ Absent ∷ []); value = Some ((0 ∷ 0 ∷ 0 ∷ 0 ∷ 0 ∷ 0 ∷ 0 ∷ 0 ∷ 0 ∷ 0 ∷ 0 ∷ 32 ∷ [])); endorsed = ([]) }

abbrev u20_2 : WireUnit
u20_2 = record { instance = dg (0 ∷ 0 ∷ 0 ∷ 0 ∷ []); creator = 1; seq = 0; time = 31; exponent = 5; panorama = (Correct (dg (30 ∷ 0 ∷ 0 ∷ 0 ∷ 32 ∷ [])) ∷ Absent ∷ []); value = None; endorsed = ([]) }

abbrev u20_3 : WireUnit
u20_3 = record { instance = dg (0 ∷ 0 ∷ 0 ∷ 0 ∷ []); creator = 1; seq = 0; time = 40; exponent = 5; panorama = (Correct (dg (30 ∷ 0 ∷ 0 ∷ 0 ∷ 32 ∷ [])) ∷ Absent ∷ []); value = None; endorsed = ([]) }

abbrev u20_4 : WireUnit
u20_4 = record { instance = dg (0 ∷ 0 ∷ 0 ∷ 0 ∷ []); creator = 0; seq = 0; time = 32; exponent = 5; panorama = (Absent ∷ Absent ∷ []); value = Some ((0 ∷ 0 ∷ 0 ∷ 0 ∷ 0 ∷ 0 ∷ 0 ∷ 0 ∷ 0 ∷ 0 ∷ 0 ∷ 32 ∷ [])); endorsed = ([]) }

abbrev j20 : List Vertex
j20 = (sent_as [] u20_0 ∷ sent_as [] u20_2 ∷ sent_as [] u20_3 ∷ sent_as [] u20_4 ∷ [])

abbrev r20 : List Vertex
r20 = (sent_as [] u20_0 ∷ sent_as [] u20_4 ∷ sent_as [] u20_2 ∷ sent_as [] u20_3 ∷ [])

abbrev k20 : Received
k20 = received_of s20 j20

pub record RandomCase20 : Type 0 where
  pub answers : answers_from s20 [] ((sent_as [] u20_0, true) ∷ (sent_as [] u20_0, true) ∷ (sent_as [] u20_1, true) ∷ (sent_as [] u20_2, true) ∷ (sent_as [] u20_3, true) ∷ (sent_as [] u20_4, true) ∷ []) ≡ (Ok (receipt.Parked 2) ∷ Ok receipt.Repeat ∷ Err (cause.Local rule.RoundExponent) ∷ Ok (receipt.Parked 1) ∷ Ok (receipt.Parked 1) ∷ Ok (receipt.Admitted 2) ∷ [])
  pub kept : journal_of s20 ((sent_as [] u20_0, true) ∷ (sent_as [] u20_0, true) ∷ (sent_as [] u20_1, true) ∷ (sent_as [] u20_2, true) ∷ (sent_as [] u20_3, true) ∷ (sent_as [] u20_4, true) ∷ []) ≡ j20
  pub settled : names_of (settled_of s20.config k20) ≡ (dg (30 ∷ 0 ∷ 0 ∷ 0 ∷ 32 ∷ []) ∷ dg (76 ∷ 1 ∷ 0 ∷ 0 ∷ 40 ∷ []) ∷ [])
  pub parked : names_of (parked_of s20.config k20) ≡ ([])
  pub dropped : names_of (dropped_of s20.config k20) ≡ (dg (35 ∷ 0 ∷ 1 ∷ 0 ∷ 53 ∷ []) ∷ dg (74 ∷ 1 ∷ 0 ∷ 0 ∷ 31 ∷ []) ∷ [])
  pub faulty : faulty_named s20 k20 ≡ ([])
  pub panorama : panorama_of s20.config k20 ≡ (Correct (dg (30 ∷ 0 ∷ 0 ∷ 0 ∷ 32 ∷ [])) ∷ Correct (dg (76 ∷ 1 ∷ 0 ∷ 0 ∷ 40 ∷ [])) ∷ [])
  pub fork : name_of (fork_choice s20.config k20) ≡ Some (dg (30 ∷ 0 ∷ 0 ∷ 0 ∷ 32 ∷ []))
  pub decisions : decisions_of s20 j20 ≡ ([])
  pub culprits : culprits_of s20 j20 r20 ≡ ([])
  pub steps : (step s20 k20 0 54 (7 ∷ []) ∷ step s20 k20 1 64 (7 ∷ []) ∷ step s20 k20 0 64 (7 ∷ []) ∷ step s20 k20 1 54 (7 ∷ []) ∷ []) ≡ (Some (record { kind = kind.Witness; unit = record { instance = dg (0 ∷ 0 ∷ 0 ∷ 0 ∷ []); creator = 0; seq = 1; time = 54; exponent = 5; panorama = (Correct (dg (30 ∷ 0 ∷ 0 ∷ 0 ∷ 32 ∷ [])) ∷ Correct (dg (76 ∷ 1 ∷ 0 ∷ 0 ∷ 40 ∷ [])) ∷ []); value = None; endorsed = ([]) } }) ∷ Some (record { kind = kind.Propose; unit = record { instance = dg (0 ∷ 0 ∷ 0 ∷ 0 ∷ []); creator = 1; seq = 1; time = 64; exponent = 5; panorama = (Correct (dg (30 ∷ 0 ∷ 0 ∷ 0 ∷ 32 ∷ [])) ∷ Correct (dg (76 ∷ 1 ∷ 0 ∷ 0 ∷ 40 ∷ [])) ∷ []); value = Some ((7 ∷ [])); endorsed = ([]) } }) ∷ None ∷ Some (record { kind = kind.Witness; unit = record { instance = dg (0 ∷ 0 ∷ 0 ∷ 0 ∷ []); creator = 1; seq = 1; time = 54; exponent = 5; panorama = (Correct (dg (30 ∷ 0 ∷ 0 ∷ 0 ∷ 32 ∷ [])) ∷ Correct (dg (76 ∷ 1 ∷ 0 ∷ 0 ∷ 40 ∷ [])) ∷ []); value = None; endorsed = ([]) } }) ∷ [])

-- All of them.
pub record RandomCases2 : Type 0 where
  pub case11 : RandomCase11
  pub case12 : RandomCase12
  pub case13 : RandomCase13
  pub case14 : RandomCase14
  pub case15 : RandomCase15
  pub case16 : RandomCase16
  pub case17 : RandomCase17
  pub case18 : RandomCase18
  pub case19 : RandomCase19
  pub case20 : RandomCase20
