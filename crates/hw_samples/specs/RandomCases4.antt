-- Random journals with evidence, endorsements and refusals, and what they say.
-- The values are those of another reading of the definitions, written apart from them. The program that drew these
-- journals and wrote this isn't kept.
use Rattle.std.specs.Prelude.{◌≡◌, true, List, [], ◌∷◌, Some, None, Ok, Err}
use Rattle.hw_types.specs.declared.unit.Obs.TheVariants.{Absent, Correct, Faulty}
use Rattle.hw_types.specs.declared.unit.WireUnit.{WireUnit}
use Rattle.hw_types.specs.declared.unit.Vertex.{Vertex}
use Rattle.hw_types.specs.declared.config.Leaders.TheVariants.{Table}
use Rattle.hw_types.specs.declared.answers.Receipt.TheVariants as receipt
use Rattle.hw_types.specs.declared.answers.Cause.TheVariants as cause
use Rattle.hw_types.specs.declared.answers.Rule.TheVariants as rule
use Rattle.hw_types.specs.declared.answers.PairFault.TheVariants as fault
use Rattle.hw_types.specs.declared.answers.PlanKind.TheVariants as kind
use Rattle.hw_types.specs.Settled.{Received, settled_of, parked_of, dropped_of, panorama_of, fork_choice}
use Rattle.hw_types.specs.Journal.{Setting, named, received_of, journal_of, answers_from}
use Rattle.hw_types.specs.Step.{step}
use Rattle.hw_types.specs.Culprits.{culprits_of, pair_of, shown_in_either}
use Rattle.hw_safety.specs.Decided.{decisions_of}
use Rattle.hw_samples.specs.Words.{names_of, name_of}
use Rattle.hw_samples.specs.JournalWords.{dg, sent_as, both_as, backs, named_by}
use Rattle.hw_samples.specs.CaseWords.{spread, crowded, faulty_named}

-- ---- case 31

abbrev s31 : Setting
s31 = named_by spread (record { weights = (2 ∷ 2 ∷ 1 ∷ 2 ∷ []); ftt = 1; levels = 5; min_exponent = 4; max_exponent = 5; leaders = Table (3 ∷ 3 ∷ 2 ∷ 1 ∷ 2 ∷ 2 ∷ []); max_records = 131072; max_parked = 4096; end = None })

abbrev u31_0 : WireUnit
u31_0 = record { instance = dg (0 ∷ 0 ∷ 0 ∷ 0 ∷ []); creator = 3; seq = 0; time = 16; exponent = 4; panorama = (Absent ∷ Absent ∷ Absent ∷ Absent ∷ []); value = Some ((0 ∷ 0 ∷ 0 ∷ 3 ∷ 0 ∷ 0 ∷ 0 ∷ 0 ∷ 0 ∷ 0 ∷ 0 ∷ 16 ∷ [])); endorsed = ([]) }

abbrev u31_1 : WireUnit
u31_1 = record { instance = dg (0 ∷ 0 ∷ 0 ∷ 0 ∷ []); creator = 3; seq = 1; time = 27; exponent = 4; panorama = (Absent ∷ Absent ∷ Absent ∷ Correct (dg (55 ∷ 3 ∷ 0 ∷ 0 ∷ 16 ∷ [])) ∷ []); value = None; endorsed = ([]) }

abbrev u31_2 : WireUnit
u31_2 = record { instance = dg (0 ∷ 0 ∷ 0 ∷ 0 ∷ []); creator = 3; seq = 1; time = 26; exponent = 4; panorama = (Absent ∷ Absent ∷ Absent ∷ Correct (dg (55 ∷ 3 ∷ 0 ∷ 0 ∷ 16 ∷ [])) ∷ []); value = None; endorsed = ([]) }

abbrev u31_3 : WireUnit
u31_3 = record { instance = dg (0 ∷ 0 ∷ 0 ∷ 0 ∷ []); creator = 3; seq = 1; time = 32; exponent = 4; panorama = (Absent ∷ Absent ∷ Absent ∷ Correct (dg (55 ∷ 3 ∷ 0 ∷ 0 ∷ 16 ∷ [])) ∷ []); value = Some ((119 ∷ 50 ∷ [])); endorsed = ([]) }

abbrev u31_4 : WireUnit
u31_4 = record { instance = dg (0 ∷ 0 ∷ 0 ∷ 0 ∷ []); creator = 4; seq = 1; time = 26; exponent = 4; panorama = (Absent ∷ Absent ∷ Absent ∷ Correct (dg (55 ∷ 3 ∷ 0 ∷ 0 ∷ 16 ∷ [])) ∷ []); value = None; endorsed = ([]) }

abbrev u31_5 : WireUnit
u31_5 = record { instance = dg (0 ∷ 0 ∷ 0 ∷ 0 ∷ []); creator = 4; seq = 1; time = 32; exponent = 4; panorama = (Absent ∷ Absent ∷ Absent ∷ Correct (dg (55 ∷ 3 ∷ 0 ∷ 0 ∷ 16 ∷ [])) ∷ []); value = Some ((119 ∷ 50 ∷ [])); endorsed = ([]) }

abbrev j31 : List Vertex
j31 = (sent_as [] u31_0 ∷ sent_as [] u31_1 ∷ sent_as [] u31_3 ∷ backs (dg (55 ∷ 3 ∷ 0 ∷ 0 ∷ 16 ∷ [])) 2 ∷ sent_as [] u31_2 ∷ [])

abbrev r31 : List Vertex
r31 = (sent_as [] u31_1 ∷ backs (dg (55 ∷ 3 ∷ 0 ∷ 0 ∷ 16 ∷ [])) 2 ∷ sent_as [] u31_0 ∷ sent_as [] u31_3 ∷ sent_as [] u31_2 ∷ [])

abbrev k31 : Received
k31 = received_of s31 j31

pub record RandomCase31 : Type 0 where
  pub answers : answers_from s31 [] ((sent_as [] u31_0, true) ∷ (sent_as [] u31_0, true) ∷ (sent_as [] u31_1, true) ∷ (both_as [] u31_2 [] u31_0, true) ∷ (sent_as [] u31_3, true) ∷ (both_as [] u31_4 [] u31_5, true) ∷ (backs (dg (55 ∷ 3 ∷ 0 ∷ 0 ∷ 16 ∷ [])) 2, true) ∷ (sent_as [] u31_2, true) ∷ []) ≡ (Ok (receipt.Admitted 1) ∷ Ok receipt.Repeat ∷ Ok (receipt.Admitted 1) ∷ Err (cause.Pair fault.Sequence) ∷ Ok (receipt.Dropped rule.NotLeader) ∷ Err (cause.Pair fault.Creator) ∷ Ok (receipt.Admitted 0) ∷ Ok (receipt.Admitted 1) ∷ [])
  pub kept : journal_of s31 ((sent_as [] u31_0, true) ∷ (sent_as [] u31_0, true) ∷ (sent_as [] u31_1, true) ∷ (both_as [] u31_2 [] u31_0, true) ∷ (sent_as [] u31_3, true) ∷ (both_as [] u31_4 [] u31_5, true) ∷ (backs (dg (55 ∷ 3 ∷ 0 ∷ 0 ∷ 16 ∷ [])) 2, true) ∷ (sent_as [] u31_2, true) ∷ []) ≡ j31
  pub settled : names_of (settled_of s31.config k31) ≡ (dg (37 ∷ 3 ∷ 1 ∷ 0 ∷ 26 ∷ []) ∷ dg (48 ∷ 3 ∷ 1 ∷ 0 ∷ 27 ∷ []) ∷ dg (55 ∷ 3 ∷ 0 ∷ 0 ∷ 16 ∷ []) ∷ [])
  pub parked : names_of (parked_of s31.config k31) ≡ ([])
  pub dropped : names_of (dropped_of s31.config k31) ≡ (dg (95 ∷ 3 ∷ 1 ∷ 0 ∷ 32 ∷ []) ∷ [])
  pub faulty : faulty_named s31 k31 ≡ (3 ∷ [])
  pub panorama : panorama_of s31.config k31 ≡ (Absent ∷ Absent ∷ Absent ∷ Faulty ∷ [])
  pub fork : name_of (fork_choice s31.config k31) ≡ None
  pub decisions : decisions_of s31 j31 ≡ ([])
  pub culprits : culprits_of s31 j31 r31 ≡ (3 ∷ [])
  pub pair3 : pair_of (shown_in_either s31 j31 r31) 3 ≡ Some (named s31 u31_2, named s31 u31_1)
  pub steps : (step s31 k31 2 33 (7 ∷ []) ∷ step s31 k31 3 33 (7 ∷ []) ∷ step s31 k31 3 48 (7 ∷ []) ∷ step s31 k31 2 48 (7 ∷ []) ∷ []) ≡ (Some (record { kind = kind.Propose; unit = record { instance = dg (0 ∷ 0 ∷ 0 ∷ 0 ∷ []); creator = 2; seq = 0; time = 32; exponent = 4; panorama = (Absent ∷ Absent ∷ Absent ∷ Faulty ∷ []); value = Some ((7 ∷ [])); endorsed = ([]) } }) ∷ None ∷ None ∷ None ∷ [])

-- ---- case 32

abbrev s32 : Setting
s32 = named_by crowded (record { weights = (1 ∷ []); ftt = 0; levels = 5; min_exponent = 4; max_exponent = 5; leaders = Table (0 ∷ 0 ∷ 0 ∷ []); max_records = 131072; max_parked = 4096; end = None })

abbrev u32_0 : WireUnit
u32_0 = record { instance = dg (0 ∷ 0 ∷ 0 ∷ 0 ∷ []); creator = 0; seq = 0; time = 16; exponent = 4; panorama = (Absent ∷ []); value = Some ((0 ∷ 0 ∷ 0 ∷ 0 ∷ 0 ∷ 0 ∷ 0 ∷ 0 ∷ 0 ∷ 0 ∷ 0 ∷ 16 ∷ [])); endorsed = ([]) }

abbrev u32_1 : WireUnit
u32_1 = record { instance = dg (0 ∷ 0 ∷ 0 ∷ 0 ∷ []); creator = 0; seq = 1; time = 27; exponent = 4; panorama = (Correct (dg (2 ∷ 0 ∷ 0 ∷ 0 ∷ 0 ∷ [])) ∷ []); value = None; endorsed = ([]) }

abbrev u32_2 : WireUnit
u32_2 = record { instance = dg (0 ∷ 0 ∷ 0 ∷ 0 ∷ []); creator = 0; seq = 2; time = 26; exponent = 4; panorama = (Correct (dg (0 ∷ 0 ∷ 0 ∷ 0 ∷ 0 ∷ [])) ∷ []); value = None; endorsed = ([]) }

abbrev u32_3 : WireUnit
u32_3 = record { instance = dg (0 ∷ 0 ∷ 0 ∷ 0 ∷ []); creator = 0; seq = 2; time = 32; exponent = 4; panorama = (Correct (dg (0 ∷ 0 ∷ 0 ∷ 0 ∷ 0 ∷ [])) ∷ []); value = Some (([])); endorsed = ([]) }

abbrev u32_4 : WireUnit
u32_4 = record { instance = dg (0 ∷ 0 ∷ 0 ∷ 0 ∷ []); creator = 0; seq = 1; time = 44; exponent = 4; panorama = (Correct (dg (2 ∷ 0 ∷ 0 ∷ 0 ∷ 0 ∷ [])) ∷ []); value = None; endorsed = ([]) }

abbrev j32 : List Vertex
j32 = (sent_as [] u32_0 ∷ sent_as [] u32_1 ∷ sent_as [] u32_2 ∷ [])

abbrev r32 : List Vertex
r32 = (sent_as [] u32_1 ∷ sent_as [] u32_4 ∷ sent_as [] u32_2 ∷ [])

abbrev k32 : Received
k32 = received_of s32 j32

pub record RandomCase32 : Type 0 where
  pub answers : answers_from s32 [] ((sent_as [] u32_0, true) ∷ (sent_as [] u32_1, true) ∷ (sent_as [] u32_2, true) ∷ (sent_as [] u32_3, true) ∷ (sent_as [] u32_4, true) ∷ []) ≡ (Ok (receipt.Admitted 1) ∷ Ok (receipt.Admitted 1) ∷ Ok (receipt.Dropped rule.TimeGoesBack) ∷ Err (cause.Clash (dg (2 ∷ 0 ∷ 0 ∷ 0 ∷ 0 ∷ []))) ∷ Err (cause.Clash (dg (2 ∷ 0 ∷ 0 ∷ 0 ∷ 0 ∷ []))) ∷ [])
  pub kept : journal_of s32 ((sent_as [] u32_0, true) ∷ (sent_as [] u32_1, true) ∷ (sent_as [] u32_2, true) ∷ (sent_as [] u32_3, true) ∷ (sent_as [] u32_4, true) ∷ []) ≡ j32
  pub settled : names_of (settled_of s32.config k32) ≡ (dg (0 ∷ 0 ∷ 0 ∷ 0 ∷ 0 ∷ []) ∷ dg (2 ∷ 0 ∷ 0 ∷ 0 ∷ 0 ∷ []) ∷ [])
  pub parked : names_of (parked_of s32.config k32) ≡ ([])
  pub dropped : names_of (dropped_of s32.config k32) ≡ (dg (4 ∷ 0 ∷ 0 ∷ 0 ∷ 0 ∷ []) ∷ [])
  pub faulty : faulty_named s32 k32 ≡ ([])
  pub panorama : panorama_of s32.config k32 ≡ (Correct (dg (0 ∷ 0 ∷ 0 ∷ 0 ∷ 0 ∷ [])) ∷ [])
  pub fork : name_of (fork_choice s32.config k32) ≡ Some (dg (2 ∷ 0 ∷ 0 ∷ 0 ∷ 0 ∷ []))
  pub decisions : decisions_of s32 j32 ≡ (record { block = dg (2 ∷ 0 ∷ 0 ∷ 0 ∷ 0 ∷ []); height = 0; level = 1; quorum = 1; at = 2 } ∷ [])
  pub culprits : culprits_of s32 j32 r32 ≡ ([])
  pub steps : (step s32 k32 0 28 (7 ∷ []) ∷ step s32 k32 0 26 (7 ∷ []) ∷ step s32 k32 0 32 (7 ∷ []) ∷ []) ≡ (None ∷ None ∷ Some (record { kind = kind.Propose; unit = record { instance = dg (0 ∷ 0 ∷ 0 ∷ 0 ∷ []); creator = 0; seq = 2; time = 32; exponent = 4; panorama = (Correct (dg (0 ∷ 0 ∷ 0 ∷ 0 ∷ 0 ∷ [])) ∷ []); value = Some ((7 ∷ [])); endorsed = ([]) } }) ∷ [])

-- ---- case 33

abbrev s33 : Setting
s33 = named_by spread (record { weights = (5 ∷ []); ftt = 1; levels = 2; min_exponent = 4; max_exponent = 5; leaders = Table (0 ∷ 0 ∷ []); max_records = 131072; max_parked = 4096; end = Some (0) })

abbrev u33_0 : WireUnit
u33_0 = record { instance = dg (0 ∷ 0 ∷ 0 ∷ 0 ∷ []); creator = 0; seq = 1; time = 27; exponent = 4; panorama = (Correct (dg (28 ∷ 0 ∷ 0 ∷ 0 ∷ 16 ∷ [])) ∷ []); value = None; endorsed = ([]) }

abbrev u33_1 : WireUnit
u33_1 = record { instance = dg (0 ∷ 0 ∷ 0 ∷ 0 ∷ []); creator = 0; seq = 0; time = 16; exponent = 4; panorama = (Absent ∷ []); value = Some ((188 ∷ 142 ∷ 150 ∷ 31 ∷ 185 ∷ 210 ∷ 230 ∷ 174 ∷ 13 ∷ 191 ∷ 162 ∷ [])); endorsed = ([]) }

abbrev u33_2 : WireUnit
u33_2 = record { instance = dg (0 ∷ 0 ∷ 0 ∷ 0 ∷ []); creator = 0; seq = 2; time = 42; exponent = 4; panorama = (Correct (dg (24 ∷ 0 ∷ 1 ∷ 0 ∷ 27 ∷ [])) ∷ []); value = None; endorsed = ([]) }

abbrev u33_3 : WireUnit
u33_3 = record { instance = dg (0 ∷ 0 ∷ 0 ∷ 0 ∷ []); creator = 0; seq = 1; time = 28; exponent = 4; panorama = (Correct (dg (39 ∷ 0 ∷ 0 ∷ 0 ∷ 16 ∷ [])) ∷ []); value = None; endorsed = ([]) }

abbrev u33_4 : WireUnit
u33_4 = record { instance = dg (0 ∷ 0 ∷ 0 ∷ 0 ∷ []); creator = 0; seq = 0; time = 16; exponent = 4; panorama = (Absent ∷ []); value = Some ((0 ∷ 0 ∷ 0 ∷ 0 ∷ 0 ∷ 0 ∷ 0 ∷ 0 ∷ 0 ∷ 0 ∷ 0 ∷ 16 ∷ [])); endorsed = ([]) }

abbrev u33_5 : WireUnit
u33_5 = record { instance = dg (0 ∷ 0 ∷ 0 ∷ 0 ∷ []); creator = 0; seq = 2; time = 42; exponent = 4; panorama = (Correct (dg (35 ∷ 0 ∷ 1 ∷ 0 ∷ 28 ∷ [])) ∷ []); value = None; endorsed = ([]) }

abbrev j33 : List Vertex
j33 = (sent_as [] u33_0 ∷ sent_as [] u33_1 ∷ sent_as [] u33_2 ∷ sent_as [] u33_3 ∷ sent_as [] u33_4 ∷ [])

abbrev r33 : List Vertex
r33 = (sent_as [] u33_5 ∷ sent_as [] u33_3 ∷ sent_as [] u33_0 ∷ sent_as [] u33_1 ∷ sent_as [] u33_4 ∷ [])

abbrev k33 : Received
k33 = received_of s33 j33

pub record RandomCase33 : Type 0 where
  pub answers : answers_from s33 [] ((sent_as [] u33_0, true) ∷ (backs (dg (28 ∷ 0 ∷ 0 ∷ 0 ∷ 16 ∷ [])) 1, true) ∷ (sent_as [] u33_1, true) ∷ (sent_as [] u33_2, true) ∷ (sent_as [] u33_3, true) ∷ (sent_as [] u33_4, true) ∷ (sent_as [] u33_5, true) ∷ []) ≡ (Ok (receipt.Parked 1) ∷ Err (cause.Local rule.UnknownCreator) ∷ Ok (receipt.Admitted 1) ∷ Ok (receipt.Parked 1) ∷ Ok (receipt.Admitted 1) ∷ Ok (receipt.Admitted 3) ∷ Err (cause.Clash (dg (0 ∷ 0 ∷ 2 ∷ 0 ∷ 42 ∷ []))) ∷ [])
  pub kept : journal_of s33 ((sent_as [] u33_0, true) ∷ (backs (dg (28 ∷ 0 ∷ 0 ∷ 0 ∷ 16 ∷ [])) 1, true) ∷ (sent_as [] u33_1, true) ∷ (sent_as [] u33_2, true) ∷ (sent_as [] u33_3, true) ∷ (sent_as [] u33_4, true) ∷ (sent_as [] u33_5, true) ∷ []) ≡ j33
  pub settled : names_of (settled_of s33.config k33) ≡ (dg (0 ∷ 0 ∷ 2 ∷ 0 ∷ 42 ∷ []) ∷ dg (24 ∷ 0 ∷ 1 ∷ 0 ∷ 27 ∷ []) ∷ dg (28 ∷ 0 ∷ 0 ∷ 0 ∷ 16 ∷ []) ∷ dg (35 ∷ 0 ∷ 1 ∷ 0 ∷ 28 ∷ []) ∷ dg (39 ∷ 0 ∷ 0 ∷ 0 ∷ 16 ∷ []) ∷ [])
  pub parked : names_of (parked_of s33.config k33) ≡ ([])
  pub dropped : names_of (dropped_of s33.config k33) ≡ ([])
  pub faulty : faulty_named s33 k33 ≡ (0 ∷ [])
  pub panorama : panorama_of s33.config k33 ≡ (Faulty ∷ [])
  pub fork : name_of (fork_choice s33.config k33) ≡ None
  pub decisions : decisions_of s33 j33 ≡ (record { block = dg (39 ∷ 0 ∷ 0 ∷ 0 ∷ 16 ∷ []); height = 0; level = 1; quorum = 4; at = 4 } ∷ [])
  pub culprits : culprits_of s33 j33 r33 ≡ (0 ∷ [])
  pub pair0 : pair_of (shown_in_either s33 j33 r33) 0 ≡ Some (named s33 u33_4, named s33 u33_1)
  pub steps : (step s33 k33 0 42 (7 ∷ []) ∷ step s33 k33 0 43 (7 ∷ []) ∷ step s33 k33 0 48 (7 ∷ []) ∷ []) ≡ (None ∷ None ∷ None ∷ [])

-- ---- case 34

abbrev s34 : Setting
s34 = named_by spread (record { weights = (2 ∷ []); ftt = 0; levels = 3; min_exponent = 4; max_exponent = 5; leaders = Table (0 ∷ 0 ∷ 0 ∷ 0 ∷ []); max_records = 131072; max_parked = 4096; end = None })

abbrev u34_0 : WireUnit
u34_0 = record { instance = dg (0 ∷ 0 ∷ 0 ∷ 0 ∷ []); creator = 0; seq = 0; time = 16; exponent = 4; panorama = (Absent ∷ []); value = Some ((0 ∷ 0 ∷ 0 ∷ 0 ∷ 0 ∷ 0 ∷ 0 ∷ 0 ∷ 0 ∷ 0 ∷ 0 ∷ 16 ∷ [])); endorsed = (dg (0 ∷ 0 ∷ 0 ∷ 0 ∷ 0 ∷ 0 ∷ 0 ∷ 0 ∷ 0 ∷ 0 ∷ 0 ∷ 0 ∷ 0 ∷ 0 ∷ 0 ∷ 0 ∷ 0 ∷ 0 ∷ 0 ∷ 0 ∷ 0 ∷ 0 ∷ 0 ∷ 0 ∷ 0 ∷ 0 ∷ 0 ∷ 0 ∷ 0 ∷ 0 ∷ 0 ∷ 0 ∷ []) ∷ dg (0 ∷ 0 ∷ 0 ∷ 0 ∷ 0 ∷ 0 ∷ 0 ∷ 0 ∷ 0 ∷ 0 ∷ 0 ∷ 0 ∷ 0 ∷ 0 ∷ 0 ∷ 0 ∷ 0 ∷ 0 ∷ 0 ∷ 0 ∷ 0 ∷ 0 ∷ 0 ∷ 0 ∷ 0 ∷ 0 ∷ 0 ∷ 0 ∷ 0 ∷ 0 ∷ 0 ∷ 0 ∷ []) ∷ []) }

abbrev u34_1 : WireUnit
u34_1 = record { instance = dg (0 ∷ 0 ∷ 0 ∷ 0 ∷ []); creator = 0; seq = 1; time = 26; exponent = 4; panorama = (Correct (dg (28 ∷ 0 ∷ 0 ∷ 0 ∷ 16 ∷ [])) ∷ []); value = None; endorsed = ([]) }

abbrev u34_2 : WireUnit
u34_2 = record { instance = dg (0 ∷ 0 ∷ 0 ∷ 0 ∷ []); creator = 0; seq = 0; time = 16; exponent = 4; panorama = (Absent ∷ []); value = Some ((0 ∷ 0 ∷ 0 ∷ 0 ∷ 0 ∷ 0 ∷ 0 ∷ 0 ∷ 0 ∷ 0 ∷ 0 ∷ 16 ∷ [])); endorsed = ([]) }

abbrev j34 : List Vertex
j34 = (sent_as [] u34_1 ∷ both_as [] u34_2 [] u34_0 ∷ backs (dg (28 ∷ 0 ∷ 0 ∷ 0 ∷ 16 ∷ [])) 0 ∷ sent_as [] u34_2 ∷ [])

abbrev r34 : List Vertex
r34 = (sent_as [] u34_2 ∷ sent_as [] u34_1 ∷ backs (dg (28 ∷ 0 ∷ 0 ∷ 0 ∷ 16 ∷ [])) 0 ∷ both_as [] u34_2 [] u34_0 ∷ [])

abbrev k34 : Received
k34 = received_of s34 j34

pub record RandomCase34 : Type 0 where
  pub answers : answers_from s34 [] ((sent_as [] u34_0, true) ∷ (sent_as [] u34_1, true) ∷ (both_as [] u34_2 [] u34_0, true) ∷ (backs (dg (28 ∷ 0 ∷ 0 ∷ 0 ∷ 16 ∷ [])) 0, true) ∷ (both_as [] u34_0 [] u34_0, true) ∷ (sent_as [] u34_2, true) ∷ []) ≡ (Err (cause.Local rule.EndorsedOrder) ∷ Ok (receipt.Parked 1) ∷ Ok (receipt.Admitted 0) ∷ Ok (receipt.Admitted 0) ∷ Err (cause.Pair fault.Same) ∷ Ok (receipt.Admitted 2) ∷ [])
  pub kept : journal_of s34 ((sent_as [] u34_0, true) ∷ (sent_as [] u34_1, true) ∷ (both_as [] u34_2 [] u34_0, true) ∷ (backs (dg (28 ∷ 0 ∷ 0 ∷ 0 ∷ 16 ∷ [])) 0, true) ∷ (both_as [] u34_0 [] u34_0, true) ∷ (sent_as [] u34_2, true) ∷ []) ≡ j34
  pub settled : names_of (settled_of s34.config k34) ≡ (dg (13 ∷ 0 ∷ 1 ∷ 0 ∷ 26 ∷ []) ∷ dg (28 ∷ 0 ∷ 0 ∷ 0 ∷ 16 ∷ []) ∷ [])
  pub parked : names_of (parked_of s34.config k34) ≡ ([])
  pub dropped : names_of (dropped_of s34.config k34) ≡ ([])
  pub faulty : faulty_named s34 k34 ≡ (0 ∷ [])
  pub panorama : panorama_of s34.config k34 ≡ (Faulty ∷ [])
  pub fork : name_of (fork_choice s34.config k34) ≡ None
  pub decisions : decisions_of s34 j34 ≡ ([])
  pub culprits : culprits_of s34 j34 r34 ≡ (0 ∷ [])
  pub pair0 : pair_of (shown_in_either s34 j34 r34) 0 ≡ Some (named s34 u34_2, named s34 u34_0)
  pub steps : (step s34 k34 0 26 (7 ∷ []) ∷ step s34 k34 0 27 (7 ∷ []) ∷ step s34 k34 0 32 (7 ∷ []) ∷ []) ≡ (None ∷ None ∷ None ∷ [])

-- ---- case 35

abbrev s35 : Setting
s35 = named_by spread (record { weights = (3 ∷ 2 ∷ 1 ∷ []); ftt = 3; levels = 3; min_exponent = 4; max_exponent = 5; leaders = Table (0 ∷ 0 ∷ 0 ∷ 0 ∷ 1 ∷ []); max_records = 131072; max_parked = 4096; end = Some (1) })

abbrev u35_0 : WireUnit
u35_0 = record { instance = dg (0 ∷ 0 ∷ 0 ∷ 0 ∷ []); creator = 0; seq = 0; time = 16; exponent = 4; panorama = (Absent ∷ Absent ∷ Absent ∷ []); value = Some ((0 ∷ 0 ∷ 0 ∷ 0 ∷ 0 ∷ 0 ∷ 0 ∷ 0 ∷ 0 ∷ 0 ∷ 0 ∷ 16 ∷ [])); endorsed = ([]) }

abbrev u35_1 : WireUnit
u35_1 = record { instance = dg (0 ∷ 0 ∷ 0 ∷ 0 ∷ []); creator = 1; seq = 0; time = 20; exponent = 4; panorama = (Faulty ∷ Absent ∷ Absent ∷ []); value = None; endorsed = ([]) }

abbrev u35_2 : WireUnit
u35_2 = record { instance = dg (0 ∷ 0 ∷ 0 ∷ 0 ∷ []); creator = 1; seq = 0; time = 20; exponent = 4; panorama = (Correct (dg (30 ∷ 0 ∷ 0 ∷ 0 ∷ 16 ∷ [])) ∷ Absent ∷ Absent ∷ []); value = None; endorsed = ([]) }

abbrev u35_3 : WireUnit
u35_3 = record { instance = dg (0 ∷ 0 ∷ 0 ∷ 0 ∷ []); creator = 0; seq = 1; time = 26; exponent = 4; panorama = (Correct (dg (30 ∷ 0 ∷ 0 ∷ 0 ∷ 16 ∷ [])) ∷ Correct (dg (48 ∷ 1 ∷ 0 ∷ 0 ∷ 20 ∷ [])) ∷ Absent ∷ []); value = None; endorsed = ([]) }

abbrev u35_4 : WireUnit
u35_4 = record { instance = dg (0 ∷ 0 ∷ 0 ∷ 0 ∷ []); creator = 1; seq = 1; time = 28; exponent = 5; panorama = (Correct (dg (15 ∷ 0 ∷ 1 ∷ 0 ∷ 26 ∷ [])) ∷ Correct (dg (48 ∷ 1 ∷ 0 ∷ 0 ∷ 20 ∷ [])) ∷ Absent ∷ []); value = None; endorsed = ([]) }

abbrev j35 : List Vertex
j35 = (sent_as [] u35_0 ∷ sent_as [] u35_2 ∷ sent_as [] u35_3 ∷ sent_as [] u35_4 ∷ [])

abbrev r35 : List Vertex
r35 = (sent_as [] u35_0 ∷ sent_as [] u35_2 ∷ sent_as [] u35_3 ∷ sent_as [] u35_4 ∷ [])

abbrev k35 : Received
k35 = received_of s35 j35

pub record RandomCase35 : Type 0 where
  pub answers : answers_from s35 [] ((sent_as [] u35_0, true) ∷ (sent_as [] u35_1, true) ∷ (sent_as [] u35_2, true) ∷ (sent_as [] u35_3, true) ∷ (sent_as [] u35_4, true) ∷ []) ≡ (Ok (receipt.Admitted 1) ∷ Err (cause.Local rule.NoBlock) ∷ Ok (receipt.Admitted 1) ∷ Ok (receipt.Admitted 1) ∷ Ok (receipt.Dropped rule.RoundChange) ∷ [])
  pub kept : journal_of s35 ((sent_as [] u35_0, true) ∷ (sent_as [] u35_1, true) ∷ (sent_as [] u35_2, true) ∷ (sent_as [] u35_3, true) ∷ (sent_as [] u35_4, true) ∷ []) ≡ j35
  pub settled : names_of (settled_of s35.config k35) ≡ (dg (15 ∷ 0 ∷ 1 ∷ 0 ∷ 26 ∷ []) ∷ dg (30 ∷ 0 ∷ 0 ∷ 0 ∷ 16 ∷ []) ∷ dg (48 ∷ 1 ∷ 0 ∷ 0 ∷ 20 ∷ []) ∷ [])
  pub parked : names_of (parked_of s35.config k35) ≡ ([])
  pub dropped : names_of (dropped_of s35.config k35) ≡ (dg (47 ∷ 1 ∷ 1 ∷ 0 ∷ 28 ∷ []) ∷ [])
  pub faulty : faulty_named s35 k35 ≡ ([])
  pub panorama : panorama_of s35.config k35 ≡ (Correct (dg (15 ∷ 0 ∷ 1 ∷ 0 ∷ 26 ∷ [])) ∷ Correct (dg (48 ∷ 1 ∷ 0 ∷ 0 ∷ 20 ∷ [])) ∷ Absent ∷ [])
  pub fork : name_of (fork_choice s35.config k35) ≡ Some (dg (30 ∷ 0 ∷ 0 ∷ 0 ∷ 16 ∷ []))
  pub decisions : decisions_of s35 j35 ≡ ([])
  pub culprits : culprits_of s35 j35 r35 ≡ ([])
  pub steps : (step s35 k35 2 26 (7 ∷ []) ∷ step s35 k35 1 29 (7 ∷ []) ∷ step s35 k35 0 29 (7 ∷ []) ∷ step s35 k35 1 32 (7 ∷ []) ∷ []) ≡ (Some (record { kind = kind.Witness; unit = record { instance = dg (0 ∷ 0 ∷ 0 ∷ 0 ∷ []); creator = 2; seq = 0; time = 26; exponent = 4; panorama = (Correct (dg (15 ∷ 0 ∷ 1 ∷ 0 ∷ 26 ∷ [])) ∷ Correct (dg (48 ∷ 1 ∷ 0 ∷ 0 ∷ 20 ∷ [])) ∷ Absent ∷ []); value = None; endorsed = ([]) } }) ∷ Some (record { kind = kind.Witness; unit = record { instance = dg (0 ∷ 0 ∷ 0 ∷ 0 ∷ []); creator = 1; seq = 1; time = 29; exponent = 4; panorama = (Correct (dg (15 ∷ 0 ∷ 1 ∷ 0 ∷ 26 ∷ [])) ∷ Correct (dg (48 ∷ 1 ∷ 0 ∷ 0 ∷ 20 ∷ [])) ∷ Absent ∷ []); value = None; endorsed = ([]) } }) ∷ None ∷ None ∷ [])

-- ---- case 36

abbrev s36 : Setting
s36 = named_by spread (record { weights = (1 ∷ []); ftt = 0; levels = 1; min_exponent = 4; max_exponent = 4; leaders = Table (0 ∷ 0 ∷ []); max_records = 131072; max_parked = 4096; end = None })

abbrev u36_0 : WireUnit
u36_0 = record { instance = dg (0 ∷ 0 ∷ 0 ∷ 0 ∷ []); creator = 0; seq = 0; time = 16; exponent = 4; panorama = (Absent ∷ []); value = Some ((149 ∷ 173 ∷ 18 ∷ 227 ∷ 215 ∷ 213 ∷ 133 ∷ 115 ∷ 60 ∷ 20 ∷ [])); endorsed = ([]) }

abbrev u36_1 : WireUnit
u36_1 = record { instance = dg (0 ∷ 0 ∷ 0 ∷ 0 ∷ []); creator = 0; seq = 1; time = 28; exponent = 4; panorama = (Correct (dg (74 ∷ 0 ∷ 0 ∷ 0 ∷ 16 ∷ [])) ∷ []); value = None; endorsed = ([]) }

abbrev u36_2 : WireUnit
u36_2 = record { instance = dg (0 ∷ 0 ∷ 0 ∷ 0 ∷ []); creator = 0; seq = 0; time = 16; exponent = 4; panorama = (Absent ∷ []); value = Some ((149 ∷ 173 ∷ 18 ∷ 227 ∷ 215 ∷ 213 ∷ 133 ∷ 115 ∷ 60 ∷ 20 ∷ [])); endorsed = (dg (255 ∷ 255 ∷ 255 ∷ 255 ∷ 255 ∷ 255 ∷ 255 ∷ 255 ∷ 255 ∷ 255 ∷ 255 ∷ 255 ∷ 255 ∷ 255 ∷ 255 ∷ 255 ∷ 255 ∷ 255 ∷ 255 ∷ 255 ∷ 255 ∷ 255 ∷ 255 ∷ 255 ∷ 255 ∷ 255 ∷ 255 ∷ 255 ∷ 255 ∷ 255 ∷ 255 ∷ 255 ∷ []) ∷ dg (0 ∷ 0 ∷ 0 ∷ 0 ∷ 0 ∷ 0 ∷ 0 ∷ 0 ∷ 0 ∷ 0 ∷ 0 ∷ 0 ∷ 0 ∷ 0 ∷ 0 ∷ 0 ∷ 0 ∷ 0 ∷ 0 ∷ 0 ∷ 0 ∷ 0 ∷ 0 ∷ 0 ∷ 0 ∷ 0 ∷ 0 ∷ 0 ∷ 0 ∷ 0 ∷ 0 ∷ 0 ∷ []) ∷ []) }

abbrev u36_3 : WireUnit
u36_3 = record { instance = dg (0 ∷ 0 ∷ 0 ∷ 0 ∷ []); creator = 0; seq = 0; time = 28; exponent = 4; panorama = (Absent ∷ []); value = None; endorsed = ([]) }

abbrev j36 : List Vertex
j36 = (backs (dg (35 ∷ 0 ∷ 1 ∷ 0 ∷ 28 ∷ [])) 0 ∷ sent_as [] u36_0 ∷ sent_as [] u36_1 ∷ [])

abbrev r36 : List Vertex
r36 = (sent_as [] u36_1 ∷ backs (dg (35 ∷ 0 ∷ 1 ∷ 0 ∷ 28 ∷ [])) 0 ∷ [])

abbrev k36 : Received
k36 = received_of s36 j36

pub record RandomCase36 : Type 0 where
  pub answers : answers_from s36 [] ((backs (dg (35 ∷ 0 ∷ 1 ∷ 0 ∷ 28 ∷ [])) 0, true) ∷ (sent_as [] u36_0, true) ∷ (sent_as [] u36_1, true) ∷ (sent_as [] u36_2, true) ∷ (sent_as [] u36_3, true) ∷ []) ≡ (Ok (receipt.Admitted 0) ∷ Ok (receipt.Admitted 1) ∷ Ok (receipt.Admitted 1) ∷ Err (cause.Local rule.EndorsedOrder) ∷ Err (cause.Local rule.NoBlock) ∷ [])
  pub kept : journal_of s36 ((backs (dg (35 ∷ 0 ∷ 1 ∷ 0 ∷ 28 ∷ [])) 0, true) ∷ (sent_as [] u36_0, true) ∷ (sent_as [] u36_1, true) ∷ (sent_as [] u36_2, true) ∷ (sent_as [] u36_3, true) ∷ []) ≡ j36
  pub settled : names_of (settled_of s36.config k36) ≡ (dg (35 ∷ 0 ∷ 1 ∷ 0 ∷ 28 ∷ []) ∷ dg (74 ∷ 0 ∷ 0 ∷ 0 ∷ 16 ∷ []) ∷ [])
  pub parked : names_of (parked_of s36.config k36) ≡ ([])
  pub dropped : names_of (dropped_of s36.config k36) ≡ ([])
  pub faulty : faulty_named s36 k36 ≡ ([])
  pub panorama : panorama_of s36.config k36 ≡ (Correct (dg (35 ∷ 0 ∷ 1 ∷ 0 ∷ 28 ∷ [])) ∷ [])
  pub fork : name_of (fork_choice s36.config k36) ≡ Some (dg (74 ∷ 0 ∷ 0 ∷ 0 ∷ 16 ∷ []))
  pub decisions : decisions_of s36 j36 ≡ (record { block = dg (74 ∷ 0 ∷ 0 ∷ 0 ∷ 16 ∷ []); height = 0; level = 1; quorum = 1; at = 3 } ∷ [])
  pub culprits : culprits_of s36 j36 r36 ≡ ([])
  pub steps : (step s36 k36 0 26 (7 ∷ []) ∷ step s36 k36 0 32 (7 ∷ []) ∷ step s36 k36 0 29 (7 ∷ []) ∷ []) ≡ (None ∷ Some (record { kind = kind.Propose; unit = record { instance = dg (0 ∷ 0 ∷ 0 ∷ 0 ∷ []); creator = 0; seq = 2; time = 32; exponent = 4; panorama = (Correct (dg (35 ∷ 0 ∷ 1 ∷ 0 ∷ 28 ∷ [])) ∷ []); value = Some ((7 ∷ [])); endorsed = (dg (35 ∷ 0 ∷ 1 ∷ 0 ∷ 28 ∷ []) ∷ []) } }) ∷ None ∷ [])

-- ---- case 37

abbrev s37 : Setting
s37 = named_by spread (record { weights = (1 ∷ []); ftt = 0; levels = 3; min_exponent = 5; max_exponent = 5; leaders = Table (0 ∷ 0 ∷ 0 ∷ 0 ∷ 0 ∷ []); max_records = 131072; max_parked = 4096; end = Some (0) })

abbrev u37_0 : WireUnit
u37_0 = record { instance = dg (0 ∷ 0 ∷ 0 ∷ 0 ∷ []); creator = 0; seq = 0; time = 32; exponent = 5; panorama = (Absent ∷ []); value = Some (([])); endorsed = ([]) }

abbrev u37_1 : WireUnit
u37_1 = record { instance = dg (0 ∷ 0 ∷ 0 ∷ 0 ∷ []); creator = 0; seq = 1; time = 53; exponent = 5; panorama = (Correct (dg (94 ∷ 0 ∷ 0 ∷ 0 ∷ 32 ∷ [])) ∷ []); value = None; endorsed = ([]) }

abbrev u37_2 : WireUnit
u37_2 = record { instance = dg (0 ∷ 0 ∷ 0 ∷ 0 ∷ []); creator = 0; seq = 2; time = 86; exponent = 5; panorama = (Correct (dg (22 ∷ 0 ∷ 1 ∷ 0 ∷ 53 ∷ [])) ∷ []); value = None; endorsed = ([]) }

abbrev u37_3 : WireUnit
u37_3 = record { instance = dg (0 ∷ 0 ∷ 0 ∷ 0 ∷ []); creator = 0; seq = 2; time = 86; exponent = 5; panorama = (Correct (dg (44 ∷ 0 ∷ 1 ∷ 0 ∷ 55 ∷ [])) ∷ []); value = None; endorsed = ([]) }

abbrev u37_4 : WireUnit
u37_4 = record { instance = dg (0 ∷ 0 ∷ 0 ∷ 0 ∷ []); creator = 0; seq = 1; time = 55; exponent = 5; panorama = (Correct (dg (94 ∷ 0 ∷ 0 ∷ 0 ∷ 32 ∷ [])) ∷ []); value = None; endorsed = ([]) }

abbrev u37_5 : WireUnit
u37_5 = record { instance = dg (0 ∷ 0 ∷ 0 ∷ 0 ∷ []); creator = 0; seq = 2; time = 64; exponent = 5; panorama = (Correct (dg (22 ∷ 0 ∷ 1 ∷ 0 ∷ 53 ∷ [])) ∷ []); value = Some ((0 ∷ 0 ∷ 0 ∷ 0 ∷ 0 ∷ 0 ∷ 0 ∷ 0 ∷ 0 ∷ 0 ∷ 0 ∷ 64 ∷ [])); endorsed = ([]) }

abbrev j37 : List Vertex
j37 = (sent_as [] u37_0 ∷ sent_as [] u37_1 ∷ sent_as [] u37_2 ∷ sent_as [] u37_4 ∷ sent_as [] u37_5 ∷ [])

abbrev r37 : List Vertex
r37 = (sent_as [] u37_1 ∷ sent_as [] u37_0 ∷ sent_as [] u37_4 ∷ sent_as [] u37_2 ∷ sent_as [] u37_5 ∷ [])

abbrev k37 : Received
k37 = received_of s37 j37

pub record RandomCase37 : Type 0 where
  pub answers : answers_from s37 [] ((sent_as [] u37_0, true) ∷ (sent_as [] u37_1, true) ∷ (sent_as [] u37_2, true) ∷ (sent_as [] u37_0, true) ∷ (sent_as [] u37_3, true) ∷ (sent_as [] u37_4, true) ∷ (sent_as [] u37_5, true) ∷ (both_as [] u37_0 [] u37_0, true) ∷ []) ≡ (Ok (receipt.Admitted 1) ∷ Ok (receipt.Admitted 1) ∷ Ok (receipt.Admitted 1) ∷ Ok receipt.Repeat ∷ Err (cause.Clash (dg (2 ∷ 0 ∷ 2 ∷ 0 ∷ 86 ∷ []))) ∷ Ok (receipt.Admitted 1) ∷ Ok (receipt.Dropped rule.AfterTerminal) ∷ Err (cause.Pair fault.Same) ∷ [])
  pub kept : journal_of s37 ((sent_as [] u37_0, true) ∷ (sent_as [] u37_1, true) ∷ (sent_as [] u37_2, true) ∷ (sent_as [] u37_0, true) ∷ (sent_as [] u37_3, true) ∷ (sent_as [] u37_4, true) ∷ (sent_as [] u37_5, true) ∷ (both_as [] u37_0 [] u37_0, true) ∷ []) ≡ j37
  pub settled : names_of (settled_of s37.config k37) ≡ (dg (2 ∷ 0 ∷ 2 ∷ 0 ∷ 86 ∷ []) ∷ dg (22 ∷ 0 ∷ 1 ∷ 0 ∷ 53 ∷ []) ∷ dg (44 ∷ 0 ∷ 1 ∷ 0 ∷ 55 ∷ []) ∷ dg (94 ∷ 0 ∷ 0 ∷ 0 ∷ 32 ∷ []) ∷ [])
  pub parked : names_of (parked_of s37.config k37) ≡ ([])
  pub dropped : names_of (dropped_of s37.config k37) ≡ (dg (35 ∷ 0 ∷ 2 ∷ 0 ∷ 64 ∷ []) ∷ [])
  pub faulty : faulty_named s37 k37 ≡ (0 ∷ [])
  pub panorama : panorama_of s37.config k37 ≡ (Faulty ∷ [])
  pub fork : name_of (fork_choice s37.config k37) ≡ None
  pub decisions : decisions_of s37 j37 ≡ (record { block = dg (94 ∷ 0 ∷ 0 ∷ 0 ∷ 32 ∷ []); height = 0; level = 1; quorum = 1; at = 2 } ∷ [])
  pub culprits : culprits_of s37 j37 r37 ≡ (0 ∷ [])
  pub pair0 : pair_of (shown_in_either s37 j37 r37) 0 ≡ Some (named s37 u37_1, named s37 u37_4)
  pub steps : (step s37 k37 0 96 (7 ∷ []) ∷ step s37 k37 0 85 (7 ∷ []) ∷ step s37 k37 0 87 (7 ∷ []) ∷ []) ≡ (None ∷ None ∷ None ∷ [])

-- ---- case 38

abbrev s38 : Setting
s38 = named_by spread (record { weights = (1 ∷ []); ftt = 0; levels = 3; min_exponent = 4; max_exponent = 5; leaders = Table (0 ∷ []); max_records = 131072; max_parked = 4096; end = Some (0) })

abbrev u38_0 : WireUnit
u38_0 = record { instance = dg (0 ∷ 0 ∷ 0 ∷ 0 ∷ []); creator = 0; seq = 0; time = 16; exponent = 4; panorama = (Absent ∷ []); value = Some ((0 ∷ 0 ∷ 0 ∷ 0 ∷ 0 ∷ 0 ∷ 0 ∷ 0 ∷ 0 ∷ 0 ∷ 0 ∷ 16 ∷ [])); endorsed = ([]) }

abbrev u38_1 : WireUnit
u38_1 = record { instance = dg (0 ∷ 0 ∷ 0 ∷ 0 ∷ []); creator = 1; seq = 0; time = 16; exponent = 4; panorama = (Absent ∷ []); value = Some ((0 ∷ 0 ∷ 0 ∷ 0 ∷ 0 ∷ 0 ∷ 0 ∷ 0 ∷ 0 ∷ 0 ∷ 0 ∷ 16 ∷ [])); endorsed = ([]) }

abbrev u38_2 : WireUnit
u38_2 = record { instance = dg (0 ∷ 0 ∷ 0 ∷ 0 ∷ []); creator = 1; seq = 0; time = 28; exponent = 4; panorama = (Correct (dg (28 ∷ 0 ∷ 0 ∷ 0 ∷ 16 ∷ [])) ∷ []); value = None; endorsed = ([]) }

abbrev u38_3 : WireUnit
u38_3 = record { instance = dg (0 ∷ 0 ∷ 0 ∷ 0 ∷ []); creator = 0; seq = 1; time = 28; exponent = 4; panorama = (Correct (dg (28 ∷ 0 ∷ 0 ∷ 0 ∷ 16 ∷ [])) ∷ []); value = None; endorsed = ([]) }

abbrev j38 : List Vertex
j38 = (sent_as [] u38_0 ∷ backs (dg (28 ∷ 0 ∷ 0 ∷ 0 ∷ 16 ∷ [])) 0 ∷ sent_as [] u38_3 ∷ [])

abbrev r38 : List Vertex
r38 = (sent_as [] u38_0 ∷ backs (dg (28 ∷ 0 ∷ 0 ∷ 0 ∷ 16 ∷ [])) 0 ∷ sent_as [] u38_3 ∷ [])

abbrev k38 : Received
k38 = received_of s38 j38

pub record RandomCase38 : Type 0 where
  pub answers : answers_from s38 [] ((sent_as [] u38_0, true) ∷ (sent_as [] u38_0, true) ∷ (backs (dg (28 ∷ 0 ∷ 0 ∷ 0 ∷ 16 ∷ [])) 0, true) ∷ (sent_as [] u38_0, true) ∷ (both_as [] u38_1 [] u38_2, true) ∷ (both_as [] u38_1 [] u38_2, true) ∷ (sent_as [] u38_3, true) ∷ []) ≡ (Ok (receipt.Admitted 1) ∷ Ok receipt.Repeat ∷ Ok (receipt.Admitted 0) ∷ Ok receipt.Repeat ∷ Err (cause.Pair fault.Creator) ∷ Err (cause.Pair fault.Creator) ∷ Ok (receipt.Admitted 1) ∷ [])
  pub kept : journal_of s38 ((sent_as [] u38_0, true) ∷ (sent_as [] u38_0, true) ∷ (backs (dg (28 ∷ 0 ∷ 0 ∷ 0 ∷ 16 ∷ [])) 0, true) ∷ (sent_as [] u38_0, true) ∷ (both_as [] u38_1 [] u38_2, true) ∷ (both_as [] u38_1 [] u38_2, true) ∷ (sent_as [] u38_3, true) ∷ []) ≡ j38
  pub settled : names_of (settled_of s38.config k38) ≡ (dg (28 ∷ 0 ∷ 0 ∷ 0 ∷ 16 ∷ []) ∷ dg (35 ∷ 0 ∷ 1 ∷ 0 ∷ 28 ∷ []) ∷ [])
  pub parked : names_of (parked_of s38.config k38) ≡ ([])
  pub dropped : names_of (dropped_of s38.config k38) ≡ ([])
  pub faulty : faulty_named s38 k38 ≡ ([])
  pub panorama : panorama_of s38.config k38 ≡ (Correct (dg (35 ∷ 0 ∷ 1 ∷ 0 ∷ 28 ∷ [])) ∷ [])
  pub fork : name_of (fork_choice s38.config k38) ≡ Some (dg (28 ∷ 0 ∷ 0 ∷ 0 ∷ 16 ∷ []))
  pub decisions : decisions_of s38 j38 ≡ (record { block = dg (28 ∷ 0 ∷ 0 ∷ 0 ∷ 16 ∷ []); height = 0; level = 1; quorum = 1; at = 3 } ∷ [])
  pub culprits : culprits_of s38 j38 r38 ≡ ([])
  pub steps : (step s38 k38 0 26 (7 ∷ []) ∷ step s38 k38 0 32 (7 ∷ []) ∷ step s38 k38 0 29 (7 ∷ []) ∷ []) ≡ (None ∷ None ∷ None ∷ [])

-- ---- case 39

abbrev s39 : Setting
s39 = named_by crowded (record { weights = (2 ∷ 1 ∷ 2 ∷ 1 ∷ []); ftt = 1; levels = 2; min_exponent = 3; max_exponent = 3; leaders = Table (3 ∷ 0 ∷ 2 ∷ 1 ∷ []); max_records = 131072; max_parked = 4096; end = Some (0) })

abbrev u39_0 : WireUnit
u39_0 = record { instance = dg (0 ∷ 0 ∷ 0 ∷ 0 ∷ []); creator = 0; seq = 0; time = 8; exponent = 3; panorama = (Absent ∷ Absent ∷ Absent ∷ Absent ∷ []); value = Some ((0 ∷ 0 ∷ 0 ∷ 0 ∷ 0 ∷ 0 ∷ 0 ∷ 0 ∷ 0 ∷ 0 ∷ 0 ∷ 8 ∷ [])); endorsed = ([]) }

abbrev u39_1 : WireUnit
u39_1 = record { instance = dg (0 ∷ 0 ∷ 0 ∷ 0 ∷ []); creator = 2; seq = 0; time = 9; exponent = 3; panorama = (Correct (dg (1 ∷ 0 ∷ 0 ∷ 0 ∷ 0 ∷ [])) ∷ Absent ∷ Absent ∷ Absent ∷ []); value = Some ((119 ∷ 49 ∷ [])); endorsed = ([]) }

abbrev u39_2 : WireUnit
u39_2 = record { instance = dg (0 ∷ 0 ∷ 0 ∷ 0 ∷ []); creator = 2; seq = 0; time = 9; exponent = 3; panorama = (Correct (dg (1 ∷ 0 ∷ 0 ∷ 0 ∷ 0 ∷ [])) ∷ Absent ∷ Absent ∷ Absent ∷ []); value = None; endorsed = ([]) }

abbrev u39_3 : WireUnit
u39_3 = record { instance = dg (0 ∷ 0 ∷ 0 ∷ 0 ∷ []); creator = 3; seq = 0; time = 7; exponent = 3; panorama = (Correct (dg (1 ∷ 0 ∷ 0 ∷ 0 ∷ 0 ∷ [])) ∷ Absent ∷ Absent ∷ Absent ∷ []); value = None; endorsed = ([]) }

abbrev u39_4 : WireUnit
u39_4 = record { instance = dg (0 ∷ 0 ∷ 0 ∷ 0 ∷ []); creator = 3; seq = 0; time = 15; exponent = 3; panorama = (Correct (dg (1 ∷ 0 ∷ 0 ∷ 0 ∷ 0 ∷ [])) ∷ Absent ∷ Absent ∷ Absent ∷ []); value = None; endorsed = ([]) }

abbrev j39 : List Vertex
j39 = (sent_as [] u39_0 ∷ sent_as [] u39_1 ∷ sent_as [] u39_3 ∷ sent_as [] u39_4 ∷ backs (dg (1 ∷ 2 ∷ 0 ∷ 0 ∷ 0 ∷ [])) 0 ∷ backs (dg (1 ∷ 2 ∷ 0 ∷ 0 ∷ 0 ∷ [])) 3 ∷ backs (dg (1 ∷ 2 ∷ 0 ∷ 0 ∷ 0 ∷ [])) 2 ∷ [])

abbrev r39 : List Vertex
r39 = (sent_as [] u39_3 ∷ sent_as [] u39_0 ∷ sent_as [] u39_1 ∷ backs (dg (1 ∷ 2 ∷ 0 ∷ 0 ∷ 0 ∷ [])) 0 ∷ sent_as [] u39_4 ∷ backs (dg (1 ∷ 2 ∷ 0 ∷ 0 ∷ 0 ∷ [])) 3 ∷ backs (dg (1 ∷ 2 ∷ 0 ∷ 0 ∷ 0 ∷ [])) 2 ∷ [])

abbrev k39 : Received
k39 = received_of s39 j39

pub record RandomCase39 : Type 0 where
  pub answers : answers_from s39 [] ((sent_as [] u39_0, true) ∷ (sent_as [] u39_1, true) ∷ (sent_as [] u39_2, true) ∷ (sent_as [] u39_3, true) ∷ (sent_as [] u39_4, true) ∷ (backs (dg (1 ∷ 2 ∷ 0 ∷ 0 ∷ 0 ∷ [])) 0, true) ∷ (backs (dg (1 ∷ 2 ∷ 0 ∷ 0 ∷ 0 ∷ [])) 3, true) ∷ (backs (dg (1 ∷ 2 ∷ 0 ∷ 0 ∷ 0 ∷ [])) 2, true) ∷ []) ≡ (Ok (receipt.Admitted 1) ∷ Ok (receipt.Dropped rule.NotLeader) ∷ Err (cause.Clash (dg (1 ∷ 2 ∷ 0 ∷ 0 ∷ 0 ∷ []))) ∷ Ok (receipt.Dropped rule.TimeGoesBack) ∷ Ok (receipt.Admitted 1) ∷ Ok (receipt.Admitted 0) ∷ Ok (receipt.Admitted 0) ∷ Ok (receipt.Admitted 0) ∷ [])
  pub kept : journal_of s39 ((sent_as [] u39_0, true) ∷ (sent_as [] u39_1, true) ∷ (sent_as [] u39_2, true) ∷ (sent_as [] u39_3, true) ∷ (sent_as [] u39_4, true) ∷ (backs (dg (1 ∷ 2 ∷ 0 ∷ 0 ∷ 0 ∷ [])) 0, true) ∷ (backs (dg (1 ∷ 2 ∷ 0 ∷ 0 ∷ 0 ∷ [])) 3, true) ∷ (backs (dg (1 ∷ 2 ∷ 0 ∷ 0 ∷ 0 ∷ [])) 2, true) ∷ []) ≡ j39
  pub settled : names_of (settled_of s39.config k39) ≡ (dg (1 ∷ 0 ∷ 0 ∷ 0 ∷ 0 ∷ []) ∷ dg (4 ∷ 3 ∷ 0 ∷ 0 ∷ 0 ∷ []) ∷ [])
  pub parked : names_of (parked_of s39.config k39) ≡ ([])
  pub dropped : names_of (dropped_of s39.config k39) ≡ (dg (1 ∷ 2 ∷ 0 ∷ 0 ∷ 0 ∷ []) ∷ dg (1 ∷ 3 ∷ 0 ∷ 0 ∷ 0 ∷ []) ∷ [])
  pub faulty : faulty_named s39 k39 ≡ ([])
  pub panorama : panorama_of s39.config k39 ≡ (Correct (dg (1 ∷ 0 ∷ 0 ∷ 0 ∷ 0 ∷ [])) ∷ Absent ∷ Absent ∷ Correct (dg (4 ∷ 3 ∷ 0 ∷ 0 ∷ 0 ∷ [])) ∷ [])
  pub fork : name_of (fork_choice s39.config k39) ≡ Some (dg (1 ∷ 0 ∷ 0 ∷ 0 ∷ 0 ∷ []))
  pub decisions : decisions_of s39 j39 ≡ ([])
  pub culprits : culprits_of s39 j39 r39 ≡ ([])
  pub steps : (step s39 k39 2 24 (7 ∷ []) ∷ step s39 k39 3 17 (7 ∷ []) ∷ step s39 k39 0 24 (7 ∷ []) ∷ step s39 k39 3 24 (7 ∷ []) ∷ []) ≡ (None ∷ None ∷ None ∷ None ∷ [])

-- ---- case 40

abbrev s40 : Setting
s40 = named_by spread (record { weights = (1 ∷ []); ftt = 0; levels = 2; min_exponent = 4; max_exponent = 8; leaders = Table (0 ∷ 0 ∷ 0 ∷ 0 ∷ []); max_records = 131072; max_parked = 4096; end = Some (0) })

abbrev u40_0 : WireUnit
u40_0 = record { instance = dg (0 ∷ 0 ∷ 0 ∷ 0 ∷ []); creator = 0; seq = 0; time = 16; exponent = 4; panorama = (Absent ∷ []); value = Some ((0 ∷ 0 ∷ 0 ∷ 0 ∷ 0 ∷ 0 ∷ 0 ∷ 0 ∷ 0 ∷ 0 ∷ 0 ∷ 16 ∷ [])); endorsed = ([]) }

abbrev u40_1 : WireUnit
u40_1 = record { instance = dg (0 ∷ 0 ∷ 0 ∷ 0 ∷ []); creator = 4; seq = 1; time = 27; exponent = 4; panorama = (Correct (dg (28 ∷ 0 ∷ 0 ∷ 0 ∷ 16 ∷ [])) ∷ []); value = None; endorsed = ([]) }

abbrev u40_2 : WireUnit
u40_2 = record { instance = dg (0 ∷ 0 ∷ 0 ∷ 0 ∷ []); creator = 0; seq = 1; time = 27; exponent = 4; panorama = (Correct (dg (28 ∷ 0 ∷ 0 ∷ 0 ∷ 16 ∷ [])) ∷ []); value = None; endorsed = ([]) }

abbrev u40_3 : WireUnit
u40_3 = record { instance = dg (0 ∷ 0 ∷ 0 ∷ 0 ∷ []); creator = 0; seq = 2; time = 32; exponent = 4; panorama = (Correct (dg (24 ∷ 0 ∷ 1 ∷ 0 ∷ 27 ∷ [])) ∷ []); value = Some (([])); endorsed = ([]) }

abbrev u40_4 : WireUnit
u40_4 = record { instance = dg (0 ∷ 0 ∷ 0 ∷ 0 ∷ []); creator = 0; seq = 2; time = 48; exponent = 4; panorama = (Correct (dg (24 ∷ 0 ∷ 1 ∷ 0 ∷ 27 ∷ [])) ∷ []); value = Some ((0 ∷ 0 ∷ 0 ∷ 0 ∷ 0 ∷ 0 ∷ 0 ∷ 0 ∷ 0 ∷ 0 ∷ 0 ∷ 48 ∷ [])); endorsed = ([]) }

abbrev u40_5 : WireUnit
u40_5 = record { instance = dg (0 ∷ 0 ∷ 0 ∷ 0 ∷ []); creator = 0; seq = 2; time = 59; exponent = 4; panorama = (Correct (dg (24 ∷ 0 ∷ 1 ∷ 0 ∷ 27 ∷ [])) ∷ []); value = None; endorsed = ([]) }

abbrev j40 : List Vertex
j40 = (sent_as [] u40_0 ∷ sent_as [] u40_2 ∷ sent_as [] u40_3 ∷ sent_as [] u40_4 ∷ sent_as [] u40_5 ∷ [])

abbrev r40 : List Vertex
r40 = (sent_as [] u40_3 ∷ sent_as [] u40_2 ∷ sent_as [] u40_4 ∷ sent_as [] u40_0 ∷ [])

abbrev k40 : Received
k40 = received_of s40 j40

pub record RandomCase40 : Type 0 where
  pub answers : answers_from s40 [] ((sent_as [] u40_0, true) ∷ (sent_as [] u40_1, true) ∷ (sent_as [] u40_2, true) ∷ (sent_as [] u40_3, true) ∷ (sent_as [] u40_4, true) ∷ (sent_as [] u40_5, true) ∷ []) ≡ (Ok (receipt.Admitted 1) ∷ Err (cause.Local rule.UnknownCreator) ∷ Ok (receipt.Admitted 1) ∷ Ok (receipt.Dropped rule.AfterTerminal) ∷ Ok (receipt.Dropped rule.AfterTerminal) ∷ Ok (receipt.Admitted 1) ∷ [])
  pub kept : journal_of s40 ((sent_as [] u40_0, true) ∷ (sent_as [] u40_1, true) ∷ (sent_as [] u40_2, true) ∷ (sent_as [] u40_3, true) ∷ (sent_as [] u40_4, true) ∷ (sent_as [] u40_5, true) ∷ []) ≡ j40
  pub settled : names_of (settled_of s40.config k40) ≡ (dg (24 ∷ 0 ∷ 1 ∷ 0 ∷ 27 ∷ []) ∷ dg (28 ∷ 0 ∷ 0 ∷ 0 ∷ 16 ∷ []) ∷ dg (90 ∷ 0 ∷ 2 ∷ 0 ∷ 59 ∷ []) ∷ [])
  pub parked : names_of (parked_of s40.config k40) ≡ ([])
  pub dropped : names_of (dropped_of s40.config k40) ≡ (dg (4 ∷ 0 ∷ 2 ∷ 0 ∷ 32 ∷ []) ∷ dg (34 ∷ 0 ∷ 2 ∷ 0 ∷ 48 ∷ []) ∷ [])
  pub faulty : faulty_named s40 k40 ≡ ([])
  pub panorama : panorama_of s40.config k40 ≡ (Correct (dg (90 ∷ 0 ∷ 2 ∷ 0 ∷ 59 ∷ [])) ∷ [])
  pub fork : name_of (fork_choice s40.config k40) ≡ Some (dg (28 ∷ 0 ∷ 0 ∷ 0 ∷ 16 ∷ []))
  pub decisions : decisions_of s40 j40 ≡ (record { block = dg (28 ∷ 0 ∷ 0 ∷ 0 ∷ 16 ∷ []); height = 0; level = 1; quorum = 1; at = 2 } ∷ [])
  pub culprits : culprits_of s40 j40 r40 ≡ ([])
  pub steps : (step s40 k40 0 58 (7 ∷ []) ∷ step s40 k40 0 64 (7 ∷ []) ∷ step s40 k40 0 60 (7 ∷ []) ∷ []) ≡ (None ∷ None ∷ None ∷ [])

-- All of them.
pub record RandomCases4 : Type 0 where
  pub case31 : RandomCase31
  pub case32 : RandomCase32
  pub case33 : RandomCase33
  pub case34 : RandomCase34
  pub case35 : RandomCase35
  pub case36 : RandomCase36
  pub case37 : RandomCase37
  pub case38 : RandomCase38
  pub case39 : RandomCase39
  pub case40 : RandomCase40
