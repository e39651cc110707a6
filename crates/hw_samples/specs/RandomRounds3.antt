-- A random journal of rounds in which nearly all validators cite nearly all others.
-- The values are those of a second reading of the definitions, written apart from them; the two agree.
use Rattle.std.specs.Prelude.{◌≡◌, true, List, [], ◌∷◌, map, Option, Some, None, Ok}
use Rattle.hw_types.specs.declared.unit.Obs.TheVariants.{Absent, Correct}
use Rattle.hw_types.specs.declared.unit.WireUnit.{WireUnit}
use Rattle.hw_types.specs.declared.unit.Need.TheVariants as need
use Rattle.hw_types.specs.declared.unit.Vertex.{Vertex}
use Rattle.hw_types.specs.declared.config.Config.{Config}
use Rattle.hw_types.specs.declared.answers.Plan.{Plan}
use Rattle.hw_types.specs.declared.answers.PlanKind.TheVariants as kind
use Rattle.hw_types.specs.declared.config.Leaders.TheVariants.{Table}
use Rattle.hw_types.specs.declared.answers.Receipt.TheVariants as receipt
use Rattle.hw_types.specs.Graph.{Node}
use Rattle.hw_types.specs.Settled.{Received, settled_of, parked_of, dropped_of, missing_of, panorama_of, faulty_weight, fork_choice}
use Rattle.hw_types.specs.Journal.{Setting, received_of, journal_of, answers_from}
use Rattle.hw_types.specs.Step.{step}
use Rattle.hw_samples.specs.Words.{names_of, name_of}
use Rattle.hw_samples.specs.JournalWords.{dg, sent_as, mixed, named_by}

abbrev c : Config
c = record { weights = (1 ∷ 1 ∷ 1 ∷ 1 ∷ []); ftt = 1; levels = 2; min_exponent = 2; max_exponent = 4; leaders = Table (0 ∷ 3 ∷ []); max_records = 131072; max_parked = 4096; end = None }

abbrev s : Setting
s = named_by mixed c

abbrev u0 : WireUnit
u0 = record { instance = dg (0 ∷ 0 ∷ 0 ∷ 0 ∷ []); creator = 1; seq = 0; time = 9; exponent = 2; panorama = (Correct (dg (41 ∷ 0 ∷ 0 ∷ 8 ∷ [])) ∷ Absent ∷ Absent ∷ Absent ∷ []); value = None; endorsed = [] }

abbrev u1 : WireUnit
u1 = record { instance = dg (0 ∷ 0 ∷ 0 ∷ 0 ∷ []); creator = 2; seq = 0; time = 9; exponent = 2; panorama = (Correct (dg (41 ∷ 0 ∷ 0 ∷ 8 ∷ [])) ∷ Absent ∷ Absent ∷ Absent ∷ []); value = None; endorsed = [] }

abbrev u2 : WireUnit
u2 = record { instance = dg (0 ∷ 0 ∷ 0 ∷ 0 ∷ []); creator = 3; seq = 0; time = 9; exponent = 2; panorama = (Correct (dg (41 ∷ 0 ∷ 0 ∷ 8 ∷ [])) ∷ Absent ∷ Absent ∷ Absent ∷ []); value = None; endorsed = [] }

abbrev u3 : WireUnit
u3 = record { instance = dg (0 ∷ 0 ∷ 0 ∷ 0 ∷ []); creator = 0; seq = 1; time = 12; exponent = 2; panorama = (Correct (dg (41 ∷ 0 ∷ 0 ∷ 8 ∷ [])) ∷ Correct (dg (19 ∷ 1 ∷ 0 ∷ 9 ∷ [])) ∷ Correct (dg (26 ∷ 2 ∷ 0 ∷ 9 ∷ [])) ∷ Correct (dg (33 ∷ 3 ∷ 0 ∷ 9 ∷ [])) ∷ []); value = None; endorsed = [] }

abbrev u4 : WireUnit
u4 = record { instance = dg (0 ∷ 0 ∷ 0 ∷ 0 ∷ []); creator = 1; seq = 1; time = 12; exponent = 2; panorama = (Correct (dg (41 ∷ 0 ∷ 0 ∷ 8 ∷ [])) ∷ Correct (dg (19 ∷ 1 ∷ 0 ∷ 9 ∷ [])) ∷ Absent ∷ Correct (dg (33 ∷ 3 ∷ 0 ∷ 9 ∷ [])) ∷ []); value = None; endorsed = [] }

abbrev u5 : WireUnit
u5 = record { instance = dg (0 ∷ 0 ∷ 0 ∷ 0 ∷ []); creator = 2; seq = 1; time = 12; exponent = 2; panorama = (Correct (dg (41 ∷ 0 ∷ 0 ∷ 8 ∷ [])) ∷ Correct (dg (19 ∷ 1 ∷ 0 ∷ 9 ∷ [])) ∷ Correct (dg (26 ∷ 2 ∷ 0 ∷ 9 ∷ [])) ∷ Correct (dg (33 ∷ 3 ∷ 0 ∷ 9 ∷ [])) ∷ []); value = None; endorsed = [] }

abbrev u6 : WireUnit
u6 = record { instance = dg (0 ∷ 0 ∷ 0 ∷ 0 ∷ []); creator = 3; seq = 1; time = 12; exponent = 2; panorama = (Correct (dg (41 ∷ 0 ∷ 0 ∷ 8 ∷ [])) ∷ Absent ∷ Correct (dg (26 ∷ 2 ∷ 0 ∷ 9 ∷ [])) ∷ Correct (dg (33 ∷ 3 ∷ 0 ∷ 9 ∷ [])) ∷ []); value = None; endorsed = [] }

abbrev u7 : WireUnit
u7 = record { instance = dg (0 ∷ 0 ∷ 0 ∷ 0 ∷ []); creator = 0; seq = 2; time = 16; exponent = 2; panorama = (Correct (dg (50 ∷ 0 ∷ 1 ∷ 12 ∷ [])) ∷ Correct (dg (57 ∷ 1 ∷ 1 ∷ 12 ∷ [])) ∷ Correct (dg (26 ∷ 2 ∷ 0 ∷ 9 ∷ [])) ∷ Correct (dg (71 ∷ 3 ∷ 1 ∷ 12 ∷ [])) ∷ []); value = Some ((121 ∷ 122 ∷ [])); endorsed = [] }

abbrev j_shuffled : List Vertex
j_shuffled = (sent_as [] u0 ∷ sent_as (1 ∷ []) u5 ∷ sent_as [] u7 ∷ sent_as (1 ∷ []) u2 ∷ sent_as (1 ∷ []) u1 ∷ sent_as (1 ∷ []) u6 ∷ sent_as [] u4 ∷ sent_as [] u3 ∷ [])

abbrev j : List Vertex
j = (sent_as [] u0 ∷ sent_as (1 ∷ []) u1 ∷ sent_as (1 ∷ []) u2 ∷ sent_as [] u3 ∷ sent_as [] u4 ∷ sent_as (1 ∷ []) u5 ∷ sent_as (1 ∷ []) u6 ∷ sent_as [] u7 ∷ [])

abbrev k : Received
k = received_of s j

abbrev units : List Node
units = []

abbrev plans : List (Option Plan)
plans = (Some (record { kind = kind.Propose; unit = record { instance = dg (0 ∷ 0 ∷ 0 ∷ 0 ∷ []); creator = 0; seq = 0; time = 8; exponent = 2; panorama = (Absent ∷ Absent ∷ Absent ∷ Absent ∷ []); value = Some ((118 ∷ [])); endorsed = [] } }) ∷ None ∷ None ∷ None ∷ None ∷ None ∷ Some (record { kind = kind.Propose; unit = record { instance = dg (0 ∷ 0 ∷ 0 ∷ 0 ∷ []); creator = 3; seq = 0; time = 4; exponent = 2; panorama = (Absent ∷ Absent ∷ Absent ∷ Absent ∷ []); value = Some ((118 ∷ [])); endorsed = [] } }) ∷ None ∷ [])

pub record RandomRounds3 : Type 0 where
  pub answers : answers_from s [] ((sent_as [] u0, true) ∷ (sent_as (1 ∷ []) u1, true) ∷ (sent_as (1 ∷ []) u2, true) ∷ (sent_as [] u3, true) ∷ (sent_as [] u4, true) ∷ (sent_as (1 ∷ []) u5, true) ∷ (sent_as (1 ∷ []) u6, true) ∷ (sent_as [] u7, true) ∷ []) ≡ ((Ok (receipt.Parked 1) ∷ Ok (receipt.Parked 1) ∷ Ok (receipt.Parked 1) ∷ Ok (receipt.Parked 4) ∷ Ok (receipt.Parked 3) ∷ Ok (receipt.Parked 4) ∷ Ok (receipt.Parked 3) ∷ Ok (receipt.Parked 4) ∷ []))
  pub order : received_of s j_shuffled ≡ k
  pub kept : journal_of s ((sent_as [] u0, true) ∷ (sent_as (1 ∷ []) u1, true) ∷ (sent_as (1 ∷ []) u2, true) ∷ (sent_as [] u3, true) ∷ (sent_as [] u4, true) ∷ (sent_as (1 ∷ []) u5, true) ∷ (sent_as (1 ∷ []) u6, true) ∷ (sent_as [] u7, true) ∷ []) ≡ j
  pub settled : settled_of c k ≡ units
  pub parked : names_of (parked_of c k) ≡ (dg (19 ∷ 1 ∷ 0 ∷ 9 ∷ []) ∷ dg (26 ∷ 2 ∷ 0 ∷ 9 ∷ []) ∷ dg (33 ∷ 3 ∷ 0 ∷ 9 ∷ []) ∷ dg (50 ∷ 0 ∷ 1 ∷ 12 ∷ []) ∷ dg (57 ∷ 1 ∷ 1 ∷ 12 ∷ []) ∷ dg (64 ∷ 2 ∷ 1 ∷ 12 ∷ []) ∷ dg (68 ∷ 0 ∷ 2 ∷ 16 ∷ []) ∷ dg (71 ∷ 3 ∷ 1 ∷ 12 ∷ []) ∷ [])
  pub dropped : names_of (dropped_of c k) ≡ []
  pub panorama : panorama_of c k ≡ (Absent ∷ Absent ∷ Absent ∷ Absent ∷ [])
  pub weight : faulty_weight c k ≡ 0
  pub fork : name_of (fork_choice c k) ≡ None
  pub missing : map (missing_of c k units) (record { digest = dg (19 ∷ 1 ∷ 0 ∷ 9 ∷ []); unit = u0 } ∷ record { digest = dg (26 ∷ 2 ∷ 0 ∷ 9 ∷ []); unit = u1 } ∷ record { digest = dg (33 ∷ 3 ∷ 0 ∷ 9 ∷ []); unit = u2 } ∷ record { digest = dg (50 ∷ 0 ∷ 1 ∷ 12 ∷ []); unit = u3 } ∷ record { digest = dg (57 ∷ 1 ∷ 1 ∷ 12 ∷ []); unit = u4 } ∷ record { digest = dg (64 ∷ 2 ∷ 1 ∷ 12 ∷ []); unit = u5 } ∷ record { digest = dg (68 ∷ 0 ∷ 2 ∷ 16 ∷ []); unit = u7 } ∷ record { digest = dg (71 ∷ 3 ∷ 1 ∷ 12 ∷ []); unit = u6 } ∷ []) ≡ (((need.Unit (dg (41 ∷ 0 ∷ 0 ∷ 8 ∷ [])) ∷ []) ∷ (need.Unit (dg (41 ∷ 0 ∷ 0 ∷ 8 ∷ [])) ∷ []) ∷ (need.Unit (dg (41 ∷ 0 ∷ 0 ∷ 8 ∷ [])) ∷ []) ∷ (need.Unit (dg (41 ∷ 0 ∷ 0 ∷ 8 ∷ [])) ∷ need.Unit (dg (19 ∷ 1 ∷ 0 ∷ 9 ∷ [])) ∷ need.Unit (dg (26 ∷ 2 ∷ 0 ∷ 9 ∷ [])) ∷ need.Unit (dg (33 ∷ 3 ∷ 0 ∷ 9 ∷ [])) ∷ []) ∷ (need.Unit (dg (41 ∷ 0 ∷ 0 ∷ 8 ∷ [])) ∷ need.Unit (dg (19 ∷ 1 ∷ 0 ∷ 9 ∷ [])) ∷ need.Unit (dg (33 ∷ 3 ∷ 0 ∷ 9 ∷ [])) ∷ []) ∷ (need.Unit (dg (41 ∷ 0 ∷ 0 ∷ 8 ∷ [])) ∷ need.Unit (dg (19 ∷ 1 ∷ 0 ∷ 9 ∷ [])) ∷ need.Unit (dg (26 ∷ 2 ∷ 0 ∷ 9 ∷ [])) ∷ need.Unit (dg (33 ∷ 3 ∷ 0 ∷ 9 ∷ [])) ∷ []) ∷ (need.Unit (dg (50 ∷ 0 ∷ 1 ∷ 12 ∷ [])) ∷ need.Unit (dg (57 ∷ 1 ∷ 1 ∷ 12 ∷ [])) ∷ need.Unit (dg (26 ∷ 2 ∷ 0 ∷ 9 ∷ [])) ∷ need.Unit (dg (71 ∷ 3 ∷ 1 ∷ 12 ∷ [])) ∷ []) ∷ (need.Unit (dg (41 ∷ 0 ∷ 0 ∷ 8 ∷ [])) ∷ need.Unit (dg (26 ∷ 2 ∷ 0 ∷ 9 ∷ [])) ∷ need.Unit (dg (33 ∷ 3 ∷ 0 ∷ 9 ∷ [])) ∷ []) ∷ []))
  pub steps : (step s k 0 9 (118 ∷ []) ∷ step s k 0 4 (118 ∷ []) ∷ step s k 1 2 (118 ∷ []) ∷ step s k 1 0 (118 ∷ []) ∷ step s k 2 5 (118 ∷ []) ∷ step s k 2 9 (118 ∷ []) ∷ step s k 3 5 (118 ∷ []) ∷ step s k 3 2 (118 ∷ []) ∷ []) ≡ plans
