-- Two units cite each other, and a third cites both: all of them wait.
-- The values are those of a second reading of the definitions, written apart from them; the two agree.
use Rattle.std.specs.Prelude.{◌≡◌, true, List, [], ◌∷◌, map, Option, Some, None, Ok}
use Rattle.hw_types.specs.declared.unit.Obs.TheVariants.{Absent, Correct}
use Rattle.hw_types.specs.declared.unit.WireUnit.{WireUnit}
use Rattle.hw_types.specs.declared.unit.Need.TheVariants as need
use Rattle.hw_types.specs.declared.unit.Vertex.{Vertex}
use Rattle.hw_types.specs.declared.config.Config.{Config}
use Rattle.hw_types.specs.declared.answers.Plan.{Plan}
use Rattle.hw_types.specs.declared.answers.PlanKind.TheVariants as kind
use Rattle.hw_types.specs.declared.config.Leaders.TheVariants.{Table}
use Rattle.hw_types.specs.declared.answers.Receipt.TheVariants as receipt
use Rattle.hw_types.specs.Graph.{Node}
use Rattle.hw_types.specs.Settled.{Received, settled_of, parked_of, dropped_of, missing_of, panorama_of, faulty_weight, fork_choice}
use Rattle.hw_types.specs.Journal.{Setting, received_of, journal_of, answers_from}
use Rattle.hw_types.specs.Step.{step}
use Rattle.hw_types.specs.Culprits.{culprits_of}
use Rattle.hw_samples.specs.Words.{names_of, name_of}
use Rattle.hw_samples.specs.JournalWords.{dg, sent_as, mixed, named_by}

abbrev c : Config
c = record { weights = (1 ∷ 1 ∷ 1 ∷ []); ftt = 0; levels = 2; min_exponent = 2; max_exponent = 4; leaders = Table (0 ∷ []); max_records = 131072; max_parked = 4096; end = None }

abbrev s : Setting
s = named_by mixed c

abbrev u0 : WireUnit
u0 = record { instance = dg (0 ∷ 0 ∷ 0 ∷ 0 ∷ []); creator = 0; seq = 0; time = 8; exponent = 2; panorama = (Absent ∷ Correct (dg (7 ∷ 1 ∷ 0 ∷ 8 ∷ [])) ∷ Absent ∷ []); value = None; endorsed = [] }

abbrev u1 : WireUnit
u1 = record { instance = dg (0 ∷ 0 ∷ 0 ∷ 0 ∷ []); creator = 1; seq = 0; time = 8; exponent = 2; panorama = (Correct (dg (0 ∷ 0 ∷ 0 ∷ 8 ∷ [])) ∷ Absent ∷ Absent ∷ []); value = None; endorsed = [] }

abbrev u2 : WireUnit
u2 = record { instance = dg (0 ∷ 0 ∷ 0 ∷ 0 ∷ []); creator = 2; seq = 0; time = 9; exponent = 2; panorama = (Correct (dg (0 ∷ 0 ∷ 0 ∷ 8 ∷ [])) ∷ Correct (dg (7 ∷ 1 ∷ 0 ∷ 8 ∷ [])) ∷ Absent ∷ []); value = None; endorsed = [] }

abbrev j_shuffled : List Vertex
j_shuffled = (sent_as [] u1 ∷ sent_as [] u0 ∷ sent_as [] u2 ∷ [])

abbrev j : List Vertex
j = (sent_as [] u0 ∷ sent_as [] u1 ∷ sent_as [] u2 ∷ [])

abbrev k : Received
k = received_of s j

abbrev units : List Node
units = []

abbrev plans : List (Option Plan)
plans = (Some (record { kind = kind.Propose; unit = record { instance = dg (0 ∷ 0 ∷ 0 ∷ 0 ∷ []); creator = 0; seq = 0; time = 8; exponent = 2; panorama = (Absent ∷ Absent ∷ Absent ∷ []); value = Some ((118 ∷ [])); endorsed = [] } }) ∷ Some (record { kind = kind.Propose; unit = record { instance = dg (0 ∷ 0 ∷ 0 ∷ 0 ∷ []); creator = 0; seq = 0; time = 0; exponent = 2; panorama = (Absent ∷ Absent ∷ Absent ∷ []); value = Some ((118 ∷ [])); endorsed = [] } }) ∷ None ∷ None ∷ None ∷ None ∷ [])

abbrev j2 : List Vertex
j2 = (sent_as [] u0 ∷ sent_as [] u2 ∷ sent_as [] u1 ∷ [])

pub record CycleJournal : Type 0 where
  pub answers : answers_from s [] ((sent_as [] u0, true) ∷ (sent_as [] u1, true) ∷ (sent_as [] u2, true) ∷ []) ≡ ((Ok (receipt.Parked 1) ∷ Ok (receipt.Parked 1) ∷ Ok (receipt.Parked 2) ∷ []))
  pub order : received_of s j_shuffled ≡ k
  pub kept : journal_of s ((sent_as [] u0, true) ∷ (sent_as [] u1, true) ∷ (sent_as [] u2, true) ∷ []) ≡ j
  pub settled : settled_of c k ≡ units
  pub parked : names_of (parked_of c k) ≡ (dg (0 ∷ 0 ∷ 0 ∷ 8 ∷ []) ∷ dg (7 ∷ 1 ∷ 0 ∷ 8 ∷ []) ∷ dg (25 ∷ 2 ∷ 0 ∷ 9 ∷ []) ∷ [])
  pub dropped : names_of (dropped_of c k) ≡ []
  pub panorama : panorama_of c k ≡ (Absent ∷ Absent ∷ Absent ∷ [])
  pub weight : faulty_weight c k ≡ 0
  pub fork : name_of (fork_choice c k) ≡ None
  pub missing : map (missing_of c k units) (record { digest = dg (0 ∷ 0 ∷ 0 ∷ 8 ∷ []); unit = u0 } ∷ record { digest = dg (7 ∷ 1 ∷ 0 ∷ 8 ∷ []); unit = u1 } ∷ record { digest = dg (25 ∷ 2 ∷ 0 ∷ 9 ∷ []); unit = u2 } ∷ []) ≡ (((need.Unit (dg (7 ∷ 1 ∷ 0 ∷ 8 ∷ [])) ∷ []) ∷ (need.Unit (dg (0 ∷ 0 ∷ 0 ∷ 8 ∷ [])) ∷ []) ∷ (need.Unit (dg (0 ∷ 0 ∷ 0 ∷ 8 ∷ [])) ∷ need.Unit (dg (7 ∷ 1 ∷ 0 ∷ 8 ∷ [])) ∷ []) ∷ []))
  pub steps : (step s k 0 9 (118 ∷ []) ∷ step s k 0 0 (118 ∷ []) ∷ step s k 1 6 (118 ∷ []) ∷ step s k 1 7 (118 ∷ []) ∷ step s k 2 9 (118 ∷ []) ∷ step s k 2 0 (118 ∷ []) ∷ []) ≡ plans
  pub culprits : culprits_of s j j2 ≡ []
