-- A random journal with rare events: forks, marks, lists, changes of the exponent and broken rules are drawn more often.
-- The values are those of a second reading of the definitions, written apart from them; the two agree.
use Rattle.std.specs.Prelude.{◌≡◌, true, false, List, [], ◌∷◌, map, Option, Some, None, Ok, Err}
use Rattle.hw_types.specs.declared.unit.Obs.TheVariants.{Absent, Correct, Faulty}
use Rattle.hw_types.specs.declared.unit.WireUnit.{WireUnit}
use Rattle.hw_types.specs.declared.unit.Vertex.{Vertex}
use Rattle.hw_types.specs.declared.config.Config.{Config}
use Rattle.hw_types.specs.declared.answers.Plan.{Plan}
use Rattle.hw_types.specs.declared.answers.PlanKind.TheVariants as kind
use Rattle.hw_types.specs.declared.config.Leaders.TheVariants.{Table}
use Rattle.hw_types.specs.declared.answers.Rule.TheVariants as rule
use Rattle.hw_types.specs.declared.answers.Receipt.TheVariants as receipt
use Rattle.hw_types.specs.declared.answers.Cause.TheVariants as cause
use Rattle.hw_types.specs.Graph.{Node, past}
use Rattle.hw_types.specs.Rules.{state_rule, has_naive_fork}
use Rattle.hw_types.specs.Settled.{Received, settled_of, parked_of, dropped_of, missing_of, panorama_of, faulty_weight, fork_choice, is_endorsed}
use Rattle.hw_types.specs.Journal.{Setting, received_of, answers_from}
use Rattle.hw_types.specs.Step.{step}
use Rattle.hw_types.specs.Culprits.{culprits_of, pair_of, shown_in_either}
use Rattle.hw_samples.specs.Words.{names_of, name_of}
use Rattle.hw_samples.specs.JournalWords.{dg, sent_as, backs, mixed, named_by, votes_in, parents_in, committee_test}

abbrev c : Config
c = record { weights = (1 ∷ 1 ∷ 1 ∷ 1 ∷ []); ftt = 0; levels = 1; min_exponent = 2; max_exponent = 4; leaders = Table (0 ∷ 2 ∷ []); max_records = 131072; max_parked = 4096; end = None }

abbrev s : Setting
s = named_by mixed c

abbrev u0 : WireUnit
u0 = record { instance = dg (0 ∷ 0 ∷ 0 ∷ 0 ∷ []); creator = 0; seq = 0; time = 8; exponent = 2; panorama = (Absent ∷ Absent ∷ Absent ∷ Absent ∷ []); value = Some ((120 ∷ [])); endorsed = [] }

abbrev u1 : WireUnit
u1 = record { instance = dg (0 ∷ 0 ∷ 0 ∷ 0 ∷ []); creator = 1; seq = 0; time = 9; exponent = 2; panorama = (Correct (dg (41 ∷ 0 ∷ 0 ∷ 8 ∷ [])) ∷ Absent ∷ Absent ∷ Absent ∷ []); value = None; endorsed = [] }

abbrev u2 : WireUnit
u2 = record { instance = dg (0 ∷ 0 ∷ 0 ∷ 0 ∷ []); creator = 1; seq = 0; time = 9; exponent = 3; panorama = (Correct (dg (41 ∷ 0 ∷ 0 ∷ 8 ∷ [])) ∷ Absent ∷ Absent ∷ Absent ∷ []); value = None; endorsed = [] }

abbrev u3 : WireUnit
u3 = record { instance = dg (0 ∷ 0 ∷ 0 ∷ 0 ∷ []); creator = 3; seq = 0; time = 11; exponent = 2; panorama = (Correct (dg (41 ∷ 0 ∷ 0 ∷ 8 ∷ [])) ∷ Correct (dg (19 ∷ 1 ∷ 0 ∷ 9 ∷ [])) ∷ Absent ∷ Absent ∷ []); value = None; endorsed = [] }

abbrev u4 : WireUnit
u4 = record { instance = dg (0 ∷ 0 ∷ 0 ∷ 0 ∷ []); creator = 2; seq = 0; time = 11; exponent = 2; panorama = (Correct (dg (41 ∷ 0 ∷ 0 ∷ 8 ∷ [])) ∷ Correct (dg (22 ∷ 1 ∷ 0 ∷ 9 ∷ [])) ∷ Absent ∷ Absent ∷ []); value = None; endorsed = [] }

abbrev u5 : WireUnit
u5 = record { instance = dg (0 ∷ 0 ∷ 0 ∷ 0 ∷ []); creator = 0; seq = 1; time = 13; exponent = 2; panorama = (Correct (dg (41 ∷ 0 ∷ 0 ∷ 8 ∷ [])) ∷ Faulty ∷ Correct (dg (48 ∷ 2 ∷ 0 ∷ 11 ∷ [])) ∷ Correct (dg (55 ∷ 3 ∷ 0 ∷ 11 ∷ [])) ∷ []); value = None; endorsed = (dg (48 ∷ 2 ∷ 0 ∷ 11 ∷ []) ∷ dg (55 ∷ 3 ∷ 0 ∷ 11 ∷ []) ∷ []) }

abbrev u6 : WireUnit
u6 = record { instance = dg (0 ∷ 0 ∷ 0 ∷ 0 ∷ []); creator = 3; seq = 1; time = 17; exponent = 2; panorama = (Correct (dg (87 ∷ 0 ∷ 1 ∷ 13 ∷ [])) ∷ Faulty ∷ Correct (dg (48 ∷ 2 ∷ 0 ∷ 11 ∷ [])) ∷ Correct (dg (55 ∷ 3 ∷ 0 ∷ 11 ∷ [])) ∷ []); value = None; endorsed = (dg (48 ∷ 2 ∷ 0 ∷ 11 ∷ []) ∷ dg (55 ∷ 3 ∷ 0 ∷ 11 ∷ []) ∷ []) }

abbrev u7 : WireUnit
u7 = record { instance = dg (0 ∷ 0 ∷ 0 ∷ 0 ∷ []); creator = 2; seq = 0; time = 20; exponent = 2; panorama = (Absent ∷ Absent ∷ Absent ∷ Faulty ∷ []); value = None; endorsed = [] }

abbrev u8 : WireUnit
u8 = record { instance = dg (0 ∷ 0 ∷ 0 ∷ 0 ∷ []); creator = 0; seq = 2; time = 24; exponent = 2; panorama = (Correct (dg (87 ∷ 0 ∷ 1 ∷ 13 ∷ [])) ∷ Faulty ∷ Faulty ∷ Faulty ∷ []); value = Some ([]); endorsed = (dg (200 ∷ 200 ∷ 200 ∷ 200 ∷ []) ∷ dg (50 ∷ 2 ∷ 0 ∷ 20 ∷ []) ∷ []) }

abbrev u9 : WireUnit
u9 = record { instance = dg (0 ∷ 0 ∷ 0 ∷ 0 ∷ []); creator = 0; seq = 0; time = 32; exponent = 4; panorama = (Correct (dg (36 ∷ 0 ∷ 2 ∷ 24 ∷ [])) ∷ Faulty ∷ Faulty ∷ Faulty ∷ []); value = Some ((120 ∷ [])); endorsed = (dg (50 ∷ 2 ∷ 0 ∷ 20 ∷ []) ∷ dg (200 ∷ 200 ∷ 200 ∷ 200 ∷ []) ∷ []) }

abbrev j : List Vertex
j = (backs (dg (50 ∷ 2 ∷ 0 ∷ 20 ∷ [])) 3 ∷ sent_as (1 ∷ []) u0 ∷ backs (dg (48 ∷ 2 ∷ 0 ∷ 11 ∷ [])) 3 ∷ backs (dg (55 ∷ 3 ∷ 0 ∷ 11 ∷ [])) 3 ∷ sent_as [] u1 ∷ sent_as (1 ∷ []) u2 ∷ sent_as [] u3 ∷ sent_as [] u4 ∷ backs (dg (55 ∷ 3 ∷ 0 ∷ 11 ∷ [])) 0 ∷ backs (dg (200 ∷ 200 ∷ 200 ∷ 200 ∷ [])) 2 ∷ backs (dg (48 ∷ 2 ∷ 0 ∷ 11 ∷ [])) 0 ∷ backs (dg (48 ∷ 2 ∷ 0 ∷ 11 ∷ [])) 2 ∷ backs (dg (50 ∷ 2 ∷ 0 ∷ 20 ∷ [])) 2 ∷ backs (dg (200 ∷ 200 ∷ 200 ∷ 200 ∷ [])) 1 ∷ sent_as (1 ∷ []) u5 ∷ backs (dg (200 ∷ 200 ∷ 200 ∷ 200 ∷ [])) 3 ∷ sent_as (1 ∷ []) u6 ∷ backs (dg (55 ∷ 3 ∷ 0 ∷ 11 ∷ [])) 2 ∷ backs (dg (50 ∷ 2 ∷ 0 ∷ 20 ∷ [])) 1 ∷ backs (dg (55 ∷ 3 ∷ 0 ∷ 11 ∷ [])) 1 ∷ backs (dg (48 ∷ 2 ∷ 0 ∷ 11 ∷ [])) 1 ∷ backs (dg (200 ∷ 200 ∷ 200 ∷ 200 ∷ [])) 0 ∷ backs (dg (50 ∷ 2 ∷ 0 ∷ 20 ∷ [])) 0 ∷ [])

abbrev k : Received
k = received_of s j

abbrev units : List Node
units = (record { digest = dg (19 ∷ 1 ∷ 0 ∷ 9 ∷ []); unit = u1 } ∷ record { digest = dg (22 ∷ 1 ∷ 0 ∷ 9 ∷ []); unit = u2 } ∷ record { digest = dg (41 ∷ 0 ∷ 0 ∷ 8 ∷ []); unit = u0 } ∷ record { digest = dg (48 ∷ 2 ∷ 0 ∷ 11 ∷ []); unit = u4 } ∷ record { digest = dg (55 ∷ 3 ∷ 0 ∷ 11 ∷ []); unit = u3 } ∷ record { digest = dg (55 ∷ 3 ∷ 1 ∷ 17 ∷ []); unit = u6 } ∷ record { digest = dg (87 ∷ 0 ∷ 1 ∷ 13 ∷ []); unit = u5 } ∷ [])

abbrev plans : List (Option Plan)
plans = (Some (record { kind = kind.Witness; unit = record { instance = dg (0 ∷ 0 ∷ 0 ∷ 0 ∷ []); creator = 0; seq = 2; time = 14; exponent = 2; panorama = (Correct (dg (87 ∷ 0 ∷ 1 ∷ 13 ∷ [])) ∷ Faulty ∷ Correct (dg (48 ∷ 2 ∷ 0 ∷ 11 ∷ [])) ∷ Correct (dg (55 ∷ 3 ∷ 0 ∷ 11 ∷ [])) ∷ []); value = None; endorsed = (dg (48 ∷ 2 ∷ 0 ∷ 11 ∷ []) ∷ dg (55 ∷ 3 ∷ 0 ∷ 11 ∷ []) ∷ []) } }) ∷ None ∷ None ∷ None ∷ Some (record { kind = kind.Propose; unit = record { instance = dg (0 ∷ 0 ∷ 0 ∷ 0 ∷ []); creator = 2; seq = 1; time = 20; exponent = 2; panorama = (Correct (dg (87 ∷ 0 ∷ 1 ∷ 13 ∷ [])) ∷ Faulty ∷ Correct (dg (48 ∷ 2 ∷ 0 ∷ 11 ∷ [])) ∷ Correct (dg (55 ∷ 3 ∷ 1 ∷ 17 ∷ [])) ∷ []); value = Some ((118 ∷ [])); endorsed = (dg (48 ∷ 2 ∷ 0 ∷ 11 ∷ []) ∷ dg (55 ∷ 3 ∷ 0 ∷ 11 ∷ []) ∷ []) } }) ∷ Some (record { kind = kind.Witness; unit = record { instance = dg (0 ∷ 0 ∷ 0 ∷ 0 ∷ []); creator = 2; seq = 1; time = 19; exponent = 2; panorama = (Correct (dg (87 ∷ 0 ∷ 1 ∷ 13 ∷ [])) ∷ Faulty ∷ Correct (dg (48 ∷ 2 ∷ 0 ∷ 11 ∷ [])) ∷ Correct (dg (55 ∷ 3 ∷ 1 ∷ 17 ∷ [])) ∷ []); value = None; endorsed = (dg (48 ∷ 2 ∷ 0 ∷ 11 ∷ []) ∷ dg (55 ∷ 3 ∷ 0 ∷ 11 ∷ []) ∷ []) } }) ∷ None ∷ None ∷ [])

abbrev j2 : List Vertex
j2 = (sent_as [] u0 ∷ sent_as (1 ∷ []) u1 ∷ backs (dg (200 ∷ 200 ∷ 200 ∷ 200 ∷ [])) 2 ∷ sent_as (1 ∷ []) u2 ∷ sent_as [] u3 ∷ sent_as [] u4 ∷ backs (dg (50 ∷ 2 ∷ 0 ∷ 20 ∷ [])) 3 ∷ sent_as (1 ∷ []) u5 ∷ backs (dg (48 ∷ 2 ∷ 0 ∷ 11 ∷ [])) 1 ∷ sent_as (1 ∷ []) u6 ∷ backs (dg (55 ∷ 3 ∷ 0 ∷ 11 ∷ [])) 2 ∷ backs (dg (48 ∷ 2 ∷ 0 ∷ 11 ∷ [])) 0 ∷ backs (dg (48 ∷ 2 ∷ 0 ∷ 11 ∷ [])) 2 ∷ backs (dg (55 ∷ 3 ∷ 0 ∷ 11 ∷ [])) 1 ∷ backs (dg (50 ∷ 2 ∷ 0 ∷ 20 ∷ [])) 2 ∷ backs (dg (50 ∷ 2 ∷ 0 ∷ 20 ∷ [])) 1 ∷ backs (dg (200 ∷ 200 ∷ 200 ∷ 200 ∷ [])) 0 ∷ backs (dg (200 ∷ 200 ∷ 200 ∷ 200 ∷ [])) 3 ∷ backs (dg (55 ∷ 3 ∷ 0 ∷ 11 ∷ [])) 0 ∷ backs (dg (200 ∷ 200 ∷ 200 ∷ 200 ∷ [])) 1 ∷ backs (dg (48 ∷ 2 ∷ 0 ∷ 11 ∷ [])) 3 ∷ backs (dg (55 ∷ 3 ∷ 0 ∷ 11 ∷ [])) 3 ∷ backs (dg (50 ∷ 2 ∷ 0 ∷ 20 ∷ [])) 0 ∷ [])

pub record RandomEvents2 : Type 0 where
  pub answers : answers_from s [] ((backs (dg (50 ∷ 2 ∷ 0 ∷ 20 ∷ [])) 3, true) ∷ (sent_as (1 ∷ []) u0, true) ∷ (backs (dg (48 ∷ 2 ∷ 0 ∷ 11 ∷ [])) 3, true) ∷ (backs (dg (55 ∷ 3 ∷ 0 ∷ 11 ∷ [])) 3, true) ∷ (sent_as [] u1, true) ∷ (sent_as (1 ∷ []) u2, true) ∷ (sent_as [] u3, true) ∷ (backs (dg (55 ∷ 3 ∷ 0 ∷ 11 ∷ [])) 3, true) ∷ (sent_as [] u4, true) ∷ (backs (dg (55 ∷ 3 ∷ 0 ∷ 11 ∷ [])) 0, true) ∷ (backs (dg (200 ∷ 200 ∷ 200 ∷ 200 ∷ [])) 2, true) ∷ (backs (dg (48 ∷ 2 ∷ 0 ∷ 11 ∷ [])) 0, true) ∷ (backs (dg (48 ∷ 2 ∷ 0 ∷ 11 ∷ [])) 2, true) ∷ (backs (dg (50 ∷ 2 ∷ 0 ∷ 20 ∷ [])) 2, true) ∷ (backs (dg (200 ∷ 200 ∷ 200 ∷ 200 ∷ [])) 1, true) ∷ (sent_as (1 ∷ []) u5, true) ∷ (sent_as (5 ∷ []) u5, true) ∷ (backs (dg (200 ∷ 200 ∷ 200 ∷ 200 ∷ [])) 3, true) ∷ (sent_as (1 ∷ []) u6, true) ∷ (backs (dg (55 ∷ 3 ∷ 0 ∷ 11 ∷ [])) 2, true) ∷ (backs (dg (50 ∷ 2 ∷ 0 ∷ 20 ∷ [])) 1, true) ∷ (backs (dg (55 ∷ 3 ∷ 1 ∷ 17 ∷ [])) 4, true) ∷ (backs (dg (55 ∷ 3 ∷ 0 ∷ 11 ∷ [])) 1, true) ∷ (backs (dg (48 ∷ 2 ∷ 0 ∷ 11 ∷ [])) 1, true) ∷ (sent_as (1 ∷ []) u7, true) ∷ (sent_as [] u8, true) ∷ (sent_as (1 ∷ []) u9, true) ∷ (backs (dg (200 ∷ 200 ∷ 200 ∷ 200 ∷ [])) 0, true) ∷ (backs (dg (50 ∷ 2 ∷ 0 ∷ 20 ∷ [])) 0, true) ∷ []) ≡ ((Ok (receipt.Admitted 0) ∷ Ok (receipt.Admitted 1) ∷ Ok (receipt.Admitted 0) ∷ Ok (receipt.Admitted 0) ∷ Ok (receipt.Admitted 1) ∷ Ok (receipt.Admitted 1) ∷ Ok (receipt.Admitted 1) ∷ Ok receipt.Repeat ∷ Ok (receipt.Admitted 1) ∷ Ok (receipt.Admitted 0) ∷ Ok (receipt.Admitted 0) ∷ Ok (receipt.Admitted 0) ∷ Ok (receipt.Admitted 0) ∷ Ok (receipt.Admitted 0) ∷ Ok (receipt.Admitted 0) ∷ Ok (receipt.Parked 1) ∷ Ok receipt.Repeat ∷ Ok (receipt.Admitted 0) ∷ Ok (receipt.Parked 2) ∷ Ok (receipt.Admitted 2) ∷ Ok (receipt.Admitted 0) ∷ Err (cause.Local rule.UnknownCreator) ∷ Ok (receipt.Admitted 0) ∷ Ok (receipt.Admitted 0) ∷ Err (cause.Local rule.NoBlock) ∷ Err (cause.Local rule.EndorsedOrder) ∷ Err (cause.Local rule.FirstSequence) ∷ Ok (receipt.Admitted 0) ∷ Ok (receipt.Admitted 0) ∷ []))
  pub settled : settled_of c k ≡ units
  pub parked : names_of (parked_of c k) ≡ []
  pub dropped : names_of (dropped_of c k) ≡ []
  pub panorama : panorama_of c k ≡ (Correct (dg (87 ∷ 0 ∷ 1 ∷ 13 ∷ [])) ∷ Faulty ∷ Correct (dg (48 ∷ 2 ∷ 0 ∷ 11 ∷ [])) ∷ Correct (dg (55 ∷ 3 ∷ 1 ∷ 17 ∷ [])) ∷ [])
  pub weight : faulty_weight c k ≡ 1
  pub fork : name_of (fork_choice c k) ≡ Some (dg (41 ∷ 0 ∷ 0 ∷ 8 ∷ []))
  pub endorsed : map (is_endorsed c k) (dg (48 ∷ 2 ∷ 0 ∷ 11 ∷ []) ∷ dg (50 ∷ 2 ∷ 0 ∷ 20 ∷ []) ∷ dg (55 ∷ 3 ∷ 0 ∷ 11 ∷ []) ∷ dg (200 ∷ 200 ∷ 200 ∷ 200 ∷ []) ∷ []) ≡ (true ∷ true ∷ true ∷ true ∷ [])
  pub votes : votes_in c units ≡ (Some (dg (41 ∷ 0 ∷ 0 ∷ 8 ∷ [])) ∷ Some (dg (41 ∷ 0 ∷ 0 ∷ 8 ∷ [])) ∷ Some (dg (41 ∷ 0 ∷ 0 ∷ 8 ∷ [])) ∷ Some (dg (41 ∷ 0 ∷ 0 ∷ 8 ∷ [])) ∷ Some (dg (41 ∷ 0 ∷ 0 ∷ 8 ∷ [])) ∷ Some (dg (41 ∷ 0 ∷ 0 ∷ 8 ∷ [])) ∷ Some (dg (41 ∷ 0 ∷ 0 ∷ 8 ∷ [])) ∷ [])
  pub heights : parents_in c units ≡ ((None, 0) ∷ [])
  pub missing : map (missing_of c k units) (record { digest = dg (19 ∷ 1 ∷ 0 ∷ 9 ∷ []); unit = u1 } ∷ record { digest = dg (22 ∷ 1 ∷ 0 ∷ 9 ∷ []); unit = u2 } ∷ record { digest = dg (41 ∷ 0 ∷ 0 ∷ 8 ∷ []); unit = u0 } ∷ record { digest = dg (48 ∷ 2 ∷ 0 ∷ 11 ∷ []); unit = u4 } ∷ record { digest = dg (55 ∷ 3 ∷ 0 ∷ 11 ∷ []); unit = u3 } ∷ record { digest = dg (55 ∷ 3 ∷ 1 ∷ 17 ∷ []); unit = u6 } ∷ record { digest = dg (87 ∷ 0 ∷ 1 ∷ 13 ∷ []); unit = u5 } ∷ []) ≡ (([] ∷ [] ∷ [] ∷ [] ∷ [] ∷ [] ∷ [] ∷ []))
  pub rules : map (state_rule c units) (record { digest = dg (19 ∷ 1 ∷ 0 ∷ 9 ∷ []); unit = u1 } ∷ record { digest = dg (22 ∷ 1 ∷ 0 ∷ 9 ∷ []); unit = u2 } ∷ record { digest = dg (41 ∷ 0 ∷ 0 ∷ 8 ∷ []); unit = u0 } ∷ record { digest = dg (48 ∷ 2 ∷ 0 ∷ 11 ∷ []); unit = u4 } ∷ record { digest = dg (55 ∷ 3 ∷ 0 ∷ 11 ∷ []); unit = u3 } ∷ record { digest = dg (55 ∷ 3 ∷ 1 ∷ 17 ∷ []); unit = u6 } ∷ record { digest = dg (87 ∷ 0 ∷ 1 ∷ 13 ∷ []); unit = u5 } ∷ []) ≡ (None ∷ None ∷ None ∷ None ∷ None ∷ None ∷ None ∷ [])
  pub naive : (has_naive_fork (past units (Correct (dg (87 ∷ 0 ∷ 1 ∷ 13 ∷ [])) ∷ Correct (dg (19 ∷ 1 ∷ 0 ∷ 9 ∷ [])) ∷ Correct (dg (48 ∷ 2 ∷ 0 ∷ 11 ∷ [])) ∷ Correct (dg (55 ∷ 3 ∷ 1 ∷ 17 ∷ [])) ∷ [])) (dg (55 ∷ 3 ∷ 1 ∷ 17 ∷ []) ∷ []) ∷ has_naive_fork (past units (Correct (dg (87 ∷ 0 ∷ 1 ∷ 13 ∷ [])) ∷ Correct (dg (19 ∷ 1 ∷ 0 ∷ 9 ∷ [])) ∷ Correct (dg (48 ∷ 2 ∷ 0 ∷ 11 ∷ [])) ∷ Correct (dg (55 ∷ 3 ∷ 1 ∷ 17 ∷ [])) ∷ [])) [] ∷ has_naive_fork (past units (Correct (dg (87 ∷ 0 ∷ 1 ∷ 13 ∷ [])) ∷ Correct (dg (19 ∷ 1 ∷ 0 ∷ 9 ∷ [])) ∷ Correct (dg (48 ∷ 2 ∷ 0 ∷ 11 ∷ [])) ∷ Absent ∷ [])) (dg (19 ∷ 1 ∷ 0 ∷ 9 ∷ []) ∷ dg (55 ∷ 3 ∷ 0 ∷ 11 ∷ []) ∷ []) ∷ has_naive_fork (past units (Correct (dg (87 ∷ 0 ∷ 1 ∷ 13 ∷ [])) ∷ Correct (dg (22 ∷ 1 ∷ 0 ∷ 9 ∷ [])) ∷ Absent ∷ Correct (dg (55 ∷ 3 ∷ 1 ∷ 17 ∷ [])) ∷ [])) (dg (22 ∷ 1 ∷ 0 ∷ 9 ∷ []) ∷ dg (41 ∷ 0 ∷ 0 ∷ 8 ∷ []) ∷ []) ∷ []) ≡ (false ∷ true ∷ false ∷ false ∷ [])
  pub steps : (step s k 0 14 (118 ∷ []) ∷ step s k 0 21 (118 ∷ []) ∷ step s k 1 18 (118 ∷ []) ∷ step s k 1 22 (118 ∷ []) ∷ step s k 2 20 (118 ∷ []) ∷ step s k 2 19 (118 ∷ []) ∷ step s k 3 15 (118 ∷ []) ∷ step s k 3 17 (118 ∷ []) ∷ []) ≡ plans
  pub culprits : culprits_of s j j2 ≡ (1 ∷ [])
  pub pair1 : pair_of (shown_in_either s j j2) 1 ≡ Some (record { digest = dg (19 ∷ 1 ∷ 0 ∷ 9 ∷ []); unit = u1 }, record { digest = dg (22 ∷ 1 ∷ 0 ∷ 9 ∷ []); unit = u2 })
  pub summits : (committee_test c.weights units (Correct (dg (87 ∷ 0 ∷ 1 ∷ 13 ∷ [])) ∷ Faulty ∷ Correct (dg (48 ∷ 2 ∷ 0 ∷ 11 ∷ [])) ∷ Correct (dg (55 ∷ 3 ∷ 1 ∷ 17 ∷ [])) ∷ []) (record { digest = dg (41 ∷ 0 ∷ 0 ∷ 8 ∷ []); unit = record { instance = dg (0 ∷ 0 ∷ 0 ∷ 0 ∷ []); creator = 0; seq = 0; time = 8; exponent = 2; panorama = (Absent ∷ Absent ∷ Absent ∷ Absent ∷ []); value = Some ((120 ∷ [])); endorsed = [] } }) 1 3 (((0, 0) ∷ (2, 0) ∷ []) ∷ ((0, 1) ∷ (2, 0) ∷ []) ∷ []) ∷ committee_test c.weights units (Correct (dg (87 ∷ 0 ∷ 1 ∷ 13 ∷ [])) ∷ Faulty ∷ Correct (dg (48 ∷ 2 ∷ 0 ∷ 11 ∷ [])) ∷ Correct (dg (55 ∷ 3 ∷ 1 ∷ 17 ∷ [])) ∷ []) (record { digest = dg (41 ∷ 0 ∷ 0 ∷ 8 ∷ []); unit = record { instance = dg (0 ∷ 0 ∷ 0 ∷ 0 ∷ []); creator = 0; seq = 0; time = 8; exponent = 2; panorama = (Absent ∷ Absent ∷ Absent ∷ Absent ∷ []); value = Some ((120 ∷ [])); endorsed = [] } }) 1 3 (((0, 0) ∷ (2, 0) ∷ (3, 0) ∷ []) ∷ ((0, 1) ∷ (2, 0) ∷ (3, 0) ∷ []) ∷ []) ∷ committee_test c.weights units (Correct (dg (41 ∷ 0 ∷ 0 ∷ 8 ∷ [])) ∷ Correct (dg (19 ∷ 1 ∷ 0 ∷ 9 ∷ [])) ∷ Absent ∷ Absent ∷ []) (record { digest = dg (41 ∷ 0 ∷ 0 ∷ 8 ∷ []); unit = record { instance = dg (0 ∷ 0 ∷ 0 ∷ 0 ∷ []); creator = 0; seq = 0; time = 8; exponent = 2; panorama = (Absent ∷ Absent ∷ Absent ∷ Absent ∷ []); value = Some ((120 ∷ [])); endorsed = [] } }) 1 2 (((0, 0) ∷ (1, 0) ∷ []) ∷ ((0, 0) ∷ (1, 0) ∷ []) ∷ []) ∷ committee_test c.weights units (Correct (dg (41 ∷ 0 ∷ 0 ∷ 8 ∷ [])) ∷ Correct (dg (19 ∷ 1 ∷ 0 ∷ 9 ∷ [])) ∷ Absent ∷ Absent ∷ []) (record { digest = dg (41 ∷ 0 ∷ 0 ∷ 8 ∷ []); unit = record { instance = dg (0 ∷ 0 ∷ 0 ∷ 0 ∷ []); creator = 0; seq = 0; time = 8; exponent = 2; panorama = (Absent ∷ Absent ∷ Absent ∷ Absent ∷ []); value = Some ((120 ∷ [])); endorsed = [] } }) 1 2 (((0, 0) ∷ (1, 0) ∷ []) ∷ ((0, 0) ∷ []) ∷ []) ∷ []) ≡ (false ∷ false ∷ false ∷ false ∷ [])
