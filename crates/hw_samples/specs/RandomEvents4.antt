-- A random journal with rare events: forks, marks, lists, changes of the exponent and broken rules are drawn more often.
-- The values are those of a second reading of the definitions, written apart from them; the two agree.
use Rattle.std.specs.Prelude.{◌≡◌, true, false, List, [], ◌∷◌, map, Option, Some, None, Ok, Err}
use Rattle.hw_types.specs.declared.unit.Obs.TheVariants.{Absent, Correct, Faulty}
use Rattle.hw_types.specs.declared.unit.WireUnit.{WireUnit}
use Rattle.hw_types.specs.declared.unit.Need.TheVariants as need
use Rattle.hw_types.specs.declared.unit.Vertex.{Vertex}
use Rattle.hw_types.specs.declared.config.Config.{Config}
use Rattle.hw_types.specs.declared.answers.Plan.{Plan}
use Rattle.hw_types.specs.declared.answers.PlanKind.TheVariants as kind
use Rattle.hw_types.specs.declared.config.Leaders.TheVariants.{Table}
use Rattle.hw_types.specs.declared.answers.Rule.TheVariants as rule
use Rattle.hw_types.specs.declared.answers.Receipt.TheVariants as receipt
use Rattle.hw_types.specs.declared.answers.Cause.TheVariants as cause
use Rattle.hw_types.specs.Graph.{Node, past}
use Rattle.hw_types.specs.Rules.{state_rule, has_naive_fork}
use Rattle.hw_types.specs.Settled.{Received, settled_of, parked_of, dropped_of, missing_of, panorama_of, faulty_weight, fork_choice, is_endorsed}
use Rattle.hw_types.specs.Journal.{Setting, received_of, answers_from}
use Rattle.hw_types.specs.Step.{step}
use Rattle.hw_types.specs.Culprits.{culprits_of, pair_of, shown_in_either}
use Rattle.hw_samples.specs.Words.{names_of, name_of}
use Rattle.hw_samples.specs.JournalWords.{dg, sent_as, both_as, backs, mixed, named_by, votes_in, parents_in, committee_test}

abbrev c : Config
c = record { weights = (1 ∷ 1 ∷ 1 ∷ 1 ∷ []); ftt = 1; levels = 1; min_exponent = 2; max_exponent = 4; leaders = Table (0 ∷ 0 ∷ []); max_records = 131072; max_parked = 4096; end = None }

abbrev s : Setting
s = named_by mixed c

abbrev u0 : WireUnit
u0 = record { instance = dg (0 ∷ 0 ∷ 0 ∷ 0 ∷ []); creator = 0; seq = 0; time = 8; exponent = 2; panorama = (Absent ∷ Absent ∷ Absent ∷ Absent ∷ []); value = Some ((120 ∷ [])); endorsed = [] }

abbrev u1 : WireUnit
u1 = record { instance = dg (0 ∷ 0 ∷ 0 ∷ 0 ∷ []); creator = 1; seq = 0; time = 9; exponent = 2; panorama = (Correct (dg (41 ∷ 0 ∷ 0 ∷ 8 ∷ [])) ∷ Absent ∷ Absent ∷ Absent ∷ []); value = None; endorsed = [] }

abbrev u2 : WireUnit
u2 = record { instance = dg (0 ∷ 0 ∷ 0 ∷ 0 ∷ []); creator = 1; seq = 0; time = 10; exponent = 2; panorama = (Correct (dg (41 ∷ 0 ∷ 0 ∷ 8 ∷ [])) ∷ Absent ∷ Absent ∷ Absent ∷ []); value = None; endorsed = [] }

abbrev u3 : WireUnit
u3 = record { instance = dg (0 ∷ 0 ∷ 0 ∷ 0 ∷ []); creator = 1; seq = 1; time = 10; exponent = 2; panorama = (Correct (dg (41 ∷ 0 ∷ 0 ∷ 8 ∷ [])) ∷ Correct (dg (19 ∷ 1 ∷ 0 ∷ 9 ∷ [])) ∷ Absent ∷ Absent ∷ []); value = None; endorsed = [] }

abbrev u4 : WireUnit
u4 = record { instance = dg (0 ∷ 0 ∷ 0 ∷ 0 ∷ []); creator = 0; seq = 1; time = 11; exponent = 2; panorama = (Correct (dg (41 ∷ 0 ∷ 0 ∷ 8 ∷ [])) ∷ Correct (dg (35 ∷ 1 ∷ 1 ∷ 10 ∷ [])) ∷ Absent ∷ Absent ∷ []); value = None; endorsed = [] }

abbrev u5 : WireUnit
u5 = record { instance = dg (0 ∷ 0 ∷ 0 ∷ 0 ∷ []); creator = 3; seq = 0; time = 11; exponent = 2; panorama = (Correct (dg (41 ∷ 0 ∷ 0 ∷ 8 ∷ [])) ∷ Correct (dg (30 ∷ 1 ∷ 0 ∷ 10 ∷ [])) ∷ Absent ∷ Absent ∷ []); value = None; endorsed = [] }

abbrev u6 : WireUnit
u6 = record { instance = dg (0 ∷ 0 ∷ 0 ∷ 0 ∷ []); creator = 2; seq = 0; time = 12; exponent = 2; panorama = (Correct (dg (39 ∷ 0 ∷ 1 ∷ 11 ∷ [])) ∷ Faulty ∷ Absent ∷ Correct (dg (55 ∷ 3 ∷ 0 ∷ 11 ∷ [])) ∷ []); value = None; endorsed = [] }

abbrev u7 : WireUnit
u7 = record { instance = dg (0 ∷ 0 ∷ 0 ∷ 0 ∷ []); creator = 0; seq = 2; time = 14; exponent = 2; panorama = (Correct (dg (39 ∷ 0 ∷ 1 ∷ 11 ∷ [])) ∷ Faulty ∷ Correct (dg (59 ∷ 2 ∷ 0 ∷ 12 ∷ [])) ∷ Correct (dg (55 ∷ 3 ∷ 0 ∷ 11 ∷ [])) ∷ []); value = None; endorsed = (dg (41 ∷ 0 ∷ 0 ∷ 8 ∷ []) ∷ []) }

abbrev u8 : WireUnit
u8 = record { instance = dg (0 ∷ 0 ∷ 0 ∷ 0 ∷ []); creator = 2; seq = 1; time = 15; exponent = 2; panorama = (Correct (dg (39 ∷ 0 ∷ 1 ∷ 11 ∷ [])) ∷ Faulty ∷ Correct (dg (59 ∷ 2 ∷ 0 ∷ 12 ∷ [])) ∷ Correct (dg (55 ∷ 3 ∷ 0 ∷ 11 ∷ [])) ∷ []); value = None; endorsed = (dg (200 ∷ 200 ∷ 200 ∷ 200 ∷ []) ∷ dg (35 ∷ 1 ∷ 1 ∷ 10 ∷ []) ∷ []) }

abbrev u9 : WireUnit
u9 = record { instance = dg (0 ∷ 0 ∷ 0 ∷ 0 ∷ []); creator = 0; seq = 0; time = 16; exponent = 2; panorama = (Correct (dg (39 ∷ 0 ∷ 1 ∷ 11 ∷ [])) ∷ Faulty ∷ Correct (dg (59 ∷ 2 ∷ 0 ∷ 12 ∷ [])) ∷ Correct (dg (55 ∷ 3 ∷ 0 ∷ 11 ∷ [])) ∷ []); value = Some ((121 ∷ 122 ∷ [])); endorsed = [] }

abbrev u10 : WireUnit
u10 = record { instance = dg (0 ∷ 0 ∷ 0 ∷ 0 ∷ []); creator = 1; seq = 2; time = 11; exponent = 2; panorama = (Correct (dg (39 ∷ 0 ∷ 1 ∷ 11 ∷ [])) ∷ Correct (dg (35 ∷ 1 ∷ 1 ∷ 10 ∷ [])) ∷ Absent ∷ Absent ∷ []); value = None; endorsed = [] }

abbrev j : List Vertex
j = (backs (dg (35 ∷ 1 ∷ 1 ∷ 10 ∷ [])) 0 ∷ sent_as [] u0 ∷ sent_as (1 ∷ []) u1 ∷ both_as [] u1 [] u2 ∷ sent_as [] u2 ∷ sent_as [] u3 ∷ backs (dg (41 ∷ 0 ∷ 0 ∷ 8 ∷ [])) 1 ∷ backs (dg (35 ∷ 1 ∷ 1 ∷ 10 ∷ [])) 1 ∷ sent_as (1 ∷ []) u4 ∷ backs (dg (41 ∷ 0 ∷ 0 ∷ 8 ∷ [])) 0 ∷ backs (dg (35 ∷ 1 ∷ 1 ∷ 10 ∷ [])) 2 ∷ sent_as (1 ∷ []) u5 ∷ sent_as [] u6 ∷ sent_as (1 ∷ []) u7 ∷ backs (dg (200 ∷ 200 ∷ 200 ∷ 200 ∷ [])) 2 ∷ backs (dg (41 ∷ 0 ∷ 0 ∷ 8 ∷ [])) 2 ∷ backs (dg (200 ∷ 200 ∷ 200 ∷ 200 ∷ [])) 0 ∷ backs (dg (200 ∷ 200 ∷ 200 ∷ 200 ∷ [])) 1 ∷ sent_as [] u10 ∷ backs (dg (41 ∷ 0 ∷ 0 ∷ 8 ∷ [])) 3 ∷ [])

abbrev k : Received
k = received_of s j

abbrev units : List Node
units = (record { digest = dg (19 ∷ 1 ∷ 0 ∷ 9 ∷ []); unit = u1 } ∷ record { digest = dg (30 ∷ 1 ∷ 0 ∷ 10 ∷ []); unit = u2 } ∷ record { digest = dg (35 ∷ 1 ∷ 1 ∷ 10 ∷ []); unit = u3 } ∷ record { digest = dg (39 ∷ 0 ∷ 1 ∷ 11 ∷ []); unit = u4 } ∷ record { digest = dg (41 ∷ 0 ∷ 0 ∷ 8 ∷ []); unit = u0 } ∷ record { digest = dg (55 ∷ 3 ∷ 0 ∷ 11 ∷ []); unit = u5 } ∷ [])

abbrev plans : List (Option Plan)
plans = (Some (record { kind = kind.Witness; unit = record { instance = dg (0 ∷ 0 ∷ 0 ∷ 0 ∷ []); creator = 0; seq = 2; time = 15; exponent = 2; panorama = (Correct (dg (39 ∷ 0 ∷ 1 ∷ 11 ∷ [])) ∷ Faulty ∷ Absent ∷ Correct (dg (55 ∷ 3 ∷ 0 ∷ 11 ∷ [])) ∷ []); value = None; endorsed = (dg (35 ∷ 1 ∷ 1 ∷ 10 ∷ []) ∷ dg (41 ∷ 0 ∷ 0 ∷ 8 ∷ []) ∷ []) } }) ∷ None ∷ None ∷ None ∷ None ∷ Some (record { kind = kind.Witness; unit = record { instance = dg (0 ∷ 0 ∷ 0 ∷ 0 ∷ []); creator = 2; seq = 0; time = 11; exponent = 2; panorama = (Correct (dg (39 ∷ 0 ∷ 1 ∷ 11 ∷ [])) ∷ Faulty ∷ Absent ∷ Correct (dg (55 ∷ 3 ∷ 0 ∷ 11 ∷ [])) ∷ []); value = None; endorsed = (dg (35 ∷ 1 ∷ 1 ∷ 10 ∷ []) ∷ dg (41 ∷ 0 ∷ 0 ∷ 8 ∷ []) ∷ []) } }) ∷ Some (record { kind = kind.Witness; unit = record { instance = dg (0 ∷ 0 ∷ 0 ∷ 0 ∷ []); creator = 3; seq = 1; time = 14; exponent = 2; panorama = (Correct (dg (39 ∷ 0 ∷ 1 ∷ 11 ∷ [])) ∷ Faulty ∷ Absent ∷ Correct (dg (55 ∷ 3 ∷ 0 ∷ 11 ∷ [])) ∷ []); value = None; endorsed = (dg (35 ∷ 1 ∷ 1 ∷ 10 ∷ []) ∷ dg (41 ∷ 0 ∷ 0 ∷ 8 ∷ []) ∷ []) } }) ∷ None ∷ [])

abbrev j2 : List Vertex
j2 = (backs (dg (41 ∷ 0 ∷ 0 ∷ 8 ∷ [])) 1 ∷ sent_as [] u0 ∷ sent_as [] u1 ∷ backs (dg (41 ∷ 0 ∷ 0 ∷ 8 ∷ [])) 2 ∷ sent_as [] u2 ∷ sent_as (1 ∷ []) u3 ∷ sent_as (1 ∷ []) u4 ∷ backs (dg (41 ∷ 0 ∷ 0 ∷ 8 ∷ [])) 3 ∷ backs (dg (200 ∷ 200 ∷ 200 ∷ 200 ∷ [])) 2 ∷ sent_as [] u5 ∷ backs (dg (41 ∷ 0 ∷ 0 ∷ 8 ∷ [])) 0 ∷ sent_as (1 ∷ []) u6 ∷ sent_as [] u7 ∷ backs (dg (200 ∷ 200 ∷ 200 ∷ 200 ∷ [])) 0 ∷ backs (dg (200 ∷ 200 ∷ 200 ∷ 200 ∷ [])) 1 ∷ sent_as [] u10 ∷ [])

pub record RandomEvents4 : Type 0 where
  pub answers : answers_from s [] ((backs (dg (35 ∷ 1 ∷ 1 ∷ 10 ∷ [])) 0, true) ∷ (backs (dg (200 ∷ 200 ∷ 200 ∷ 200 ∷ [])) 3, false) ∷ (sent_as [] u0, true) ∷ (sent_as (1 ∷ []) u1, true) ∷ (both_as [] u1 [] u2, true) ∷ (sent_as [] u2, true) ∷ (sent_as [] u3, true) ∷ (backs (dg (41 ∷ 0 ∷ 0 ∷ 8 ∷ [])) 1, true) ∷ (backs (dg (35 ∷ 1 ∷ 1 ∷ 10 ∷ [])) 1, true) ∷ (sent_as (1 ∷ []) u4, true) ∷ (backs (dg (41 ∷ 0 ∷ 0 ∷ 8 ∷ [])) 0, true) ∷ (backs (dg (35 ∷ 1 ∷ 1 ∷ 10 ∷ [])) 2, true) ∷ (sent_as (1 ∷ []) u5, true) ∷ (sent_as [] u6, true) ∷ (sent_as (1 ∷ []) u7, true) ∷ (backs (dg (200 ∷ 200 ∷ 200 ∷ 200 ∷ [])) 2, true) ∷ (backs (dg (41 ∷ 0 ∷ 0 ∷ 8 ∷ [])) 2, true) ∷ (backs (dg (200 ∷ 200 ∷ 200 ∷ 200 ∷ [])) 0, true) ∷ (sent_as [] u8, true) ∷ (sent_as [] u9, true) ∷ (backs (dg (200 ∷ 200 ∷ 200 ∷ 200 ∷ [])) 1, true) ∷ (sent_as [] u10, true) ∷ (backs (dg (41 ∷ 0 ∷ 0 ∷ 8 ∷ [])) 3, true) ∷ []) ≡ ((Ok (receipt.Admitted 0) ∷ Err cause.BadSignature ∷ Ok (receipt.Admitted 1) ∷ Ok (receipt.Admitted 1) ∷ Ok (receipt.Admitted 0) ∷ Ok (receipt.Admitted 1) ∷ Ok (receipt.Admitted 1) ∷ Ok (receipt.Admitted 0) ∷ Ok (receipt.Admitted 0) ∷ Ok (receipt.Admitted 1) ∷ Ok (receipt.Admitted 0) ∷ Ok (receipt.Admitted 0) ∷ Ok (receipt.Admitted 1) ∷ Ok (receipt.Dropped rule.Naive) ∷ Ok (receipt.Parked 2) ∷ Ok (receipt.Admitted 0) ∷ Ok (receipt.Admitted 0) ∷ Ok (receipt.Admitted 0) ∷ Err (cause.Local rule.EndorsedOrder) ∷ Err (cause.Local rule.FirstSequence) ∷ Ok (receipt.Admitted 0) ∷ Ok (receipt.Dropped rule.ThirdInRound) ∷ Ok (receipt.Admitted 0) ∷ []))
  pub settled : settled_of c k ≡ units
  pub parked : names_of (parked_of c k) ≡ (dg (90 ∷ 0 ∷ 2 ∷ 14 ∷ []) ∷ [])
  pub dropped : names_of (dropped_of c k) ≡ (dg (51 ∷ 1 ∷ 2 ∷ 11 ∷ []) ∷ dg (59 ∷ 2 ∷ 0 ∷ 12 ∷ []) ∷ [])
  pub panorama : panorama_of c k ≡ (Correct (dg (39 ∷ 0 ∷ 1 ∷ 11 ∷ [])) ∷ Faulty ∷ Absent ∷ Correct (dg (55 ∷ 3 ∷ 0 ∷ 11 ∷ [])) ∷ [])
  pub weight : faulty_weight c k ≡ 1
  pub fork : name_of (fork_choice c k) ≡ Some (dg (41 ∷ 0 ∷ 0 ∷ 8 ∷ []))
  pub endorsed : map (is_endorsed c k) (dg (35 ∷ 1 ∷ 1 ∷ 10 ∷ []) ∷ dg (41 ∷ 0 ∷ 0 ∷ 8 ∷ []) ∷ dg (200 ∷ 200 ∷ 200 ∷ 200 ∷ []) ∷ []) ≡ (true ∷ true ∷ true ∷ [])
  pub votes : votes_in c units ≡ (Some (dg (41 ∷ 0 ∷ 0 ∷ 8 ∷ [])) ∷ Some (dg (41 ∷ 0 ∷ 0 ∷ 8 ∷ [])) ∷ Some (dg (41 ∷ 0 ∷ 0 ∷ 8 ∷ [])) ∷ Some (dg (41 ∷ 0 ∷ 0 ∷ 8 ∷ [])) ∷ Some (dg (41 ∷ 0 ∷ 0 ∷ 8 ∷ [])) ∷ Some (dg (41 ∷ 0 ∷ 0 ∷ 8 ∷ [])) ∷ [])
  pub heights : parents_in c units ≡ ((None, 0) ∷ [])
  pub missing : map (missing_of c k units) (record { digest = dg (19 ∷ 1 ∷ 0 ∷ 9 ∷ []); unit = u1 } ∷ record { digest = dg (30 ∷ 1 ∷ 0 ∷ 10 ∷ []); unit = u2 } ∷ record { digest = dg (35 ∷ 1 ∷ 1 ∷ 10 ∷ []); unit = u3 } ∷ record { digest = dg (39 ∷ 0 ∷ 1 ∷ 11 ∷ []); unit = u4 } ∷ record { digest = dg (41 ∷ 0 ∷ 0 ∷ 8 ∷ []); unit = u0 } ∷ record { digest = dg (51 ∷ 1 ∷ 2 ∷ 11 ∷ []); unit = u10 } ∷ record { digest = dg (55 ∷ 3 ∷ 0 ∷ 11 ∷ []); unit = u5 } ∷ record { digest = dg (59 ∷ 2 ∷ 0 ∷ 12 ∷ []); unit = u6 } ∷ record { digest = dg (90 ∷ 0 ∷ 2 ∷ 14 ∷ []); unit = u7 } ∷ []) ≡ (([] ∷ [] ∷ [] ∷ [] ∷ [] ∷ [] ∷ [] ∷ [] ∷ (need.Unit (dg (59 ∷ 2 ∷ 0 ∷ 12 ∷ [])) ∷ []) ∷ []))
  pub rules : map (state_rule c units) (record { digest = dg (19 ∷ 1 ∷ 0 ∷ 9 ∷ []); unit = u1 } ∷ record { digest = dg (30 ∷ 1 ∷ 0 ∷ 10 ∷ []); unit = u2 } ∷ record { digest = dg (35 ∷ 1 ∷ 1 ∷ 10 ∷ []); unit = u3 } ∷ record { digest = dg (39 ∷ 0 ∷ 1 ∷ 11 ∷ []); unit = u4 } ∷ record { digest = dg (41 ∷ 0 ∷ 0 ∷ 8 ∷ []); unit = u0 } ∷ record { digest = dg (51 ∷ 1 ∷ 2 ∷ 11 ∷ []); unit = u10 } ∷ record { digest = dg (55 ∷ 3 ∷ 0 ∷ 11 ∷ []); unit = u5 } ∷ record { digest = dg (59 ∷ 2 ∷ 0 ∷ 12 ∷ []); unit = u6 } ∷ []) ≡ (None ∷ None ∷ None ∷ None ∷ None ∷ Some (rule.ThirdInRound) ∷ None ∷ Some (rule.Naive) ∷ [])
  pub naive : (has_naive_fork (past units (Correct (dg (39 ∷ 0 ∷ 1 ∷ 11 ∷ [])) ∷ Correct (dg (35 ∷ 1 ∷ 1 ∷ 10 ∷ [])) ∷ Absent ∷ Correct (dg (55 ∷ 3 ∷ 0 ∷ 11 ∷ [])) ∷ [])) (dg (39 ∷ 0 ∷ 1 ∷ 11 ∷ []) ∷ []) ∷ has_naive_fork (past units (Correct (dg (41 ∷ 0 ∷ 0 ∷ 8 ∷ [])) ∷ Correct (dg (30 ∷ 1 ∷ 0 ∷ 10 ∷ [])) ∷ Absent ∷ Correct (dg (55 ∷ 3 ∷ 0 ∷ 11 ∷ [])) ∷ [])) (dg (30 ∷ 1 ∷ 0 ∷ 10 ∷ []) ∷ dg (41 ∷ 0 ∷ 0 ∷ 8 ∷ []) ∷ []) ∷ has_naive_fork (past units (Correct (dg (39 ∷ 0 ∷ 1 ∷ 11 ∷ [])) ∷ Correct (dg (35 ∷ 1 ∷ 1 ∷ 10 ∷ [])) ∷ Faulty ∷ Correct (dg (55 ∷ 3 ∷ 0 ∷ 11 ∷ [])) ∷ [])) (dg (41 ∷ 0 ∷ 0 ∷ 8 ∷ []) ∷ []) ∷ has_naive_fork (past units (Correct (dg (41 ∷ 0 ∷ 0 ∷ 8 ∷ [])) ∷ Correct (dg (30 ∷ 1 ∷ 0 ∷ 10 ∷ [])) ∷ Absent ∷ Correct (dg (55 ∷ 3 ∷ 0 ∷ 11 ∷ [])) ∷ [])) (dg (41 ∷ 0 ∷ 0 ∷ 8 ∷ []) ∷ dg (55 ∷ 3 ∷ 0 ∷ 11 ∷ []) ∷ []) ∷ []) ≡ (false ∷ false ∷ true ∷ false ∷ [])
  pub steps : (step s k 0 15 (118 ∷ []) ∷ step s k 0 8 (118 ∷ []) ∷ step s k 1 16 (118 ∷ []) ∷ step s k 1 14 (118 ∷ []) ∷ step s k 2 12 (118 ∷ []) ∷ step s k 2 11 (118 ∷ []) ∷ step s k 3 14 (118 ∷ []) ∷ step s k 3 6 (118 ∷ []) ∷ []) ≡ plans
  pub culprits : culprits_of s j j2 ≡ (1 ∷ [])
  pub pair1 : pair_of (shown_in_either s j j2) 1 ≡ Some (record { digest = dg (19 ∷ 1 ∷ 0 ∷ 9 ∷ []); unit = u1 }, record { digest = dg (30 ∷ 1 ∷ 0 ∷ 10 ∷ []); unit = u2 })
  pub summits : (committee_test c.weights units (Correct (dg (39 ∷ 0 ∷ 1 ∷ 11 ∷ [])) ∷ Faulty ∷ Absent ∷ Correct (dg (55 ∷ 3 ∷ 0 ∷ 11 ∷ [])) ∷ []) (record { digest = dg (41 ∷ 0 ∷ 0 ∷ 8 ∷ []); unit = record { instance = dg (0 ∷ 0 ∷ 0 ∷ 0 ∷ []); creator = 0; seq = 0; time = 8; exponent = 2; panorama = (Absent ∷ Absent ∷ Absent ∷ Absent ∷ []); value = Some ((120 ∷ [])); endorsed = [] } }) 1 1 (((0, 0) ∷ (3, 0) ∷ []) ∷ ((0, 1) ∷ (3, 0) ∷ []) ∷ []) ∷ committee_test c.weights units (Correct (dg (39 ∷ 0 ∷ 1 ∷ 11 ∷ [])) ∷ Faulty ∷ Absent ∷ Correct (dg (55 ∷ 3 ∷ 0 ∷ 11 ∷ [])) ∷ []) (record { digest = dg (41 ∷ 0 ∷ 0 ∷ 8 ∷ []); unit = record { instance = dg (0 ∷ 0 ∷ 0 ∷ 0 ∷ []); creator = 0; seq = 0; time = 8; exponent = 2; panorama = (Absent ∷ Absent ∷ Absent ∷ Absent ∷ []); value = Some ((120 ∷ [])); endorsed = [] } }) 1 1 (((0, 0) ∷ []) ∷ ((0, 1) ∷ (3, 0) ∷ []) ∷ []) ∷ committee_test c.weights units (Correct (dg (39 ∷ 0 ∷ 1 ∷ 11 ∷ [])) ∷ Faulty ∷ Absent ∷ Correct (dg (55 ∷ 3 ∷ 0 ∷ 11 ∷ [])) ∷ []) (record { digest = dg (41 ∷ 0 ∷ 0 ∷ 8 ∷ []); unit = record { instance = dg (0 ∷ 0 ∷ 0 ∷ 0 ∷ []); creator = 0; seq = 0; time = 8; exponent = 2; panorama = (Absent ∷ Absent ∷ Absent ∷ Absent ∷ []); value = Some ((120 ∷ [])); endorsed = [] } }) 1 1 (((3, 0) ∷ []) ∷ ((0, 1) ∷ (3, 0) ∷ []) ∷ []) ∷ committee_test c.weights units (Correct (dg (39 ∷ 0 ∷ 1 ∷ 11 ∷ [])) ∷ Faulty ∷ Absent ∷ Correct (dg (55 ∷ 3 ∷ 0 ∷ 11 ∷ [])) ∷ []) (record { digest = dg (41 ∷ 0 ∷ 0 ∷ 8 ∷ []); unit = record { instance = dg (0 ∷ 0 ∷ 0 ∷ 0 ∷ []); creator = 0; seq = 0; time = 8; exponent = 2; panorama = (Absent ∷ Absent ∷ Absent ∷ Absent ∷ []); value = Some ((120 ∷ [])); endorsed = [] } }) 1 1 ([] ∷ [] ∷ []) ∷ committee_test c.weights units (Correct (dg (39 ∷ 0 ∷ 1 ∷ 11 ∷ [])) ∷ Faulty ∷ Absent ∷ Correct (dg (55 ∷ 3 ∷ 0 ∷ 11 ∷ [])) ∷ []) (record { digest = dg (41 ∷ 0 ∷ 0 ∷ 8 ∷ []); unit = record { instance = dg (0 ∷ 0 ∷ 0 ∷ 0 ∷ []); creator = 0; seq = 0; time = 8; exponent = 2; panorama = (Absent ∷ Absent ∷ Absent ∷ Absent ∷ []); value = Some ((120 ∷ [])); endorsed = [] } }) 1 1 (((3, 0) ∷ []) ∷ ((3, 0) ∷ []) ∷ []) ∷ committee_test c.weights units (Correct (dg (41 ∷ 0 ∷ 0 ∷ 8 ∷ [])) ∷ Correct (dg (19 ∷ 1 ∷ 0 ∷ 9 ∷ [])) ∷ Absent ∷ Absent ∷ []) (record { digest = dg (41 ∷ 0 ∷ 0 ∷ 8 ∷ []); unit = record { instance = dg (0 ∷ 0 ∷ 0 ∷ 0 ∷ []); creator = 0; seq = 0; time = 8; exponent = 2; panorama = (Absent ∷ Absent ∷ Absent ∷ Absent ∷ []); value = Some ((120 ∷ [])); endorsed = [] } }) 1 2 (((0, 0) ∷ (1, 0) ∷ []) ∷ ((0, 0) ∷ (1, 0) ∷ []) ∷ []) ∷ committee_test c.weights units (Correct (dg (41 ∷ 0 ∷ 0 ∷ 8 ∷ [])) ∷ Correct (dg (19 ∷ 1 ∷ 0 ∷ 9 ∷ [])) ∷ Absent ∷ Absent ∷ []) (record { digest = dg (41 ∷ 0 ∷ 0 ∷ 8 ∷ []); unit = record { instance = dg (0 ∷ 0 ∷ 0 ∷ 0 ∷ []); creator = 0; seq = 0; time = 8; exponent = 2; panorama = (Absent ∷ Absent ∷ Absent ∷ Absent ∷ []); value = Some ((120 ∷ [])); endorsed = [] } }) 1 2 (((0, 0) ∷ (1, 0) ∷ []) ∷ ((0, 0) ∷ []) ∷ []) ∷ []) ≡ (true ∷ false ∷ false ∷ false ∷ false ∷ false ∷ false ∷ [])
