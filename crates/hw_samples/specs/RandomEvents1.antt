-- A random journal with rare events: forks, marks, lists, changes of the exponent and broken rules are drawn more often.
-- The values are those of a second reading of the definitions, written apart from them; the two agree.
use Rattle.std.specs.Prelude.{◌≡◌, true, false, List, [], ◌∷◌, map, Option, Some, None, Ok, Err}
use Rattle.hw_types.specs.declared.unit.Obs.TheVariants.{Absent, Correct, Faulty}
use Rattle.hw_types.specs.declared.unit.WireUnit.{WireUnit}
use Rattle.hw_types.specs.declared.unit.Need.TheVariants as need
use Rattle.hw_types.specs.declared.unit.Vertex.{Vertex}
use Rattle.hw_types.specs.declared.config.Config.{Config}
use Rattle.hw_types.specs.declared.answers.Plan.{Plan}
use Rattle.hw_types.specs.declared.answers.PlanKind.TheVariants as kind
use Rattle.hw_types.specs.declared.config.Leaders.TheVariants.{Table}
use Rattle.hw_types.specs.declared.answers.Rule.TheVariants as rule
use Rattle.hw_types.specs.declared.answers.PairFault.TheVariants as fault
use Rattle.hw_types.specs.declared.answers.Receipt.TheVariants as receipt
use Rattle.hw_types.specs.declared.answers.Cause.TheVariants as cause
use Rattle.hw_types.specs.Graph.{Node, past}
use Rattle.hw_types.specs.Rules.{state_rule, has_naive_fork}
use Rattle.hw_types.specs.Settled.{Received, settled_of, parked_of, dropped_of, missing_of, panorama_of, faulty_weight, fork_choice, is_endorsed}
use Rattle.hw_types.specs.Journal.{Setting, received_of, answers_from}
use Rattle.hw_types.specs.Step.{step}
use Rattle.hw_types.specs.Culprits.{culprits_of, pair_of, shown_in_either}
use Rattle.hw_samples.specs.Words.{names_of, name_of}
use Rattle.hw_samples.specs.JournalWords.{dg, sent_as, both_as, backs, mixed, named_by, votes_in, parents_in, committee_test}

abbrev c : Config
c = record { weights = (1 ∷ 1 ∷ 1 ∷ []); ftt = 0; levels = 1; min_exponent = 2; max_exponent = 4; leaders = Table (0 ∷ 0 ∷ []); max_records = 131072; max_parked = 4096; end = None }

abbrev s : Setting
s = named_by mixed c

abbrev u0 : WireUnit
u0 = record { instance = dg (0 ∷ 0 ∷ 0 ∷ 0 ∷ []); creator = 1; seq = 2; time = 15; exponent = 2; panorama = (Correct (dg (38 ∷ 0 ∷ 1 ∷ 11 ∷ [])) ∷ Correct (dg (80 ∷ 1 ∷ 1 ∷ 13 ∷ [])) ∷ Faulty ∷ []); value = None; endorsed = (dg (41 ∷ 2 ∷ 1 ∷ 10 ∷ []) ∷ []) }

abbrev u1 : WireUnit
u1 = record { instance = dg (0 ∷ 0 ∷ 0 ∷ 0 ∷ []); creator = 2; seq = 1; time = 10; exponent = 2; panorama = (Correct (dg (40 ∷ 0 ∷ 0 ∷ 8 ∷ [])) ∷ Absent ∷ Correct (dg (25 ∷ 2 ∷ 0 ∷ 9 ∷ [])) ∷ []); value = None; endorsed = [] }

abbrev u2 : WireUnit
u2 = record { instance = dg (0 ∷ 0 ∷ 0 ∷ 0 ∷ []); creator = 0; seq = 0; time = 8; exponent = 2; panorama = (Absent ∷ Absent ∷ Absent ∷ []); value = Some ((120 ∷ [])); endorsed = [] }

abbrev u3 : WireUnit
u3 = record { instance = dg (0 ∷ 0 ∷ 0 ∷ 0 ∷ []); creator = 2; seq = 0; time = 9; exponent = 2; panorama = (Correct (dg (40 ∷ 0 ∷ 0 ∷ 8 ∷ [])) ∷ Absent ∷ Absent ∷ []); value = None; endorsed = [] }

abbrev u4 : WireUnit
u4 = record { instance = dg (0 ∷ 0 ∷ 0 ∷ 0 ∷ []); creator = 2; seq = 0; time = 10; exponent = 3; panorama = (Correct (dg (40 ∷ 0 ∷ 0 ∷ 8 ∷ [])) ∷ Absent ∷ Absent ∷ []); value = None; endorsed = [] }

abbrev u5 : WireUnit
u5 = record { instance = dg (0 ∷ 0 ∷ 0 ∷ 0 ∷ []); creator = 2; seq = 1; time = 14; exponent = 4; panorama = (Correct (dg (40 ∷ 0 ∷ 0 ∷ 8 ∷ [])) ∷ Absent ∷ Correct (dg (25 ∷ 2 ∷ 0 ∷ 9 ∷ [])) ∷ []); value = None; endorsed = [] }

abbrev u6 : WireUnit
u6 = record { instance = dg (0 ∷ 0 ∷ 0 ∷ 0 ∷ []); creator = 0; seq = 1; time = 11; exponent = 2; panorama = (Correct (dg (40 ∷ 0 ∷ 0 ∷ 8 ∷ [])) ∷ Absent ∷ Correct (dg (41 ∷ 2 ∷ 1 ∷ 10 ∷ [])) ∷ []); value = None; endorsed = [] }

abbrev u7 : WireUnit
u7 = record { instance = dg (0 ∷ 0 ∷ 0 ∷ 0 ∷ []); creator = 1; seq = 0; time = 11; exponent = 2; panorama = (Correct (dg (40 ∷ 0 ∷ 0 ∷ 8 ∷ [])) ∷ Absent ∷ Correct (dg (39 ∷ 2 ∷ 0 ∷ 10 ∷ [])) ∷ []); value = None; endorsed = [] }

abbrev u8 : WireUnit
u8 = record { instance = dg (0 ∷ 0 ∷ 0 ∷ 0 ∷ []); creator = 1; seq = 1; time = 13; exponent = 2; panorama = (Correct (dg (38 ∷ 0 ∷ 1 ∷ 11 ∷ [])) ∷ Correct (dg (40 ∷ 1 ∷ 0 ∷ 11 ∷ [])) ∷ Faulty ∷ []); value = None; endorsed = (dg (41 ∷ 2 ∷ 1 ∷ 10 ∷ []) ∷ []) }

abbrev u9 : WireUnit
u9 = record { instance = dg (0 ∷ 0 ∷ 0 ∷ 0 ∷ []); creator = 0; seq = 2; time = 20; exponent = 2; panorama = (Correct (dg (38 ∷ 0 ∷ 1 ∷ 11 ∷ [])) ∷ Correct (dg (10 ∷ 1 ∷ 2 ∷ 15 ∷ [])) ∷ Faulty ∷ []); value = Some ((121 ∷ 122 ∷ [])); endorsed = (dg (41 ∷ 2 ∷ 1 ∷ 10 ∷ []) ∷ dg (80 ∷ 1 ∷ 1 ∷ 13 ∷ []) ∷ []) }

abbrev j : List Vertex
j = (sent_as (1 ∷ []) u2 ∷ backs (dg (80 ∷ 1 ∷ 1 ∷ 13 ∷ [])) 0 ∷ sent_as (1 ∷ []) u3 ∷ sent_as (1 ∷ []) u4 ∷ both_as [] u1 [] u5 ∷ sent_as [] u1 ∷ sent_as [] u6 ∷ backs (dg (80 ∷ 1 ∷ 1 ∷ 13 ∷ [])) 2 ∷ sent_as (1 ∷ []) u7 ∷ sent_as [] u8 ∷ sent_as (1 ∷ []) u0 ∷ sent_as (1 ∷ []) u9 ∷ sent_as [] u5 ∷ [])

abbrev k : Received
k = received_of s j

abbrev units : List Node
units = (record { digest = dg (25 ∷ 2 ∷ 0 ∷ 9 ∷ []); unit = u3 } ∷ record { digest = dg (38 ∷ 0 ∷ 1 ∷ 11 ∷ []); unit = u6 } ∷ record { digest = dg (39 ∷ 2 ∷ 0 ∷ 10 ∷ []); unit = u4 } ∷ record { digest = dg (40 ∷ 0 ∷ 0 ∷ 8 ∷ []); unit = u2 } ∷ record { digest = dg (40 ∷ 1 ∷ 0 ∷ 11 ∷ []); unit = u7 } ∷ record { digest = dg (41 ∷ 2 ∷ 1 ∷ 10 ∷ []); unit = u1 } ∷ [])

abbrev plans : List (Option Plan)
plans = (Some (record { kind = kind.Witness; unit = record { instance = dg (0 ∷ 0 ∷ 0 ∷ 0 ∷ []); creator = 0; seq = 2; time = 15; exponent = 2; panorama = (Correct (dg (38 ∷ 0 ∷ 1 ∷ 11 ∷ [])) ∷ Absent ∷ Faulty ∷ []); value = None; endorsed = [] } }) ∷ Some (record { kind = kind.Propose; unit = record { instance = dg (0 ∷ 0 ∷ 0 ∷ 0 ∷ []); creator = 0; seq = 2; time = 12; exponent = 2; panorama = (Correct (dg (38 ∷ 0 ∷ 1 ∷ 11 ∷ [])) ∷ Absent ∷ Faulty ∷ []); value = Some ((118 ∷ [])); endorsed = [] } }) ∷ None ∷ None ∷ None ∷ None ∷ [])

abbrev j2 : List Vertex
j2 = (both_as (2 ∷ []) u3 [] u4 ∷ backs (dg (80 ∷ 1 ∷ 1 ∷ 13 ∷ [])) 2 ∷ sent_as (1 ∷ []) u3 ∷ sent_as (1 ∷ []) u2 ∷ backs (dg (80 ∷ 1 ∷ 1 ∷ 13 ∷ [])) 0 ∷ backs (dg (41 ∷ 2 ∷ 1 ∷ 10 ∷ [])) 2 ∷ sent_as [] u4 ∷ sent_as [] u1 ∷ backs (dg (80 ∷ 1 ∷ 1 ∷ 13 ∷ [])) 1 ∷ sent_as [] u6 ∷ sent_as [] u7 ∷ sent_as [] u8 ∷ sent_as (1 ∷ []) u0 ∷ sent_as [] u9 ∷ backs (dg (41 ∷ 2 ∷ 1 ∷ 10 ∷ [])) 1 ∷ sent_as [] u5 ∷ backs (dg (41 ∷ 2 ∷ 1 ∷ 10 ∷ [])) 0 ∷ [])

pub record RandomEvents1 : Type 0 where
  pub answers : answers_from s [] ((both_as [] u0 (3 ∷ []) u1, true) ∷ (sent_as (1 ∷ []) u2, true) ∷ (backs (dg (80 ∷ 1 ∷ 1 ∷ 13 ∷ [])) 0, true) ∷ (sent_as (1 ∷ []) u3, true) ∷ (sent_as (1 ∷ []) u4, true) ∷ (both_as [] u1 [] u5, true) ∷ (sent_as [] u1, true) ∷ (sent_as [] u6, true) ∷ (backs (dg (80 ∷ 1 ∷ 1 ∷ 13 ∷ [])) 2, true) ∷ (sent_as (1 ∷ []) u7, true) ∷ (sent_as [] u8, true) ∷ (both_as (2 ∷ []) u4 [] u3, true) ∷ (backs (dg (80 ∷ 1 ∷ 1 ∷ 13 ∷ [])) 1, false) ∷ (sent_as (1 ∷ []) u0, true) ∷ (sent_as (1 ∷ []) u9, true) ∷ (sent_as [] u5, true) ∷ []) ≡ ((Err (cause.Pair fault.Creator) ∷ Ok (receipt.Admitted 1) ∷ Ok (receipt.Admitted 0) ∷ Ok (receipt.Admitted 1) ∷ Ok (receipt.Admitted 1) ∷ Ok (receipt.Admitted 0) ∷ Ok (receipt.Admitted 1) ∷ Ok (receipt.Admitted 1) ∷ Ok (receipt.Admitted 0) ∷ Ok (receipt.Admitted 1) ∷ Ok (receipt.Parked 1) ∷ Ok receipt.Repeat ∷ Err cause.BadSignature ∷ Ok (receipt.Parked 2) ∷ Ok (receipt.Parked 2) ∷ Ok (receipt.Dropped rule.RoundChange) ∷ []))
  pub settled : settled_of c k ≡ units
  pub parked : names_of (parked_of c k) ≡ (dg (10 ∷ 1 ∷ 2 ∷ 15 ∷ []) ∷ dg (40 ∷ 0 ∷ 2 ∷ 20 ∷ []) ∷ dg (80 ∷ 1 ∷ 1 ∷ 13 ∷ []) ∷ [])
  pub dropped : names_of (dropped_of c k) ≡ (dg (91 ∷ 2 ∷ 1 ∷ 14 ∷ []) ∷ [])
  pub panorama : panorama_of c k ≡ (Correct (dg (38 ∷ 0 ∷ 1 ∷ 11 ∷ [])) ∷ Correct (dg (40 ∷ 1 ∷ 0 ∷ 11 ∷ [])) ∷ Faulty ∷ [])
  pub weight : faulty_weight c k ≡ 1
  pub fork : name_of (fork_choice c k) ≡ Some (dg (40 ∷ 0 ∷ 0 ∷ 8 ∷ []))
  pub endorsed : map (is_endorsed c k) (dg (80 ∷ 1 ∷ 1 ∷ 13 ∷ []) ∷ []) ≡ (true ∷ [])
  pub votes : votes_in c units ≡ (Some (dg (40 ∷ 0 ∷ 0 ∷ 8 ∷ [])) ∷ Some (dg (40 ∷ 0 ∷ 0 ∷ 8 ∷ [])) ∷ Some (dg (40 ∷ 0 ∷ 0 ∷ 8 ∷ [])) ∷ Some (dg (40 ∷ 0 ∷ 0 ∷ 8 ∷ [])) ∷ Some (dg (40 ∷ 0 ∷ 0 ∷ 8 ∷ [])) ∷ Some (dg (40 ∷ 0 ∷ 0 ∷ 8 ∷ [])) ∷ [])
  pub heights : parents_in c units ≡ ((None, 0) ∷ [])
  pub missing : map (missing_of c k units) (record { digest = dg (10 ∷ 1 ∷ 2 ∷ 15 ∷ []); unit = u0 } ∷ record { digest = dg (25 ∷ 2 ∷ 0 ∷ 9 ∷ []); unit = u3 } ∷ record { digest = dg (38 ∷ 0 ∷ 1 ∷ 11 ∷ []); unit = u6 } ∷ record { digest = dg (39 ∷ 2 ∷ 0 ∷ 10 ∷ []); unit = u4 } ∷ record { digest = dg (40 ∷ 0 ∷ 0 ∷ 8 ∷ []); unit = u2 } ∷ record { digest = dg (40 ∷ 0 ∷ 2 ∷ 20 ∷ []); unit = u9 } ∷ record { digest = dg (40 ∷ 1 ∷ 0 ∷ 11 ∷ []); unit = u7 } ∷ record { digest = dg (41 ∷ 2 ∷ 1 ∷ 10 ∷ []); unit = u1 } ∷ record { digest = dg (80 ∷ 1 ∷ 1 ∷ 13 ∷ []); unit = u8 } ∷ record { digest = dg (91 ∷ 2 ∷ 1 ∷ 14 ∷ []); unit = u5 } ∷ []) ≡ (((need.Unit (dg (80 ∷ 1 ∷ 1 ∷ 13 ∷ [])) ∷ need.Endorsed (dg (41 ∷ 2 ∷ 1 ∷ 10 ∷ [])) ∷ []) ∷ [] ∷ [] ∷ [] ∷ [] ∷ (need.Unit (dg (10 ∷ 1 ∷ 2 ∷ 15 ∷ [])) ∷ need.Endorsed (dg (41 ∷ 2 ∷ 1 ∷ 10 ∷ [])) ∷ []) ∷ [] ∷ [] ∷ (need.Endorsed (dg (41 ∷ 2 ∷ 1 ∷ 10 ∷ [])) ∷ []) ∷ [] ∷ []))
  pub rules : map (state_rule c units) (record { digest = dg (25 ∷ 2 ∷ 0 ∷ 9 ∷ []); unit = u3 } ∷ record { digest = dg (38 ∷ 0 ∷ 1 ∷ 11 ∷ []); unit = u6 } ∷ record { digest = dg (39 ∷ 2 ∷ 0 ∷ 10 ∷ []); unit = u4 } ∷ record { digest = dg (40 ∷ 0 ∷ 0 ∷ 8 ∷ []); unit = u2 } ∷ record { digest = dg (40 ∷ 1 ∷ 0 ∷ 11 ∷ []); unit = u7 } ∷ record { digest = dg (41 ∷ 2 ∷ 1 ∷ 10 ∷ []); unit = u1 } ∷ record { digest = dg (91 ∷ 2 ∷ 1 ∷ 14 ∷ []); unit = u5 } ∷ []) ≡ (None ∷ None ∷ None ∷ None ∷ None ∷ None ∷ Some (rule.RoundChange) ∷ [])
  pub naive : (has_naive_fork (past units (Correct (dg (38 ∷ 0 ∷ 1 ∷ 11 ∷ [])) ∷ Correct (dg (40 ∷ 1 ∷ 0 ∷ 11 ∷ [])) ∷ Correct (dg (25 ∷ 2 ∷ 0 ∷ 9 ∷ [])) ∷ [])) (dg (40 ∷ 1 ∷ 0 ∷ 11 ∷ []) ∷ []) ∷ has_naive_fork (past units (Correct (dg (40 ∷ 0 ∷ 0 ∷ 8 ∷ [])) ∷ Correct (dg (40 ∷ 1 ∷ 0 ∷ 11 ∷ [])) ∷ Faulty ∷ [])) (dg (40 ∷ 1 ∷ 0 ∷ 11 ∷ []) ∷ []) ∷ has_naive_fork (past units (Correct (dg (38 ∷ 0 ∷ 1 ∷ 11 ∷ [])) ∷ Correct (dg (40 ∷ 1 ∷ 0 ∷ 11 ∷ [])) ∷ Correct (dg (39 ∷ 2 ∷ 0 ∷ 10 ∷ [])) ∷ [])) [] ∷ has_naive_fork (past units (Correct (dg (40 ∷ 0 ∷ 0 ∷ 8 ∷ [])) ∷ Correct (dg (40 ∷ 1 ∷ 0 ∷ 11 ∷ [])) ∷ Correct (dg (25 ∷ 2 ∷ 0 ∷ 9 ∷ [])) ∷ [])) (dg (25 ∷ 2 ∷ 0 ∷ 9 ∷ []) ∷ []) ∷ []) ≡ (false ∷ false ∷ true ∷ false ∷ [])
  pub steps : (step s k 0 15 (118 ∷ []) ∷ step s k 0 13 (118 ∷ []) ∷ step s k 1 8 (118 ∷ []) ∷ step s k 1 12 (118 ∷ []) ∷ step s k 2 15 (118 ∷ []) ∷ step s k 2 17 (118 ∷ []) ∷ []) ≡ plans
  pub culprits : culprits_of s j j2 ≡ (2 ∷ [])
  pub pair2 : pair_of (shown_in_either s j j2) 2 ≡ Some (record { digest = dg (25 ∷ 2 ∷ 0 ∷ 9 ∷ []); unit = u3 }, record { digest = dg (39 ∷ 2 ∷ 0 ∷ 10 ∷ []); unit = u4 })
  pub summits : (committee_test c.weights units (Correct (dg (38 ∷ 0 ∷ 1 ∷ 11 ∷ [])) ∷ Correct (dg (40 ∷ 1 ∷ 0 ∷ 11 ∷ [])) ∷ Faulty ∷ []) (record { digest = dg (40 ∷ 0 ∷ 0 ∷ 8 ∷ []); unit = record { instance = dg (0 ∷ 0 ∷ 0 ∷ 0 ∷ []); creator = 0; seq = 0; time = 8; exponent = 2; panorama = (Absent ∷ Absent ∷ Absent ∷ []); value = Some ((120 ∷ [])); endorsed = [] } }) 1 1 (((0, 0) ∷ (1, 0) ∷ []) ∷ ((0, 1) ∷ (1, 0) ∷ []) ∷ []) ∷ committee_test c.weights units (Correct (dg (38 ∷ 0 ∷ 1 ∷ 11 ∷ [])) ∷ Correct (dg (40 ∷ 1 ∷ 0 ∷ 11 ∷ [])) ∷ Faulty ∷ []) (record { digest = dg (40 ∷ 0 ∷ 0 ∷ 8 ∷ []); unit = record { instance = dg (0 ∷ 0 ∷ 0 ∷ 0 ∷ []); creator = 0; seq = 0; time = 8; exponent = 2; panorama = (Absent ∷ Absent ∷ Absent ∷ []); value = Some ((120 ∷ [])); endorsed = [] } }) 1 1 (((0, 0) ∷ (1, 0) ∷ []) ∷ ((0, 1) ∷ (1, 0) ∷ []) ∷ []) ∷ committee_test c.weights units (Correct (dg (38 ∷ 0 ∷ 1 ∷ 11 ∷ [])) ∷ Correct (dg (40 ∷ 1 ∷ 0 ∷ 11 ∷ [])) ∷ Faulty ∷ []) (record { digest = dg (40 ∷ 0 ∷ 0 ∷ 8 ∷ []); unit = record { instance = dg (0 ∷ 0 ∷ 0 ∷ 0 ∷ []); creator = 0; seq = 0; time = 8; exponent = 2; panorama = (Absent ∷ Absent ∷ Absent ∷ []); value = Some ((120 ∷ [])); endorsed = [] } }) 1 1 (((0, 0) ∷ (1, 0) ∷ []) ∷ ((0, 1) ∷ (1, 0) ∷ []) ∷ []) ∷ committee_test c.weights units (Correct (dg (38 ∷ 0 ∷ 1 ∷ 11 ∷ [])) ∷ Correct (dg (40 ∷ 1 ∷ 0 ∷ 11 ∷ [])) ∷ Faulty ∷ []) (record { digest = dg (40 ∷ 0 ∷ 0 ∷ 8 ∷ []); unit = record { instance = dg (0 ∷ 0 ∷ 0 ∷ 0 ∷ []); creator = 0; seq = 0; time = 8; exponent = 2; panorama = (Absent ∷ Absent ∷ Absent ∷ []); value = Some ((120 ∷ [])); endorsed = [] } }) 1 1 (((1, 0) ∷ []) ∷ ((1, 0) ∷ []) ∷ []) ∷ committee_test c.weights units (Correct (dg (38 ∷ 0 ∷ 1 ∷ 11 ∷ [])) ∷ Correct (dg (40 ∷ 1 ∷ 0 ∷ 11 ∷ [])) ∷ Faulty ∷ []) (record { digest = dg (40 ∷ 0 ∷ 0 ∷ 8 ∷ []); unit = record { instance = dg (0 ∷ 0 ∷ 0 ∷ 0 ∷ []); creator = 0; seq = 0; time = 8; exponent = 2; panorama = (Absent ∷ Absent ∷ Absent ∷ []); value = Some ((120 ∷ [])); endorsed = [] } }) 1 1 (((0, 0) ∷ []) ∷ [] ∷ []) ∷ committee_test c.weights units (Correct (dg (40 ∷ 0 ∷ 0 ∷ 8 ∷ [])) ∷ Absent ∷ Absent ∷ []) (record { digest = dg (40 ∷ 0 ∷ 0 ∷ 8 ∷ []); unit = record { instance = dg (0 ∷ 0 ∷ 0 ∷ 0 ∷ []); creator = 0; seq = 0; time = 8; exponent = 2; panorama = (Absent ∷ Absent ∷ Absent ∷ []); value = Some ((120 ∷ [])); endorsed = [] } }) 1 2 (((0, 0) ∷ []) ∷ ((0, 0) ∷ []) ∷ []) ∷ committee_test c.weights units (Correct (dg (40 ∷ 0 ∷ 0 ∷ 8 ∷ [])) ∷ Absent ∷ Absent ∷ []) (record { digest = dg (40 ∷ 0 ∷ 0 ∷ 8 ∷ []); unit = record { instance = dg (0 ∷ 0 ∷ 0 ∷ 0 ∷ []); creator = 0; seq = 0; time = 8; exponent = 2; panorama = (Absent ∷ Absent ∷ Absent ∷ []); value = Some ((120 ∷ [])); endorsed = [] } }) 1 2 (((0, 0) ∷ []) ∷ ((0, 0) ∷ []) ∷ []) ∷ []) ≡ (true ∷ true ∷ true ∷ false ∷ false ∷ false ∷ false ∷ [])
