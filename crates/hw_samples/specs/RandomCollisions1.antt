-- A random journal with short names, so that different units often have one name: deliveries clash.
-- The values are those of a second reading of the definitions, written apart from them; the two agree.
use Rattle.std.specs.Prelude.{◌≡◌, true, false, List, [], ◌∷◌, map, Option, Some, None, Ok, Err}
use Rattle.hw_types.specs.declared.unit.Obs.TheVariants.{Absent, Correct, Faulty}
use Rattle.hw_types.specs.declared.unit.WireUnit.{WireUnit}
use Rattle.hw_types.specs.declared.unit.Vertex.{Vertex}
use Rattle.hw_types.specs.declared.config.Config.{Config}
use Rattle.hw_types.specs.declared.answers.Plan.{Plan}
use Rattle.hw_types.specs.declared.answers.PlanKind.TheVariants as kind
use Rattle.hw_types.specs.declared.config.Leaders.TheVariants.{Table}
use Rattle.hw_types.specs.declared.answers.Rule.TheVariants as rule
use Rattle.hw_types.specs.declared.answers.Receipt.TheVariants as receipt
use Rattle.hw_types.specs.declared.answers.Cause.TheVariants as cause
use Rattle.hw_types.specs.Graph.{Node, past}
use Rattle.hw_types.specs.Rules.{state_rule, has_naive_fork}
use Rattle.hw_types.specs.Settled.{Received, settled_of, parked_of, dropped_of, missing_of, panorama_of, faulty_weight, fork_choice, is_endorsed}
use Rattle.hw_types.specs.Journal.{Setting, received_of, answers_from}
use Rattle.hw_types.specs.Step.{step}
use Rattle.hw_types.specs.Culprits.{culprits_of, pair_of, shown_in_either}
use Rattle.hw_samples.specs.Words.{names_of, name_of}
use Rattle.hw_samples.specs.JournalWords.{dg, sent_as, both_as, backs, narrow, named_by, votes_in, parents_in, committee_test}

abbrev c : Config
c = record { weights = (1 ∷ 1 ∷ 1 ∷ 1 ∷ []); ftt = 0; levels = 2; min_exponent = 2; max_exponent = 4; leaders = Table (0 ∷ 0 ∷ 1 ∷ []); max_records = 6; max_parked = 4096; end = Some (1) }

abbrev s : Setting
s = named_by narrow c

abbrev u0 : WireUnit
u0 = record { instance = dg (0 ∷ 0 ∷ 0 ∷ 0 ∷ []); creator = 0; seq = 0; time = 4; exponent = 2; panorama = (Absent ∷ Absent ∷ Absent ∷ Absent ∷ []); value = Some ((121 ∷ 122 ∷ [])); endorsed = [] }

abbrev u1 : WireUnit
u1 = record { instance = dg (0 ∷ 0 ∷ 0 ∷ 0 ∷ []); creator = 0; seq = 1; time = 7; exponent = 2; panorama = (Correct (dg (4 ∷ 0 ∷ 0 ∷ 0 ∷ [])) ∷ Absent ∷ Absent ∷ Absent ∷ []); value = None; endorsed = [] }

abbrev u2 : WireUnit
u2 = record { instance = dg (0 ∷ 0 ∷ 0 ∷ 0 ∷ []); creator = 0; seq = 2; time = 12; exponent = 2; panorama = (Correct (dg (0 ∷ 0 ∷ 0 ∷ 0 ∷ [])) ∷ Absent ∷ Absent ∷ Absent ∷ []); value = Some ((120 ∷ [])); endorsed = (dg (200 ∷ 200 ∷ 200 ∷ 200 ∷ []) ∷ dg (4 ∷ 0 ∷ 0 ∷ 0 ∷ []) ∷ []) }

abbrev u3 : WireUnit
u3 = record { instance = dg (0 ∷ 0 ∷ 0 ∷ 0 ∷ []); creator = 1; seq = 0; time = 5; exponent = 2; panorama = (Correct (dg (4 ∷ 0 ∷ 0 ∷ 0 ∷ [])) ∷ Absent ∷ Absent ∷ Absent ∷ []); value = None; endorsed = [] }

abbrev u4 : WireUnit
u4 = record { instance = dg (0 ∷ 0 ∷ 0 ∷ 0 ∷ []); creator = 0; seq = 2; time = 12; exponent = 2; panorama = (Correct (dg (0 ∷ 0 ∷ 0 ∷ 0 ∷ [])) ∷ Correct (dg (0 ∷ 1 ∷ 0 ∷ 0 ∷ [])) ∷ Absent ∷ Absent ∷ []); value = Some ((121 ∷ 122 ∷ [])); endorsed = [] }

abbrev u5 : WireUnit
u5 = record { instance = dg (0 ∷ 0 ∷ 0 ∷ 0 ∷ []); creator = 2; seq = 0; time = 13; exponent = 2; panorama = (Correct (dg (3 ∷ 0 ∷ 0 ∷ 0 ∷ [])) ∷ Correct (dg (0 ∷ 1 ∷ 0 ∷ 0 ∷ [])) ∷ Absent ∷ Absent ∷ []); value = None; endorsed = [] }

abbrev u6 : WireUnit
u6 = record { instance = dg (0 ∷ 0 ∷ 0 ∷ 0 ∷ []); creator = 0; seq = 3; time = 13; exponent = 2; panorama = (Correct (dg (3 ∷ 0 ∷ 0 ∷ 0 ∷ [])) ∷ Correct (dg (0 ∷ 1 ∷ 0 ∷ 0 ∷ [])) ∷ Correct (dg (3 ∷ 2 ∷ 0 ∷ 0 ∷ [])) ∷ Absent ∷ []); value = None; endorsed = (dg (0 ∷ 1 ∷ 0 ∷ 0 ∷ []) ∷ []) }

abbrev u7 : WireUnit
u7 = record { instance = dg (0 ∷ 0 ∷ 0 ∷ 0 ∷ []); creator = 3; seq = 0; time = 4; exponent = 2; panorama = (Absent ∷ Absent ∷ Absent ∷ Absent ∷ []); value = None; endorsed = [] }

abbrev j : List Vertex
j = (sent_as (1 ∷ []) u0 ∷ sent_as [] u1 ∷ backs (dg (4 ∷ 0 ∷ 0 ∷ 0 ∷ [])) 1 ∷ sent_as [] u3 ∷ backs (dg (200 ∷ 200 ∷ 200 ∷ 200 ∷ [])) 3 ∷ backs (dg (0 ∷ 1 ∷ 0 ∷ 0 ∷ [])) 3 ∷ [])

abbrev k : Received
k = received_of s j

abbrev units : List Node
units = (record { digest = dg (0 ∷ 0 ∷ 0 ∷ 0 ∷ []); unit = u1 } ∷ record { digest = dg (0 ∷ 1 ∷ 0 ∷ 0 ∷ []); unit = u3 } ∷ record { digest = dg (4 ∷ 0 ∷ 0 ∷ 0 ∷ []); unit = u0 } ∷ [])

abbrev plans : List (Option Plan)
plans = (None ∷ Some (record { kind = kind.Witness; unit = record { instance = dg (0 ∷ 0 ∷ 0 ∷ 0 ∷ []); creator = 0; seq = 2; time = 11; exponent = 2; panorama = (Correct (dg (0 ∷ 0 ∷ 0 ∷ 0 ∷ [])) ∷ Correct (dg (0 ∷ 1 ∷ 0 ∷ 0 ∷ [])) ∷ Absent ∷ Absent ∷ []); value = None; endorsed = [] } }) ∷ None ∷ Some (record { kind = kind.Witness; unit = record { instance = dg (0 ∷ 0 ∷ 0 ∷ 0 ∷ []); creator = 1; seq = 1; time = 10; exponent = 2; panorama = (Correct (dg (0 ∷ 0 ∷ 0 ∷ 0 ∷ [])) ∷ Correct (dg (0 ∷ 1 ∷ 0 ∷ 0 ∷ [])) ∷ Absent ∷ Absent ∷ []); value = None; endorsed = [] } }) ∷ Some (record { kind = kind.Confirm; unit = record { instance = dg (0 ∷ 0 ∷ 0 ∷ 0 ∷ []); creator = 2; seq = 0; time = 5; exponent = 2; panorama = (Correct (dg (4 ∷ 0 ∷ 0 ∷ 0 ∷ [])) ∷ Correct (dg (0 ∷ 1 ∷ 0 ∷ 0 ∷ [])) ∷ Absent ∷ Absent ∷ []); value = None; endorsed = [] } }) ∷ None ∷ None ∷ Some (record { kind = kind.Witness; unit = record { instance = dg (0 ∷ 0 ∷ 0 ∷ 0 ∷ []); creator = 3; seq = 0; time = 6; exponent = 2; panorama = (Correct (dg (4 ∷ 0 ∷ 0 ∷ 0 ∷ [])) ∷ Correct (dg (0 ∷ 1 ∷ 0 ∷ 0 ∷ [])) ∷ Absent ∷ Absent ∷ []); value = None; endorsed = [] } }) ∷ [])

abbrev j2 : List Vertex
j2 = (backs (dg (4 ∷ 0 ∷ 0 ∷ 0 ∷ [])) 2 ∷ both_as (2 ∷ []) u2 [] u4 ∷ backs (dg (200 ∷ 200 ∷ 200 ∷ 200 ∷ [])) 0 ∷ sent_as [] u1 ∷ sent_as [] u5 ∷ sent_as [] u4 ∷ [])

pub record RandomCollisions1 : Type 0 where
  pub answers : answers_from s [] ((sent_as (1 ∷ []) u0, true) ∷ (sent_as [] u1, true) ∷ (sent_as (1 ∷ []) u2, true) ∷ (backs (dg (4 ∷ 0 ∷ 0 ∷ 0 ∷ [])) 1, true) ∷ (sent_as [] u3, true) ∷ (backs (dg (200 ∷ 200 ∷ 200 ∷ 200 ∷ [])) 3, true) ∷ (backs (dg (0 ∷ 1 ∷ 0 ∷ 0 ∷ [])) 3, true) ∷ (sent_as (1 ∷ []) u4, true) ∷ (backs (dg (4 ∷ 0 ∷ 0 ∷ 0 ∷ [])) 3, true) ∷ (sent_as (1 ∷ []) u5, true) ∷ (backs (dg (4 ∷ 0 ∷ 0 ∷ 0 ∷ [])) 0, true) ∷ (sent_as [] u6, true) ∷ (backs (dg (0 ∷ 1 ∷ 0 ∷ 0 ∷ [])) 0, false) ∷ (backs (dg (200 ∷ 200 ∷ 200 ∷ 200 ∷ [])) 0, true) ∷ (backs (dg (0 ∷ 1 ∷ 0 ∷ 0 ∷ [])) 2, true) ∷ (both_as [] u4 [] u2, true) ∷ (sent_as (5 ∷ []) u2, true) ∷ (backs (dg (200 ∷ 200 ∷ 200 ∷ 200 ∷ [])) 1, true) ∷ (sent_as [] u7, true) ∷ (both_as [] u4 [] u2, true) ∷ (backs (dg (0 ∷ 1 ∷ 0 ∷ 0 ∷ [])) 1, true) ∷ []) ≡ ((Ok (receipt.Admitted 1) ∷ Ok (receipt.Admitted 1) ∷ Err (cause.Local rule.EndorsedOrder) ∷ Ok (receipt.Admitted 0) ∷ Ok (receipt.Admitted 1) ∷ Ok (receipt.Admitted 0) ∷ Ok (receipt.Admitted 0) ∷ Err cause.RecordsFull ∷ Err cause.RecordsFull ∷ Err cause.RecordsFull ∷ Err cause.RecordsFull ∷ Err cause.RecordsFull ∷ Err cause.BadSignature ∷ Err cause.RecordsFull ∷ Err cause.RecordsFull ∷ Err cause.RecordsFull ∷ Err (cause.Local rule.EndorsedOrder) ∷ Err cause.RecordsFull ∷ Err (cause.Local rule.NoBlock) ∷ Err cause.RecordsFull ∷ Err cause.RecordsFull ∷ []))
  pub settled : settled_of c k ≡ units
  pub parked : names_of (parked_of c k) ≡ []
  pub dropped : names_of (dropped_of c k) ≡ []
  pub panorama : panorama_of c k ≡ (Correct (dg (0 ∷ 0 ∷ 0 ∷ 0 ∷ [])) ∷ Correct (dg (0 ∷ 1 ∷ 0 ∷ 0 ∷ [])) ∷ Absent ∷ Absent ∷ [])
  pub weight : faulty_weight c k ≡ 0
  pub fork : name_of (fork_choice c k) ≡ Some (dg (4 ∷ 0 ∷ 0 ∷ 0 ∷ []))
  pub endorsed : map (is_endorsed c k) (dg (0 ∷ 1 ∷ 0 ∷ 0 ∷ []) ∷ dg (4 ∷ 0 ∷ 0 ∷ 0 ∷ []) ∷ dg (200 ∷ 200 ∷ 200 ∷ 200 ∷ []) ∷ []) ≡ (false ∷ false ∷ false ∷ [])
  pub votes : votes_in c units ≡ (Some (dg (4 ∷ 0 ∷ 0 ∷ 0 ∷ [])) ∷ Some (dg (4 ∷ 0 ∷ 0 ∷ 0 ∷ [])) ∷ Some (dg (4 ∷ 0 ∷ 0 ∷ 0 ∷ [])) ∷ [])
  pub heights : parents_in c units ≡ ((None, 0) ∷ [])
  pub missing : map (missing_of c k units) (record { digest = dg (0 ∷ 0 ∷ 0 ∷ 0 ∷ []); unit = u1 } ∷ record { digest = dg (0 ∷ 1 ∷ 0 ∷ 0 ∷ []); unit = u3 } ∷ record { digest = dg (4 ∷ 0 ∷ 0 ∷ 0 ∷ []); unit = u0 } ∷ []) ≡ (([] ∷ [] ∷ [] ∷ []))
  pub rules : map (state_rule c units) (record { digest = dg (0 ∷ 0 ∷ 0 ∷ 0 ∷ []); unit = u1 } ∷ record { digest = dg (0 ∷ 1 ∷ 0 ∷ 0 ∷ []); unit = u3 } ∷ record { digest = dg (4 ∷ 0 ∷ 0 ∷ 0 ∷ []); unit = u0 } ∷ []) ≡ (None ∷ None ∷ None ∷ [])
  pub naive : (has_naive_fork (past units (Correct (dg (0 ∷ 0 ∷ 0 ∷ 0 ∷ [])) ∷ Correct (dg (0 ∷ 1 ∷ 0 ∷ 0 ∷ [])) ∷ Faulty ∷ Absent ∷ [])) [] ∷ has_naive_fork (past units (Correct (dg (0 ∷ 0 ∷ 0 ∷ 0 ∷ [])) ∷ Correct (dg (0 ∷ 1 ∷ 0 ∷ 0 ∷ [])) ∷ Absent ∷ Absent ∷ [])) (dg (4 ∷ 0 ∷ 0 ∷ 0 ∷ []) ∷ []) ∷ has_naive_fork (past units (Correct (dg (0 ∷ 0 ∷ 0 ∷ 0 ∷ [])) ∷ Correct (dg (0 ∷ 1 ∷ 0 ∷ 0 ∷ [])) ∷ Absent ∷ Faulty ∷ [])) (dg (0 ∷ 0 ∷ 0 ∷ 0 ∷ []) ∷ dg (4 ∷ 0 ∷ 0 ∷ 0 ∷ []) ∷ []) ∷ has_naive_fork (past units (Correct (dg (0 ∷ 0 ∷ 0 ∷ 0 ∷ [])) ∷ Correct (dg (0 ∷ 1 ∷ 0 ∷ 0 ∷ [])) ∷ Faulty ∷ Faulty ∷ [])) (dg (0 ∷ 1 ∷ 0 ∷ 0 ∷ []) ∷ dg (4 ∷ 0 ∷ 0 ∷ 0 ∷ []) ∷ []) ∷ []) ≡ (false ∷ false ∷ false ∷ false ∷ [])
  pub steps : (step s k 0 5 (118 ∷ []) ∷ step s k 0 11 (118 ∷ []) ∷ step s k 1 3 (118 ∷ []) ∷ step s k 1 10 (118 ∷ []) ∷ step s k 2 5 (118 ∷ []) ∷ step s k 2 3 (118 ∷ []) ∷ step s k 3 8 (118 ∷ []) ∷ step s k 3 6 (118 ∷ []) ∷ []) ≡ plans
  pub culprits : culprits_of s j j2 ≡ (0 ∷ [])
  pub pair0 : pair_of (shown_in_either s j j2) 0 ≡ Some (record { digest = dg (0 ∷ 0 ∷ 0 ∷ 0 ∷ []); unit = u2 }, record { digest = dg (3 ∷ 0 ∷ 0 ∷ 0 ∷ []); unit = u4 })
  pub summits : (committee_test c.weights units (Correct (dg (0 ∷ 0 ∷ 0 ∷ 0 ∷ [])) ∷ Correct (dg (0 ∷ 1 ∷ 0 ∷ 0 ∷ [])) ∷ Absent ∷ Absent ∷ []) (record { digest = dg (4 ∷ 0 ∷ 0 ∷ 0 ∷ []); unit = record { instance = dg (0 ∷ 0 ∷ 0 ∷ 0 ∷ []); creator = 0; seq = 0; time = 4; exponent = 2; panorama = (Absent ∷ Absent ∷ Absent ∷ Absent ∷ []); value = Some ((121 ∷ 122 ∷ [])); endorsed = [] } }) 1 2 (((0, 0) ∷ (1, 0) ∷ []) ∷ [] ∷ []) ∷ committee_test c.weights units (Correct (dg (0 ∷ 0 ∷ 0 ∷ 0 ∷ [])) ∷ Correct (dg (0 ∷ 1 ∷ 0 ∷ 0 ∷ [])) ∷ Absent ∷ Absent ∷ []) (record { digest = dg (4 ∷ 0 ∷ 0 ∷ 0 ∷ []); unit = record { instance = dg (0 ∷ 0 ∷ 0 ∷ 0 ∷ []); creator = 0; seq = 0; time = 4; exponent = 2; panorama = (Absent ∷ Absent ∷ Absent ∷ Absent ∷ []); value = Some ((121 ∷ 122 ∷ [])); endorsed = [] } }) 1 2 (((0, 1) ∷ (1, 0) ∷ []) ∷ ((0, 1) ∷ (1, 0) ∷ []) ∷ []) ∷ committee_test c.weights units (Correct (dg (0 ∷ 0 ∷ 0 ∷ 0 ∷ [])) ∷ Correct (dg (0 ∷ 1 ∷ 0 ∷ 0 ∷ [])) ∷ Absent ∷ Absent ∷ []) (record { digest = dg (4 ∷ 0 ∷ 0 ∷ 0 ∷ []); unit = record { instance = dg (0 ∷ 0 ∷ 0 ∷ 0 ∷ []); creator = 0; seq = 0; time = 4; exponent = 2; panorama = (Absent ∷ Absent ∷ Absent ∷ Absent ∷ []); value = Some ((121 ∷ 122 ∷ [])); endorsed = [] } }) 2 2 (((0, 0) ∷ []) ∷ [] ∷ [] ∷ []) ∷ committee_test c.weights units (Correct (dg (0 ∷ 0 ∷ 0 ∷ 0 ∷ [])) ∷ Correct (dg (0 ∷ 1 ∷ 0 ∷ 0 ∷ [])) ∷ Absent ∷ Absent ∷ []) (record { digest = dg (4 ∷ 0 ∷ 0 ∷ 0 ∷ []); unit = record { instance = dg (0 ∷ 0 ∷ 0 ∷ 0 ∷ []); creator = 0; seq = 0; time = 4; exponent = 2; panorama = (Absent ∷ Absent ∷ Absent ∷ Absent ∷ []); value = Some ((121 ∷ 122 ∷ [])); endorsed = [] } }) 2 2 (((0, 0) ∷ []) ∷ ((0, 0) ∷ []) ∷ ((0, 0) ∷ []) ∷ []) ∷ committee_test c.weights units (Absent ∷ Absent ∷ Absent ∷ Absent ∷ []) (record { digest = dg (4 ∷ 0 ∷ 0 ∷ 0 ∷ []); unit = record { instance = dg (0 ∷ 0 ∷ 0 ∷ 0 ∷ []); creator = 0; seq = 0; time = 4; exponent = 2; panorama = (Absent ∷ Absent ∷ Absent ∷ Absent ∷ []); value = Some ((121 ∷ 122 ∷ [])); endorsed = [] } }) 1 4 ([] ∷ [] ∷ []) ∷ committee_test c.weights units (Absent ∷ Absent ∷ Absent ∷ Absent ∷ []) (record { digest = dg (4 ∷ 0 ∷ 0 ∷ 0 ∷ []); unit = record { instance = dg (0 ∷ 0 ∷ 0 ∷ 0 ∷ []); creator = 0; seq = 0; time = 4; exponent = 2; panorama = (Absent ∷ Absent ∷ Absent ∷ Absent ∷ []); value = Some ((121 ∷ 122 ∷ [])); endorsed = [] } }) 1 4 ([] ∷ [] ∷ []) ∷ committee_test c.weights units (Absent ∷ Absent ∷ Absent ∷ Absent ∷ []) (record { digest = dg (4 ∷ 0 ∷ 0 ∷ 0 ∷ []); unit = record { instance = dg (0 ∷ 0 ∷ 0 ∷ 0 ∷ []); creator = 0; seq = 0; time = 4; exponent = 2; panorama = (Absent ∷ Absent ∷ Absent ∷ Absent ∷ []); value = Some ((121 ∷ 122 ∷ [])); endorsed = [] } }) 2 4 ([] ∷ [] ∷ [] ∷ []) ∷ committee_test c.weights units (Absent ∷ Absent ∷ Absent ∷ Absent ∷ []) (record { digest = dg (4 ∷ 0 ∷ 0 ∷ 0 ∷ []); unit = record { instance = dg (0 ∷ 0 ∷ 0 ∷ 0 ∷ []); creator = 0; seq = 0; time = 4; exponent = 2; panorama = (Absent ∷ Absent ∷ Absent ∷ Absent ∷ []); value = Some ((121 ∷ 122 ∷ [])); endorsed = [] } }) 2 4 ([] ∷ [] ∷ [] ∷ []) ∷ []) ≡ (false ∷ false ∷ false ∷ false ∷ false ∷ false ∷ false ∷ false ∷ [])
