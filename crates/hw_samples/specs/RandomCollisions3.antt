-- A random journal with short names, so that different units often have one name: deliveries clash.
-- The values are those of a second reading of the definitions, written apart from them; the two agree.
use Rattle.std.specs.Prelude.{◌≡◌, true, false, List, [], ◌∷◌, map, Option, Some, None, Ok, Err}
use Rattle.hw_types.specs.declared.unit.Obs.TheVariants.{Absent, Correct, Faulty}
use Rattle.hw_types.specs.declared.unit.WireUnit.{WireUnit}
use Rattle.hw_types.specs.declared.unit.Vertex.{Vertex}
use Rattle.hw_types.specs.declared.config.Config.{Config}
use Rattle.hw_types.specs.declared.answers.Plan.{Plan}
use Rattle.hw_types.specs.declared.answers.PlanKind.TheVariants as kind
use Rattle.hw_types.specs.declared.config.Leaders.TheVariants.{Table}
use Rattle.hw_types.specs.declared.answers.Rule.TheVariants as rule
use Rattle.hw_types.specs.declared.answers.Receipt.TheVariants as receipt
use Rattle.hw_types.specs.declared.answers.Cause.TheVariants as cause
use Rattle.hw_types.specs.Graph.{Node, past}
use Rattle.hw_types.specs.Rules.{state_rule, has_naive_fork}
use Rattle.hw_types.specs.Settled.{Received, settled_of, parked_of, dropped_of, missing_of, panorama_of, faulty_weight, fork_choice}
use Rattle.hw_types.specs.Journal.{Setting, received_of, answers_from}
use Rattle.hw_types.specs.Step.{step}
use Rattle.hw_samples.specs.Words.{names_of, name_of}
use Rattle.hw_samples.specs.JournalWords.{dg, sent_as, narrow, named_by, votes_in, parents_in, committee_test}

abbrev c : Config
c = record { weights = (1 ∷ 1 ∷ 1 ∷ []); ftt = 0; levels = 1; min_exponent = 2; max_exponent = 4; leaders = Table (2 ∷ 2 ∷ []); max_records = 5; max_parked = 4096; end = None }

abbrev s : Setting
s = named_by narrow c

abbrev u0 : WireUnit
u0 = record { instance = dg (0 ∷ 0 ∷ 0 ∷ 0 ∷ []); creator = 2; seq = 0; time = 4; exponent = 2; panorama = (Absent ∷ Absent ∷ Absent ∷ []); value = Some ((120 ∷ [])); endorsed = [] }

abbrev u1 : WireUnit
u1 = record { instance = dg (0 ∷ 0 ∷ 0 ∷ 0 ∷ []); creator = 1; seq = 0; time = 5; exponent = 2; panorama = (Absent ∷ Absent ∷ Correct (dg (1 ∷ 2 ∷ 0 ∷ 0 ∷ [])) ∷ []); value = None; endorsed = [] }

abbrev u2 : WireUnit
u2 = record { instance = dg (0 ∷ 0 ∷ 0 ∷ 0 ∷ []); creator = 2; seq = 1; time = 8; exponent = 2; panorama = (Absent ∷ Absent ∷ Correct (dg (1 ∷ 2 ∷ 0 ∷ 0 ∷ [])) ∷ []); value = Some ((120 ∷ [])); endorsed = [] }

abbrev u3 : WireUnit
u3 = record { instance = dg (0 ∷ 0 ∷ 0 ∷ 0 ∷ []); creator = 0; seq = 0; time = 15; exponent = 2; panorama = (Absent ∷ Absent ∷ Correct (dg (0 ∷ 2 ∷ 0 ∷ 0 ∷ [])) ∷ []); value = None; endorsed = [] }

abbrev u4 : WireUnit
u4 = record { instance = dg (0 ∷ 0 ∷ 0 ∷ 0 ∷ []); creator = 2; seq = 2; time = 12; exponent = 2; panorama = (Absent ∷ Absent ∷ Correct (dg (3 ∷ 2 ∷ 0 ∷ 0 ∷ [])) ∷ []); value = Some ((120 ∷ [])); endorsed = [] }

abbrev u5 : WireUnit
u5 = record { instance = dg (0 ∷ 0 ∷ 0 ∷ 0 ∷ []); creator = 2; seq = 3; time = 17; exponent = 2; panorama = (Absent ∷ Absent ∷ Correct (dg (0 ∷ 2 ∷ 0 ∷ 0 ∷ [])) ∷ []); value = None; endorsed = [] }

abbrev u6 : WireUnit
u6 = record { instance = dg (0 ∷ 0 ∷ 0 ∷ 0 ∷ []); creator = 0; seq = 0; time = 5; exponent = 2; panorama = (Absent ∷ Absent ∷ Absent ∷ []); value = None; endorsed = [] }

abbrev u7 : WireUnit
u7 = record { instance = dg (0 ∷ 0 ∷ 0 ∷ 0 ∷ []); creator = 0; seq = 2; time = 14; exponent = 2; panorama = (Correct (dg (2 ∷ 0 ∷ 0 ∷ 0 ∷ [])) ∷ Absent ∷ Correct (dg (0 ∷ 2 ∷ 0 ∷ 0 ∷ [])) ∷ []); value = None; endorsed = (dg (0 ∷ 0 ∷ 0 ∷ 0 ∷ []) ∷ []) }

abbrev u8 : WireUnit
u8 = record { instance = dg (0 ∷ 0 ∷ 0 ∷ 0 ∷ []); creator = 0; seq = 1; time = 14; exponent = 2; panorama = (Correct (dg (0 ∷ 0 ∷ 0 ∷ 0 ∷ [])) ∷ Absent ∷ Correct (dg (0 ∷ 2 ∷ 0 ∷ 0 ∷ [])) ∷ []); value = None; endorsed = (dg (0 ∷ 0 ∷ 0 ∷ 0 ∷ []) ∷ []) }

abbrev j : List Vertex
j = (sent_as [] u0 ∷ sent_as [] u1 ∷ sent_as [] u2 ∷ sent_as [] u3 ∷ sent_as (1 ∷ []) u4 ∷ [])

abbrev k : Received
k = received_of s j

abbrev units : List Node
units = (record { digest = dg (0 ∷ 0 ∷ 0 ∷ 0 ∷ []); unit = u3 } ∷ record { digest = dg (0 ∷ 1 ∷ 0 ∷ 0 ∷ []); unit = u1 } ∷ record { digest = dg (0 ∷ 2 ∷ 0 ∷ 0 ∷ []); unit = u4 } ∷ record { digest = dg (1 ∷ 2 ∷ 0 ∷ 0 ∷ []); unit = u0 } ∷ record { digest = dg (3 ∷ 2 ∷ 0 ∷ 0 ∷ []); unit = u2 } ∷ [])

abbrev plans : List (Option Plan)
plans = (None ∷ None ∷ Some (record { kind = kind.Witness; unit = record { instance = dg (0 ∷ 0 ∷ 0 ∷ 0 ∷ []); creator = 1; seq = 1; time = 15; exponent = 2; panorama = (Correct (dg (0 ∷ 0 ∷ 0 ∷ 0 ∷ [])) ∷ Correct (dg (0 ∷ 1 ∷ 0 ∷ 0 ∷ [])) ∷ Correct (dg (0 ∷ 2 ∷ 0 ∷ 0 ∷ [])) ∷ []); value = None; endorsed = [] } }) ∷ Some (record { kind = kind.Confirm; unit = record { instance = dg (0 ∷ 0 ∷ 0 ∷ 0 ∷ []); creator = 1; seq = 1; time = 13; exponent = 2; panorama = (Absent ∷ Correct (dg (0 ∷ 1 ∷ 0 ∷ 0 ∷ [])) ∷ Correct (dg (0 ∷ 2 ∷ 0 ∷ 0 ∷ [])) ∷ []); value = None; endorsed = [] } }) ∷ Some (record { kind = kind.Propose; unit = record { instance = dg (0 ∷ 0 ∷ 0 ∷ 0 ∷ []); creator = 2; seq = 3; time = 20; exponent = 2; panorama = (Correct (dg (0 ∷ 0 ∷ 0 ∷ 0 ∷ [])) ∷ Correct (dg (0 ∷ 1 ∷ 0 ∷ 0 ∷ [])) ∷ Correct (dg (0 ∷ 2 ∷ 0 ∷ 0 ∷ [])) ∷ []); value = Some ((118 ∷ [])); endorsed = [] } }) ∷ Some (record { kind = kind.Witness; unit = record { instance = dg (0 ∷ 0 ∷ 0 ∷ 0 ∷ []); creator = 2; seq = 3; time = 18; exponent = 2; panorama = (Correct (dg (0 ∷ 0 ∷ 0 ∷ 0 ∷ [])) ∷ Correct (dg (0 ∷ 1 ∷ 0 ∷ 0 ∷ [])) ∷ Correct (dg (0 ∷ 2 ∷ 0 ∷ 0 ∷ [])) ∷ []); value = None; endorsed = [] } }) ∷ [])

pub record RandomCollisions3 : Type 0 where
  pub answers : answers_from s [] ((sent_as [] u0, true) ∷ (sent_as [] u1, true) ∷ (sent_as [] u2, true) ∷ (sent_as [] u3, true) ∷ (sent_as (1 ∷ []) u4, true) ∷ (sent_as (1 ∷ []) u5, true) ∷ (sent_as [] u6, true) ∷ (sent_as [] u7, false) ∷ (sent_as (1 ∷ []) u8, true) ∷ []) ≡ ((Ok (receipt.Admitted 1) ∷ Ok (receipt.Admitted 1) ∷ Ok (receipt.Admitted 1) ∷ Ok (receipt.Parked 1) ∷ Ok (receipt.Admitted 2) ∷ Err (cause.Clash (dg (1 ∷ 2 ∷ 0 ∷ 0 ∷ []))) ∷ Err (cause.Local rule.NoBlock) ∷ Err cause.BadSignature ∷ Err cause.RecordsFull ∷ []))
  pub settled : settled_of c k ≡ units
  pub parked : names_of (parked_of c k) ≡ []
  pub dropped : names_of (dropped_of c k) ≡ []
  pub panorama : panorama_of c k ≡ (Correct (dg (0 ∷ 0 ∷ 0 ∷ 0 ∷ [])) ∷ Correct (dg (0 ∷ 1 ∷ 0 ∷ 0 ∷ [])) ∷ Correct (dg (0 ∷ 2 ∷ 0 ∷ 0 ∷ [])) ∷ [])
  pub weight : faulty_weight c k ≡ 0
  pub fork : name_of (fork_choice c k) ≡ Some (dg (0 ∷ 2 ∷ 0 ∷ 0 ∷ []))
  pub votes : votes_in c units ≡ (Some (dg (0 ∷ 2 ∷ 0 ∷ 0 ∷ [])) ∷ Some (dg (1 ∷ 2 ∷ 0 ∷ 0 ∷ [])) ∷ Some (dg (0 ∷ 2 ∷ 0 ∷ 0 ∷ [])) ∷ Some (dg (1 ∷ 2 ∷ 0 ∷ 0 ∷ [])) ∷ Some (dg (3 ∷ 2 ∷ 0 ∷ 0 ∷ [])) ∷ [])
  pub heights : parents_in c units ≡ ((Some (dg (3 ∷ 2 ∷ 0 ∷ 0 ∷ [])), 2) ∷ (None, 0) ∷ (Some (dg (1 ∷ 2 ∷ 0 ∷ 0 ∷ [])), 1) ∷ [])
  pub missing : map (missing_of c k units) (record { digest = dg (0 ∷ 0 ∷ 0 ∷ 0 ∷ []); unit = u3 } ∷ record { digest = dg (0 ∷ 1 ∷ 0 ∷ 0 ∷ []); unit = u1 } ∷ record { digest = dg (0 ∷ 2 ∷ 0 ∷ 0 ∷ []); unit = u4 } ∷ record { digest = dg (1 ∷ 2 ∷ 0 ∷ 0 ∷ []); unit = u0 } ∷ record { digest = dg (3 ∷ 2 ∷ 0 ∷ 0 ∷ []); unit = u2 } ∷ []) ≡ (([] ∷ [] ∷ [] ∷ [] ∷ [] ∷ []))
  pub rules : map (state_rule c units) (record { digest = dg (0 ∷ 0 ∷ 0 ∷ 0 ∷ []); unit = u3 } ∷ record { digest = dg (0 ∷ 1 ∷ 0 ∷ 0 ∷ []); unit = u1 } ∷ record { digest = dg (0 ∷ 2 ∷ 0 ∷ 0 ∷ []); unit = u4 } ∷ record { digest = dg (1 ∷ 2 ∷ 0 ∷ 0 ∷ []); unit = u0 } ∷ record { digest = dg (3 ∷ 2 ∷ 0 ∷ 0 ∷ []); unit = u2 } ∷ []) ≡ (None ∷ None ∷ None ∷ None ∷ None ∷ [])
  pub naive : (has_naive_fork (past units (Correct (dg (0 ∷ 0 ∷ 0 ∷ 0 ∷ [])) ∷ Correct (dg (0 ∷ 1 ∷ 0 ∷ 0 ∷ [])) ∷ Correct (dg (0 ∷ 2 ∷ 0 ∷ 0 ∷ [])) ∷ [])) (dg (0 ∷ 0 ∷ 0 ∷ 0 ∷ []) ∷ dg (1 ∷ 2 ∷ 0 ∷ 0 ∷ []) ∷ []) ∷ has_naive_fork (past units (Absent ∷ Faulty ∷ Correct (dg (3 ∷ 2 ∷ 0 ∷ 0 ∷ [])) ∷ [])) [] ∷ has_naive_fork (past units (Correct (dg (0 ∷ 0 ∷ 0 ∷ 0 ∷ [])) ∷ Correct (dg (0 ∷ 1 ∷ 0 ∷ 0 ∷ [])) ∷ Correct (dg (1 ∷ 2 ∷ 0 ∷ 0 ∷ [])) ∷ [])) [] ∷ has_naive_fork (past units (Correct (dg (0 ∷ 0 ∷ 0 ∷ 0 ∷ [])) ∷ Correct (dg (0 ∷ 1 ∷ 0 ∷ 0 ∷ [])) ∷ Correct (dg (0 ∷ 2 ∷ 0 ∷ 0 ∷ [])) ∷ [])) [] ∷ []) ≡ (false ∷ false ∷ false ∷ false ∷ [])
  pub steps : (step s k 0 10 (118 ∷ []) ∷ step s k 0 11 (118 ∷ []) ∷ step s k 1 15 (118 ∷ []) ∷ step s k 1 13 (118 ∷ []) ∷ step s k 2 20 (118 ∷ []) ∷ step s k 2 18 (118 ∷ []) ∷ []) ≡ plans
  pub summits : (committee_test c.weights units (Correct (dg (0 ∷ 0 ∷ 0 ∷ 0 ∷ [])) ∷ Correct (dg (0 ∷ 1 ∷ 0 ∷ 0 ∷ [])) ∷ Correct (dg (0 ∷ 2 ∷ 0 ∷ 0 ∷ [])) ∷ []) (record { digest = dg (1 ∷ 2 ∷ 0 ∷ 0 ∷ []); unit = record { instance = dg (0 ∷ 0 ∷ 0 ∷ 0 ∷ []); creator = 2; seq = 0; time = 4; exponent = 2; panorama = (Absent ∷ Absent ∷ Absent ∷ []); value = Some ((120 ∷ [])); endorsed = [] } }) 1 2 (((0, 0) ∷ (1, 0) ∷ (2, 0) ∷ []) ∷ ((0, 0) ∷ (1, 0) ∷ (2, 1) ∷ []) ∷ []) ∷ committee_test c.weights units (Correct (dg (0 ∷ 0 ∷ 0 ∷ 0 ∷ [])) ∷ Correct (dg (0 ∷ 1 ∷ 0 ∷ 0 ∷ [])) ∷ Correct (dg (0 ∷ 2 ∷ 0 ∷ 0 ∷ [])) ∷ []) (record { digest = dg (1 ∷ 2 ∷ 0 ∷ 0 ∷ []); unit = record { instance = dg (0 ∷ 0 ∷ 0 ∷ 0 ∷ []); creator = 2; seq = 0; time = 4; exponent = 2; panorama = (Absent ∷ Absent ∷ Absent ∷ []); value = Some ((120 ∷ [])); endorsed = [] } }) 1 2 (((0, 0) ∷ (1, 0) ∷ []) ∷ ((0, 0) ∷ (1, 0) ∷ []) ∷ []) ∷ committee_test c.weights units (Correct (dg (0 ∷ 0 ∷ 0 ∷ 0 ∷ [])) ∷ Correct (dg (0 ∷ 1 ∷ 0 ∷ 0 ∷ [])) ∷ Correct (dg (0 ∷ 2 ∷ 0 ∷ 0 ∷ [])) ∷ []) (record { digest = dg (3 ∷ 2 ∷ 0 ∷ 0 ∷ []); unit = record { instance = dg (0 ∷ 0 ∷ 0 ∷ 0 ∷ []); creator = 2; seq = 1; time = 8; exponent = 2; panorama = (Absent ∷ Absent ∷ Correct (dg (1 ∷ 2 ∷ 0 ∷ 0 ∷ [])) ∷ []); value = Some ((120 ∷ [])); endorsed = [] } }) 1 1 (((0, 0) ∷ (2, 1) ∷ []) ∷ ((0, 0) ∷ (2, 2) ∷ []) ∷ []) ∷ committee_test c.weights units (Correct (dg (0 ∷ 0 ∷ 0 ∷ 0 ∷ [])) ∷ Correct (dg (0 ∷ 1 ∷ 0 ∷ 0 ∷ [])) ∷ Correct (dg (0 ∷ 2 ∷ 0 ∷ 0 ∷ [])) ∷ []) (record { digest = dg (3 ∷ 2 ∷ 0 ∷ 0 ∷ []); unit = record { instance = dg (0 ∷ 0 ∷ 0 ∷ 0 ∷ []); creator = 2; seq = 1; time = 8; exponent = 2; panorama = (Absent ∷ Absent ∷ Correct (dg (1 ∷ 2 ∷ 0 ∷ 0 ∷ [])) ∷ []); value = Some ((120 ∷ [])); endorsed = [] } }) 1 1 (((0, 0) ∷ (2, 1) ∷ []) ∷ ((0, 0) ∷ (1, 1) ∷ (2, 2) ∷ []) ∷ []) ∷ committee_test c.weights units (Correct (dg (0 ∷ 0 ∷ 0 ∷ 0 ∷ [])) ∷ Correct (dg (0 ∷ 1 ∷ 0 ∷ 0 ∷ [])) ∷ Correct (dg (0 ∷ 2 ∷ 0 ∷ 0 ∷ [])) ∷ []) (record { digest = dg (3 ∷ 2 ∷ 0 ∷ 0 ∷ []); unit = record { instance = dg (0 ∷ 0 ∷ 0 ∷ 0 ∷ []); creator = 2; seq = 1; time = 8; exponent = 2; panorama = (Absent ∷ Absent ∷ Correct (dg (1 ∷ 2 ∷ 0 ∷ 0 ∷ [])) ∷ []); value = Some ((120 ∷ [])); endorsed = [] } }) 1 1 (((2, 1) ∷ []) ∷ ((0, 0) ∷ (2, 2) ∷ []) ∷ []) ∷ committee_test c.weights units (Correct (dg (0 ∷ 0 ∷ 0 ∷ 0 ∷ [])) ∷ Correct (dg (0 ∷ 1 ∷ 0 ∷ 0 ∷ [])) ∷ Correct (dg (0 ∷ 2 ∷ 0 ∷ 0 ∷ [])) ∷ []) (record { digest = dg (3 ∷ 2 ∷ 0 ∷ 0 ∷ []); unit = record { instance = dg (0 ∷ 0 ∷ 0 ∷ 0 ∷ []); creator = 2; seq = 1; time = 8; exponent = 2; panorama = (Absent ∷ Absent ∷ Correct (dg (1 ∷ 2 ∷ 0 ∷ 0 ∷ [])) ∷ []); value = Some ((120 ∷ [])); endorsed = [] } }) 1 1 (((0, 0) ∷ (1, 0) ∷ (2, 0) ∷ []) ∷ ((0, 0) ∷ (1, 0) ∷ (2, 1) ∷ []) ∷ []) ∷ committee_test c.weights units (Correct (dg (0 ∷ 0 ∷ 0 ∷ 0 ∷ [])) ∷ Correct (dg (0 ∷ 1 ∷ 0 ∷ 0 ∷ [])) ∷ Correct (dg (0 ∷ 2 ∷ 0 ∷ 0 ∷ [])) ∷ []) (record { digest = dg (3 ∷ 2 ∷ 0 ∷ 0 ∷ []); unit = record { instance = dg (0 ∷ 0 ∷ 0 ∷ 0 ∷ []); creator = 2; seq = 1; time = 8; exponent = 2; panorama = (Absent ∷ Absent ∷ Correct (dg (1 ∷ 2 ∷ 0 ∷ 0 ∷ [])) ∷ []); value = Some ((120 ∷ [])); endorsed = [] } }) 1 1 (((1, 0) ∷ []) ∷ ((1, 0) ∷ []) ∷ []) ∷ committee_test c.weights units (Absent ∷ Absent ∷ Correct (dg (1 ∷ 2 ∷ 0 ∷ 0 ∷ [])) ∷ []) (record { digest = dg (1 ∷ 2 ∷ 0 ∷ 0 ∷ []); unit = record { instance = dg (0 ∷ 0 ∷ 0 ∷ 0 ∷ []); creator = 2; seq = 0; time = 4; exponent = 2; panorama = (Absent ∷ Absent ∷ Absent ∷ []); value = Some ((120 ∷ [])); endorsed = [] } }) 1 2 (((2, 0) ∷ []) ∷ ((2, 0) ∷ []) ∷ []) ∷ committee_test c.weights units (Absent ∷ Absent ∷ Correct (dg (1 ∷ 2 ∷ 0 ∷ 0 ∷ [])) ∷ []) (record { digest = dg (1 ∷ 2 ∷ 0 ∷ 0 ∷ []); unit = record { instance = dg (0 ∷ 0 ∷ 0 ∷ 0 ∷ []); creator = 2; seq = 0; time = 4; exponent = 2; panorama = (Absent ∷ Absent ∷ Absent ∷ []); value = Some ((120 ∷ [])); endorsed = [] } }) 1 2 (((2, 0) ∷ []) ∷ ((2, 0) ∷ []) ∷ []) ∷ committee_test c.weights units (Absent ∷ Absent ∷ Correct (dg (1 ∷ 2 ∷ 0 ∷ 0 ∷ [])) ∷ []) (record { digest = dg (3 ∷ 2 ∷ 0 ∷ 0 ∷ []); unit = record { instance = dg (0 ∷ 0 ∷ 0 ∷ 0 ∷ []); creator = 2; seq = 1; time = 8; exponent = 2; panorama = (Absent ∷ Absent ∷ Correct (dg (1 ∷ 2 ∷ 0 ∷ 0 ∷ [])) ∷ []); value = Some ((120 ∷ [])); endorsed = [] } }) 1 1 (((2, 0) ∷ []) ∷ [] ∷ []) ∷ committee_test c.weights units (Absent ∷ Absent ∷ Correct (dg (1 ∷ 2 ∷ 0 ∷ 0 ∷ [])) ∷ []) (record { digest = dg (3 ∷ 2 ∷ 0 ∷ 0 ∷ []); unit = record { instance = dg (0 ∷ 0 ∷ 0 ∷ 0 ∷ []); creator = 2; seq = 1; time = 8; exponent = 2; panorama = (Absent ∷ Absent ∷ Correct (dg (1 ∷ 2 ∷ 0 ∷ 0 ∷ [])) ∷ []); value = Some ((120 ∷ [])); endorsed = [] } }) 1 1 ([] ∷ [] ∷ []) ∷ []) ≡ (false ∷ false ∷ true ∷ false ∷ false ∷ false ∷ false ∷ false ∷ false ∷ false ∷ false ∷ [])
