-- A random journal of rounds in which nearly all validators cite nearly all others.
-- The values are those of a second reading of the definitions, written apart from them; the two agree.
use Rattle.std.specs.Prelude.{◌≡◌, true, false, List, [], ◌∷◌, map, Option, Some, None, Ok}
use Rattle.hw_types.specs.declared.unit.Obs.TheVariants.{Absent, Correct}
use Rattle.hw_types.specs.declared.unit.WireUnit.{WireUnit}
use Rattle.hw_types.specs.declared.unit.Vertex.{Vertex}
use Rattle.hw_types.specs.declared.config.Config.{Config}
use Rattle.hw_types.specs.declared.answers.Plan.{Plan}
use Rattle.hw_types.specs.declared.answers.PlanKind.TheVariants as kind
use Rattle.hw_types.specs.declared.config.Leaders.TheVariants.{Table}
use Rattle.hw_types.specs.declared.answers.Receipt.TheVariants as receipt
use Rattle.hw_types.specs.Graph.{Node, past}
use Rattle.hw_types.specs.Rules.{state_rule, has_naive_fork}
use Rattle.hw_types.specs.Settled.{Received, settled_of, parked_of, dropped_of, missing_of, panorama_of, faulty_weight, fork_choice}
use Rattle.hw_types.specs.Journal.{Setting, received_of, journal_of, answers_from}
use Rattle.hw_types.specs.Step.{step}
use Rattle.hw_samples.specs.Words.{names_of, name_of}
use Rattle.hw_samples.specs.JournalWords.{dg, sent_as, mixed, named_by, votes_in, parents_in, committee_test}

abbrev c : Config
c = record { weights = (1 ∷ 1 ∷ 1 ∷ []); ftt = 0; levels = 2; min_exponent = 2; max_exponent = 4; leaders = Table (0 ∷ 1 ∷ []); max_records = 131072; max_parked = 4096; end = None }

abbrev s : Setting
s = named_by mixed c

abbrev u0 : WireUnit
u0 = record { instance = dg (0 ∷ 0 ∷ 0 ∷ 0 ∷ []); creator = 0; seq = 0; time = 8; exponent = 2; panorama = (Absent ∷ Absent ∷ Absent ∷ []); value = Some ((120 ∷ [])); endorsed = [] }

abbrev u1 : WireUnit
u1 = record { instance = dg (0 ∷ 0 ∷ 0 ∷ 0 ∷ []); creator = 1; seq = 0; time = 9; exponent = 2; panorama = (Correct (dg (40 ∷ 0 ∷ 0 ∷ 8 ∷ [])) ∷ Absent ∷ Absent ∷ []); value = None; endorsed = [] }

abbrev u2 : WireUnit
u2 = record { instance = dg (0 ∷ 0 ∷ 0 ∷ 0 ∷ []); creator = 2; seq = 0; time = 9; exponent = 2; panorama = (Correct (dg (40 ∷ 0 ∷ 0 ∷ 8 ∷ [])) ∷ Absent ∷ Absent ∷ []); value = None; endorsed = [] }

abbrev u3 : WireUnit
u3 = record { instance = dg (0 ∷ 0 ∷ 0 ∷ 0 ∷ []); creator = 0; seq = 1; time = 12; exponent = 2; panorama = (Correct (dg (40 ∷ 0 ∷ 0 ∷ 8 ∷ [])) ∷ Correct (dg (18 ∷ 1 ∷ 0 ∷ 9 ∷ [])) ∷ Correct (dg (25 ∷ 2 ∷ 0 ∷ 9 ∷ [])) ∷ []); value = None; endorsed = [] }

abbrev u4 : WireUnit
u4 = record { instance = dg (0 ∷ 0 ∷ 0 ∷ 0 ∷ []); creator = 1; seq = 1; time = 12; exponent = 2; panorama = (Correct (dg (40 ∷ 0 ∷ 0 ∷ 8 ∷ [])) ∷ Correct (dg (18 ∷ 1 ∷ 0 ∷ 9 ∷ [])) ∷ Correct (dg (25 ∷ 2 ∷ 0 ∷ 9 ∷ [])) ∷ []); value = None; endorsed = [] }

abbrev u5 : WireUnit
u5 = record { instance = dg (0 ∷ 0 ∷ 0 ∷ 0 ∷ []); creator = 2; seq = 1; time = 12; exponent = 2; panorama = (Correct (dg (40 ∷ 0 ∷ 0 ∷ 8 ∷ [])) ∷ Correct (dg (18 ∷ 1 ∷ 0 ∷ 9 ∷ [])) ∷ Correct (dg (25 ∷ 2 ∷ 0 ∷ 9 ∷ [])) ∷ []); value = None; endorsed = [] }

abbrev j_shuffled : List Vertex
j_shuffled = (sent_as (1 ∷ []) u2 ∷ sent_as [] u3 ∷ sent_as [] u5 ∷ sent_as [] u0 ∷ sent_as (1 ∷ []) u4 ∷ sent_as (1 ∷ []) u1 ∷ [])

abbrev j : List Vertex
j = (sent_as [] u0 ∷ sent_as (1 ∷ []) u1 ∷ sent_as (1 ∷ []) u2 ∷ sent_as [] u3 ∷ sent_as (1 ∷ []) u4 ∷ sent_as [] u5 ∷ [])

abbrev k : Received
k = received_of s j

abbrev units : List Node
units = (record { digest = dg (18 ∷ 1 ∷ 0 ∷ 9 ∷ []); unit = u1 } ∷ record { digest = dg (25 ∷ 2 ∷ 0 ∷ 9 ∷ []); unit = u2 } ∷ record { digest = dg (40 ∷ 0 ∷ 0 ∷ 8 ∷ []); unit = u0 } ∷ record { digest = dg (49 ∷ 0 ∷ 1 ∷ 12 ∷ []); unit = u3 } ∷ record { digest = dg (56 ∷ 1 ∷ 1 ∷ 12 ∷ []); unit = u4 } ∷ record { digest = dg (63 ∷ 2 ∷ 1 ∷ 12 ∷ []); unit = u5 } ∷ [])

abbrev plans : List (Option Plan)
plans = (Some (record { kind = kind.Witness; unit = record { instance = dg (0 ∷ 0 ∷ 0 ∷ 0 ∷ []); creator = 0; seq = 2; time = 15; exponent = 2; panorama = (Correct (dg (49 ∷ 0 ∷ 1 ∷ 12 ∷ [])) ∷ Correct (dg (56 ∷ 1 ∷ 1 ∷ 12 ∷ [])) ∷ Correct (dg (63 ∷ 2 ∷ 1 ∷ 12 ∷ [])) ∷ []); value = None; endorsed = [] } }) ∷ Some (record { kind = kind.Witness; unit = record { instance = dg (0 ∷ 0 ∷ 0 ∷ 0 ∷ []); creator = 0; seq = 2; time = 18; exponent = 2; panorama = (Correct (dg (49 ∷ 0 ∷ 1 ∷ 12 ∷ [])) ∷ Correct (dg (56 ∷ 1 ∷ 1 ∷ 12 ∷ [])) ∷ Correct (dg (63 ∷ 2 ∷ 1 ∷ 12 ∷ [])) ∷ []); value = None; endorsed = [] } }) ∷ None ∷ None ∷ Some (record { kind = kind.Witness; unit = record { instance = dg (0 ∷ 0 ∷ 0 ∷ 0 ∷ []); creator = 2; seq = 2; time = 15; exponent = 2; panorama = (Correct (dg (49 ∷ 0 ∷ 1 ∷ 12 ∷ [])) ∷ Correct (dg (56 ∷ 1 ∷ 1 ∷ 12 ∷ [])) ∷ Correct (dg (63 ∷ 2 ∷ 1 ∷ 12 ∷ [])) ∷ []); value = None; endorsed = [] } }) ∷ None ∷ [])

pub record RandomRounds1 : Type 0 where
  pub answers : answers_from s [] ((sent_as [] u0, true) ∷ (sent_as (1 ∷ []) u1, true) ∷ (sent_as (1 ∷ []) u2, true) ∷ (sent_as [] u3, true) ∷ (sent_as (1 ∷ []) u4, true) ∷ (sent_as (5 ∷ []) u4, true) ∷ (sent_as [] u5, true) ∷ []) ≡ ((Ok (receipt.Admitted 1) ∷ Ok (receipt.Admitted 1) ∷ Ok (receipt.Admitted 1) ∷ Ok (receipt.Admitted 1) ∷ Ok (receipt.Admitted 1) ∷ Ok receipt.Repeat ∷ Ok (receipt.Admitted 1) ∷ []))
  pub order : received_of s j_shuffled ≡ k
  pub kept : journal_of s ((sent_as [] u0, true) ∷ (sent_as (1 ∷ []) u1, true) ∷ (sent_as (1 ∷ []) u2, true) ∷ (sent_as [] u3, true) ∷ (sent_as (1 ∷ []) u4, true) ∷ (sent_as (5 ∷ []) u4, true) ∷ (sent_as [] u5, true) ∷ []) ≡ j
  pub settled : settled_of c k ≡ units
  pub parked : names_of (parked_of c k) ≡ []
  pub dropped : names_of (dropped_of c k) ≡ []
  pub panorama : panorama_of c k ≡ (Correct (dg (49 ∷ 0 ∷ 1 ∷ 12 ∷ [])) ∷ Correct (dg (56 ∷ 1 ∷ 1 ∷ 12 ∷ [])) ∷ Correct (dg (63 ∷ 2 ∷ 1 ∷ 12 ∷ [])) ∷ [])
  pub weight : faulty_weight c k ≡ 0
  pub fork : name_of (fork_choice c k) ≡ Some (dg (40 ∷ 0 ∷ 0 ∷ 8 ∷ []))
  pub votes : votes_in c units ≡ (Some (dg (40 ∷ 0 ∷ 0 ∷ 8 ∷ [])) ∷ Some (dg (40 ∷ 0 ∷ 0 ∷ 8 ∷ [])) ∷ Some (dg (40 ∷ 0 ∷ 0 ∷ 8 ∷ [])) ∷ Some (dg (40 ∷ 0 ∷ 0 ∷ 8 ∷ [])) ∷ Some (dg (40 ∷ 0 ∷ 0 ∷ 8 ∷ [])) ∷ Some (dg (40 ∷ 0 ∷ 0 ∷ 8 ∷ [])) ∷ [])
  pub heights : parents_in c units ≡ ((None, 0) ∷ [])
  pub missing : map (missing_of c k units) (record { digest = dg (18 ∷ 1 ∷ 0 ∷ 9 ∷ []); unit = u1 } ∷ record { digest = dg (25 ∷ 2 ∷ 0 ∷ 9 ∷ []); unit = u2 } ∷ record { digest = dg (40 ∷ 0 ∷ 0 ∷ 8 ∷ []); unit = u0 } ∷ record { digest = dg (49 ∷ 0 ∷ 1 ∷ 12 ∷ []); unit = u3 } ∷ record { digest = dg (56 ∷ 1 ∷ 1 ∷ 12 ∷ []); unit = u4 } ∷ record { digest = dg (63 ∷ 2 ∷ 1 ∷ 12 ∷ []); unit = u5 } ∷ []) ≡ (([] ∷ [] ∷ [] ∷ [] ∷ [] ∷ [] ∷ []))
  pub rules : map (state_rule c units) (record { digest = dg (18 ∷ 1 ∷ 0 ∷ 9 ∷ []); unit = u1 } ∷ record { digest = dg (25 ∷ 2 ∷ 0 ∷ 9 ∷ []); unit = u2 } ∷ record { digest = dg (40 ∷ 0 ∷ 0 ∷ 8 ∷ []); unit = u0 } ∷ record { digest = dg (49 ∷ 0 ∷ 1 ∷ 12 ∷ []); unit = u3 } ∷ record { digest = dg (56 ∷ 1 ∷ 1 ∷ 12 ∷ []); unit = u4 } ∷ record { digest = dg (63 ∷ 2 ∷ 1 ∷ 12 ∷ []); unit = u5 } ∷ []) ≡ (None ∷ None ∷ None ∷ None ∷ None ∷ None ∷ [])
  pub naive : (has_naive_fork (past units (Correct (dg (49 ∷ 0 ∷ 1 ∷ 12 ∷ [])) ∷ Correct (dg (18 ∷ 1 ∷ 0 ∷ 9 ∷ [])) ∷ Correct (dg (63 ∷ 2 ∷ 1 ∷ 12 ∷ [])) ∷ [])) (dg (18 ∷ 1 ∷ 0 ∷ 9 ∷ []) ∷ dg (49 ∷ 0 ∷ 1 ∷ 12 ∷ []) ∷ []) ∷ has_naive_fork (past units (Correct (dg (49 ∷ 0 ∷ 1 ∷ 12 ∷ [])) ∷ Correct (dg (18 ∷ 1 ∷ 0 ∷ 9 ∷ [])) ∷ Correct (dg (63 ∷ 2 ∷ 1 ∷ 12 ∷ [])) ∷ [])) [] ∷ has_naive_fork (past units (Correct (dg (40 ∷ 0 ∷ 0 ∷ 8 ∷ [])) ∷ Correct (dg (56 ∷ 1 ∷ 1 ∷ 12 ∷ [])) ∷ Correct (dg (25 ∷ 2 ∷ 0 ∷ 9 ∷ [])) ∷ [])) (dg (18 ∷ 1 ∷ 0 ∷ 9 ∷ []) ∷ []) ∷ has_naive_fork (past units (Correct (dg (49 ∷ 0 ∷ 1 ∷ 12 ∷ [])) ∷ Correct (dg (18 ∷ 1 ∷ 0 ∷ 9 ∷ [])) ∷ Correct (dg (25 ∷ 2 ∷ 0 ∷ 9 ∷ [])) ∷ [])) [] ∷ []) ≡ (false ∷ false ∷ false ∷ false ∷ [])
  pub steps : (step s k 0 15 (118 ∷ []) ∷ step s k 0 18 (118 ∷ []) ∷ step s k 1 10 (118 ∷ []) ∷ step s k 1 13 (118 ∷ []) ∷ step s k 2 15 (118 ∷ []) ∷ step s k 2 12 (118 ∷ []) ∷ []) ≡ plans
  pub summits : (committee_test c.weights units (Correct (dg (49 ∷ 0 ∷ 1 ∷ 12 ∷ [])) ∷ Correct (dg (56 ∷ 1 ∷ 1 ∷ 12 ∷ [])) ∷ Correct (dg (63 ∷ 2 ∷ 1 ∷ 12 ∷ [])) ∷ []) (record { digest = dg (40 ∷ 0 ∷ 0 ∷ 8 ∷ []); unit = record { instance = dg (0 ∷ 0 ∷ 0 ∷ 0 ∷ []); creator = 0; seq = 0; time = 8; exponent = 2; panorama = (Absent ∷ Absent ∷ Absent ∷ []); value = Some ((120 ∷ [])); endorsed = [] } }) 1 2 (((0, 0) ∷ (1, 0) ∷ (2, 0) ∷ []) ∷ ((0, 1) ∷ (1, 1) ∷ (2, 1) ∷ []) ∷ []) ∷ committee_test c.weights units (Correct (dg (49 ∷ 0 ∷ 1 ∷ 12 ∷ [])) ∷ Correct (dg (56 ∷ 1 ∷ 1 ∷ 12 ∷ [])) ∷ Correct (dg (63 ∷ 2 ∷ 1 ∷ 12 ∷ [])) ∷ []) (record { digest = dg (40 ∷ 0 ∷ 0 ∷ 8 ∷ []); unit = record { instance = dg (0 ∷ 0 ∷ 0 ∷ 0 ∷ []); creator = 0; seq = 0; time = 8; exponent = 2; panorama = (Absent ∷ Absent ∷ Absent ∷ []); value = Some ((120 ∷ [])); endorsed = [] } }) 1 2 (((0, 0) ∷ (1, 0) ∷ (2, 0) ∷ []) ∷ ((0, 1) ∷ (1, 1) ∷ (2, 2) ∷ []) ∷ []) ∷ committee_test c.weights units (Correct (dg (49 ∷ 0 ∷ 1 ∷ 12 ∷ [])) ∷ Correct (dg (56 ∷ 1 ∷ 1 ∷ 12 ∷ [])) ∷ Correct (dg (63 ∷ 2 ∷ 1 ∷ 12 ∷ [])) ∷ []) (record { digest = dg (40 ∷ 0 ∷ 0 ∷ 8 ∷ []); unit = record { instance = dg (0 ∷ 0 ∷ 0 ∷ 0 ∷ []); creator = 0; seq = 0; time = 8; exponent = 2; panorama = (Absent ∷ Absent ∷ Absent ∷ []); value = Some ((120 ∷ [])); endorsed = [] } }) 1 2 (((0, 0) ∷ (1, 0) ∷ (2, 1) ∷ []) ∷ ((0, 1) ∷ (1, 1) ∷ (2, 1) ∷ []) ∷ []) ∷ committee_test c.weights units (Correct (dg (49 ∷ 0 ∷ 1 ∷ 12 ∷ [])) ∷ Correct (dg (56 ∷ 1 ∷ 1 ∷ 12 ∷ [])) ∷ Correct (dg (63 ∷ 2 ∷ 1 ∷ 12 ∷ [])) ∷ []) (record { digest = dg (40 ∷ 0 ∷ 0 ∷ 8 ∷ []); unit = record { instance = dg (0 ∷ 0 ∷ 0 ∷ 0 ∷ []); creator = 0; seq = 0; time = 8; exponent = 2; panorama = (Absent ∷ Absent ∷ Absent ∷ []); value = Some ((120 ∷ [])); endorsed = [] } }) 1 2 (((1, 0) ∷ (2, 0) ∷ []) ∷ ((1, 1) ∷ (2, 0) ∷ []) ∷ []) ∷ committee_test c.weights units (Correct (dg (49 ∷ 0 ∷ 1 ∷ 12 ∷ [])) ∷ Correct (dg (56 ∷ 1 ∷ 1 ∷ 12 ∷ [])) ∷ Correct (dg (63 ∷ 2 ∷ 1 ∷ 12 ∷ [])) ∷ []) (record { digest = dg (40 ∷ 0 ∷ 0 ∷ 8 ∷ []); unit = record { instance = dg (0 ∷ 0 ∷ 0 ∷ 0 ∷ []); creator = 0; seq = 0; time = 8; exponent = 2; panorama = (Absent ∷ Absent ∷ Absent ∷ []); value = Some ((120 ∷ [])); endorsed = [] } }) 1 2 (((0, 0) ∷ (1, 1) ∷ (2, 0) ∷ []) ∷ ((0, 0) ∷ (1, 1) ∷ (2, 1) ∷ []) ∷ []) ∷ committee_test c.weights units (Correct (dg (49 ∷ 0 ∷ 1 ∷ 12 ∷ [])) ∷ Correct (dg (56 ∷ 1 ∷ 1 ∷ 12 ∷ [])) ∷ Correct (dg (63 ∷ 2 ∷ 1 ∷ 12 ∷ [])) ∷ []) (record { digest = dg (40 ∷ 0 ∷ 0 ∷ 8 ∷ []); unit = record { instance = dg (0 ∷ 0 ∷ 0 ∷ 0 ∷ []); creator = 0; seq = 0; time = 8; exponent = 2; panorama = (Absent ∷ Absent ∷ Absent ∷ []); value = Some ((120 ∷ [])); endorsed = [] } }) 2 2 (((0, 0) ∷ (1, 0) ∷ (2, 1) ∷ []) ∷ ((0, 0) ∷ (1, 1) ∷ (2, 1) ∷ []) ∷ ((0, 0) ∷ (1, 1) ∷ (2, 1) ∷ []) ∷ []) ∷ committee_test c.weights units (Correct (dg (49 ∷ 0 ∷ 1 ∷ 12 ∷ [])) ∷ Correct (dg (56 ∷ 1 ∷ 1 ∷ 12 ∷ [])) ∷ Correct (dg (63 ∷ 2 ∷ 1 ∷ 12 ∷ [])) ∷ []) (record { digest = dg (40 ∷ 0 ∷ 0 ∷ 8 ∷ []); unit = record { instance = dg (0 ∷ 0 ∷ 0 ∷ 0 ∷ []); creator = 0; seq = 0; time = 8; exponent = 2; panorama = (Absent ∷ Absent ∷ Absent ∷ []); value = Some ((120 ∷ [])); endorsed = [] } }) 2 2 (((0, 0) ∷ (1, 1) ∷ (2, 0) ∷ []) ∷ ((0, 1) ∷ (1, 1) ∷ []) ∷ ((0, 1) ∷ (1, 1) ∷ []) ∷ []) ∷ committee_test c.weights units (Correct (dg (40 ∷ 0 ∷ 0 ∷ 8 ∷ [])) ∷ Correct (dg (18 ∷ 1 ∷ 0 ∷ 9 ∷ [])) ∷ Correct (dg (25 ∷ 2 ∷ 0 ∷ 9 ∷ [])) ∷ []) (record { digest = dg (40 ∷ 0 ∷ 0 ∷ 8 ∷ []); unit = record { instance = dg (0 ∷ 0 ∷ 0 ∷ 0 ∷ []); creator = 0; seq = 0; time = 8; exponent = 2; panorama = (Absent ∷ Absent ∷ Absent ∷ []); value = Some ((120 ∷ [])); endorsed = [] } }) 1 1 (((2, 0) ∷ []) ∷ ((2, 0) ∷ []) ∷ []) ∷ committee_test c.weights units (Correct (dg (40 ∷ 0 ∷ 0 ∷ 8 ∷ [])) ∷ Correct (dg (18 ∷ 1 ∷ 0 ∷ 9 ∷ [])) ∷ Correct (dg (25 ∷ 2 ∷ 0 ∷ 9 ∷ [])) ∷ []) (record { digest = dg (40 ∷ 0 ∷ 0 ∷ 8 ∷ []); unit = record { instance = dg (0 ∷ 0 ∷ 0 ∷ 0 ∷ []); creator = 0; seq = 0; time = 8; exponent = 2; panorama = (Absent ∷ Absent ∷ Absent ∷ []); value = Some ((120 ∷ [])); endorsed = [] } }) 1 1 (((0, 0) ∷ (1, 0) ∷ (2, 0) ∷ []) ∷ ((1, 0) ∷ (2, 0) ∷ []) ∷ []) ∷ committee_test c.weights units (Correct (dg (40 ∷ 0 ∷ 0 ∷ 8 ∷ [])) ∷ Correct (dg (18 ∷ 1 ∷ 0 ∷ 9 ∷ [])) ∷ Correct (dg (25 ∷ 2 ∷ 0 ∷ 9 ∷ [])) ∷ []) (record { digest = dg (40 ∷ 0 ∷ 0 ∷ 8 ∷ []); unit = record { instance = dg (0 ∷ 0 ∷ 0 ∷ 0 ∷ []); creator = 0; seq = 0; time = 8; exponent = 2; panorama = (Absent ∷ Absent ∷ Absent ∷ []); value = Some ((120 ∷ [])); endorsed = [] } }) 2 2 (((0, 0) ∷ (1, 0) ∷ (2, 0) ∷ []) ∷ ((0, 0) ∷ (1, 0) ∷ (2, 0) ∷ []) ∷ ((0, 0) ∷ (1, 0) ∷ (2, 0) ∷ []) ∷ []) ∷ committee_test c.weights units (Correct (dg (40 ∷ 0 ∷ 0 ∷ 8 ∷ [])) ∷ Correct (dg (18 ∷ 1 ∷ 0 ∷ 9 ∷ [])) ∷ Correct (dg (25 ∷ 2 ∷ 0 ∷ 9 ∷ [])) ∷ []) (record { digest = dg (40 ∷ 0 ∷ 0 ∷ 8 ∷ []); unit = record { instance = dg (0 ∷ 0 ∷ 0 ∷ 0 ∷ []); creator = 0; seq = 0; time = 8; exponent = 2; panorama = (Absent ∷ Absent ∷ Absent ∷ []); value = Some ((120 ∷ [])); endorsed = [] } }) 2 2 (((0, 0) ∷ (1, 0) ∷ (2, 0) ∷ []) ∷ ((0, 0) ∷ (1, 0) ∷ (2, 0) ∷ []) ∷ ((0, 0) ∷ (1, 0) ∷ (2, 0) ∷ []) ∷ []) ∷ []) ≡ (true ∷ false ∷ true ∷ false ∷ false ∷ false ∷ false ∷ false ∷ false ∷ false ∷ false ∷ [])
