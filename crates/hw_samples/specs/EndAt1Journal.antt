-- The same blocks, where the last height is 1: the third is dropped.
-- The values are those of a second reading of the definitions, written apart from them; the two agree.
use Rattle.std.specs.Prelude.{◌≡◌, true, false, List, [], ◌∷◌, map, Option, Some, None, Ok}
use Rattle.hw_types.specs.declared.unit.Obs.TheVariants.{Absent, Correct, Faulty}
use Rattle.hw_types.specs.declared.unit.WireUnit.{WireUnit}
use Rattle.hw_types.specs.declared.unit.Vertex.{Vertex}
use Rattle.hw_types.specs.declared.config.Config.{Config}
use Rattle.hw_types.specs.declared.answers.Plan.{Plan}
use Rattle.hw_types.specs.declared.answers.PlanKind.TheVariants as kind
use Rattle.hw_types.specs.declared.config.Leaders.TheVariants.{Table}
use Rattle.hw_types.specs.declared.answers.Rule.TheVariants as rule
use Rattle.hw_types.specs.declared.answers.Receipt.TheVariants as receipt
use Rattle.hw_types.specs.Graph.{Node, past}
use Rattle.hw_types.specs.Rules.{state_rule, has_naive_fork}
use Rattle.hw_types.specs.Settled.{Received, settled_of, parked_of, dropped_of, missing_of, panorama_of, faulty_weight, fork_choice}
use Rattle.hw_types.specs.Journal.{Setting, received_of, journal_of, answers_from}
use Rattle.hw_types.specs.Step.{step}
use Rattle.hw_types.specs.Culprits.{culprits_of}
use Rattle.hw_samples.specs.Words.{names_of, name_of}
use Rattle.hw_samples.specs.JournalWords.{dg, sent_as, mixed, named_by, votes_in, parents_in, committee_test}

abbrev c : Config
c = record { weights = (1 ∷ 1 ∷ 1 ∷ []); ftt = 0; levels = 2; min_exponent = 2; max_exponent = 4; leaders = Table (0 ∷ []); max_records = 131072; max_parked = 4096; end = Some (1) }

abbrev s : Setting
s = named_by mixed c

abbrev u0 : WireUnit
u0 = record { instance = dg (0 ∷ 0 ∷ 0 ∷ 0 ∷ []); creator = 0; seq = 0; time = 8; exponent = 2; panorama = (Absent ∷ Absent ∷ Absent ∷ []); value = Some ((120 ∷ [])); endorsed = [] }

abbrev u1 : WireUnit
u1 = record { instance = dg (0 ∷ 0 ∷ 0 ∷ 0 ∷ []); creator = 0; seq = 1; time = 12; exponent = 2; panorama = (Correct (dg (40 ∷ 0 ∷ 0 ∷ 8 ∷ [])) ∷ Absent ∷ Absent ∷ []); value = Some ((121 ∷ [])); endorsed = [] }

abbrev u2 : WireUnit
u2 = record { instance = dg (0 ∷ 0 ∷ 0 ∷ 0 ∷ []); creator = 0; seq = 2; time = 16; exponent = 2; panorama = (Correct (dg (90 ∷ 0 ∷ 1 ∷ 12 ∷ [])) ∷ Absent ∷ Absent ∷ []); value = Some ((119 ∷ [])); endorsed = [] }

abbrev u3 : WireUnit
u3 = record { instance = dg (0 ∷ 0 ∷ 0 ∷ 0 ∷ []); creator = 1; seq = 0; time = 13; exponent = 2; panorama = (Correct (dg (90 ∷ 0 ∷ 1 ∷ 12 ∷ [])) ∷ Absent ∷ Absent ∷ []); value = None; endorsed = [] }

abbrev j_shuffled : List Vertex
j_shuffled = (sent_as [] u3 ∷ sent_as [] u1 ∷ sent_as [] u2 ∷ sent_as [] u0 ∷ [])

abbrev j : List Vertex
j = (sent_as [] u0 ∷ sent_as [] u1 ∷ sent_as [] u2 ∷ sent_as [] u3 ∷ [])

abbrev k : Received
k = received_of s j

abbrev units : List Node
units = (record { digest = dg (40 ∷ 0 ∷ 0 ∷ 8 ∷ []); unit = u0 } ∷ record { digest = dg (62 ∷ 1 ∷ 0 ∷ 13 ∷ []); unit = u3 } ∷ record { digest = dg (90 ∷ 0 ∷ 1 ∷ 12 ∷ []); unit = u1 } ∷ [])

abbrev plans : List (Option Plan)
plans = (Some (record { kind = kind.Witness; unit = record { instance = dg (0 ∷ 0 ∷ 0 ∷ 0 ∷ []); creator = 0; seq = 2; time = 15; exponent = 2; panorama = (Correct (dg (90 ∷ 0 ∷ 1 ∷ 12 ∷ [])) ∷ Correct (dg (62 ∷ 1 ∷ 0 ∷ 13 ∷ [])) ∷ Absent ∷ []); value = None; endorsed = [] } }) ∷ Some (record { kind = kind.Witness; unit = record { instance = dg (0 ∷ 0 ∷ 0 ∷ 0 ∷ []); creator = 0; seq = 2; time = 18; exponent = 2; panorama = (Correct (dg (90 ∷ 0 ∷ 1 ∷ 12 ∷ [])) ∷ Correct (dg (62 ∷ 1 ∷ 0 ∷ 13 ∷ [])) ∷ Absent ∷ []); value = None; endorsed = [] } }) ∷ None ∷ None ∷ None ∷ Some (record { kind = kind.Witness; unit = record { instance = dg (0 ∷ 0 ∷ 0 ∷ 0 ∷ []); creator = 2; seq = 0; time = 19; exponent = 2; panorama = (Correct (dg (90 ∷ 0 ∷ 1 ∷ 12 ∷ [])) ∷ Correct (dg (62 ∷ 1 ∷ 0 ∷ 13 ∷ [])) ∷ Absent ∷ []); value = None; endorsed = [] } }) ∷ [])

abbrev j2 : List Vertex
j2 = (sent_as [] u1 ∷ sent_as [] u0 ∷ sent_as [] u3 ∷ sent_as [] u2 ∷ [])

pub record EndAt1Journal : Type 0 where
  pub answers : answers_from s [] ((sent_as [] u0, true) ∷ (sent_as [] u1, true) ∷ (sent_as [] u2, true) ∷ (sent_as [] u3, true) ∷ []) ≡ ((Ok (receipt.Admitted 1) ∷ Ok (receipt.Admitted 1) ∷ Ok (receipt.Dropped rule.AfterTerminal) ∷ Ok (receipt.Admitted 1) ∷ []))
  pub order : received_of s j_shuffled ≡ k
  pub kept : journal_of s ((sent_as [] u0, true) ∷ (sent_as [] u1, true) ∷ (sent_as [] u2, true) ∷ (sent_as [] u3, true) ∷ []) ≡ j
  pub settled : settled_of c k ≡ units
  pub parked : names_of (parked_of c k) ≡ []
  pub dropped : names_of (dropped_of c k) ≡ (dg (40 ∷ 0 ∷ 2 ∷ 16 ∷ []) ∷ [])
  pub panorama : panorama_of c k ≡ (Correct (dg (90 ∷ 0 ∷ 1 ∷ 12 ∷ [])) ∷ Correct (dg (62 ∷ 1 ∷ 0 ∷ 13 ∷ [])) ∷ Absent ∷ [])
  pub weight : faulty_weight c k ≡ 0
  pub fork : name_of (fork_choice c k) ≡ Some (dg (90 ∷ 0 ∷ 1 ∷ 12 ∷ []))
  pub votes : votes_in c units ≡ (Some (dg (40 ∷ 0 ∷ 0 ∷ 8 ∷ [])) ∷ Some (dg (90 ∷ 0 ∷ 1 ∷ 12 ∷ [])) ∷ Some (dg (90 ∷ 0 ∷ 1 ∷ 12 ∷ [])) ∷ [])
  pub heights : parents_in c units ≡ ((None, 0) ∷ (Some (dg (40 ∷ 0 ∷ 0 ∷ 8 ∷ [])), 1) ∷ [])
  pub missing : map (missing_of c k units) (record { digest = dg (40 ∷ 0 ∷ 0 ∷ 8 ∷ []); unit = u0 } ∷ record { digest = dg (40 ∷ 0 ∷ 2 ∷ 16 ∷ []); unit = u2 } ∷ record { digest = dg (62 ∷ 1 ∷ 0 ∷ 13 ∷ []); unit = u3 } ∷ record { digest = dg (90 ∷ 0 ∷ 1 ∷ 12 ∷ []); unit = u1 } ∷ []) ≡ (([] ∷ [] ∷ [] ∷ [] ∷ []))
  pub rules : map (state_rule c units) (record { digest = dg (40 ∷ 0 ∷ 0 ∷ 8 ∷ []); unit = u0 } ∷ record { digest = dg (40 ∷ 0 ∷ 2 ∷ 16 ∷ []); unit = u2 } ∷ record { digest = dg (62 ∷ 1 ∷ 0 ∷ 13 ∷ []); unit = u3 } ∷ record { digest = dg (90 ∷ 0 ∷ 1 ∷ 12 ∷ []); unit = u1 } ∷ []) ≡ (None ∷ Some (rule.AfterTerminal) ∷ None ∷ None ∷ [])
  pub naive : (has_naive_fork (past units (Correct (dg (90 ∷ 0 ∷ 1 ∷ 12 ∷ [])) ∷ Correct (dg (62 ∷ 1 ∷ 0 ∷ 13 ∷ [])) ∷ Faulty ∷ [])) (dg (40 ∷ 0 ∷ 0 ∷ 8 ∷ []) ∷ dg (62 ∷ 1 ∷ 0 ∷ 13 ∷ []) ∷ []) ∷ has_naive_fork (past units (Correct (dg (90 ∷ 0 ∷ 1 ∷ 12 ∷ [])) ∷ Correct (dg (62 ∷ 1 ∷ 0 ∷ 13 ∷ [])) ∷ Absent ∷ [])) [] ∷ has_naive_fork (past units (Correct (dg (90 ∷ 0 ∷ 1 ∷ 12 ∷ [])) ∷ Faulty ∷ Faulty ∷ [])) (dg (90 ∷ 0 ∷ 1 ∷ 12 ∷ []) ∷ []) ∷ has_naive_fork (past units (Correct (dg (90 ∷ 0 ∷ 1 ∷ 12 ∷ [])) ∷ Absent ∷ Absent ∷ [])) (dg (40 ∷ 0 ∷ 0 ∷ 8 ∷ []) ∷ dg (90 ∷ 0 ∷ 1 ∷ 12 ∷ []) ∷ []) ∷ []) ≡ (false ∷ false ∷ false ∷ false ∷ [])
  pub steps : (step s k 0 15 (118 ∷ []) ∷ step s k 0 18 (118 ∷ []) ∷ step s k 1 9 (118 ∷ []) ∷ step s k 1 11 (118 ∷ []) ∷ step s k 2 10 (118 ∷ []) ∷ step s k 2 19 (118 ∷ []) ∷ []) ≡ plans
  pub culprits : culprits_of s j j2 ≡ []
  pub summits : (committee_test c.weights units (Correct (dg (90 ∷ 0 ∷ 1 ∷ 12 ∷ [])) ∷ Correct (dg (62 ∷ 1 ∷ 0 ∷ 13 ∷ [])) ∷ Absent ∷ []) (record { digest = dg (90 ∷ 0 ∷ 1 ∷ 12 ∷ []); unit = record { instance = dg (0 ∷ 0 ∷ 0 ∷ 0 ∷ []); creator = 0; seq = 1; time = 12; exponent = 2; panorama = (Correct (dg (40 ∷ 0 ∷ 0 ∷ 8 ∷ [])) ∷ Absent ∷ Absent ∷ []); value = Some ((121 ∷ [])); endorsed = [] } }) 1 2 (((0, 0) ∷ (1, 0) ∷ []) ∷ ((0, 1) ∷ (1, 0) ∷ []) ∷ []) ∷ committee_test c.weights units (Correct (dg (90 ∷ 0 ∷ 1 ∷ 12 ∷ [])) ∷ Correct (dg (62 ∷ 1 ∷ 0 ∷ 13 ∷ [])) ∷ Absent ∷ []) (record { digest = dg (90 ∷ 0 ∷ 1 ∷ 12 ∷ []); unit = record { instance = dg (0 ∷ 0 ∷ 0 ∷ 0 ∷ []); creator = 0; seq = 1; time = 12; exponent = 2; panorama = (Correct (dg (40 ∷ 0 ∷ 0 ∷ 8 ∷ [])) ∷ Absent ∷ Absent ∷ []); value = Some ((121 ∷ [])); endorsed = [] } }) 1 2 (((0, 0) ∷ (1, 0) ∷ []) ∷ ((0, 0) ∷ (1, 0) ∷ []) ∷ []) ∷ committee_test c.weights units (Correct (dg (90 ∷ 0 ∷ 1 ∷ 12 ∷ [])) ∷ Correct (dg (62 ∷ 1 ∷ 0 ∷ 13 ∷ [])) ∷ Absent ∷ []) (record { digest = dg (90 ∷ 0 ∷ 1 ∷ 12 ∷ []); unit = record { instance = dg (0 ∷ 0 ∷ 0 ∷ 0 ∷ []); creator = 0; seq = 1; time = 12; exponent = 2; panorama = (Correct (dg (40 ∷ 0 ∷ 0 ∷ 8 ∷ [])) ∷ Absent ∷ Absent ∷ []); value = Some ((121 ∷ [])); endorsed = [] } }) 2 2 (((0, 0) ∷ []) ∷ ((0, 0) ∷ []) ∷ ((0, 0) ∷ []) ∷ []) ∷ committee_test c.weights units (Correct (dg (90 ∷ 0 ∷ 1 ∷ 12 ∷ [])) ∷ Correct (dg (62 ∷ 1 ∷ 0 ∷ 13 ∷ [])) ∷ Absent ∷ []) (record { digest = dg (90 ∷ 0 ∷ 1 ∷ 12 ∷ []); unit = record { instance = dg (0 ∷ 0 ∷ 0 ∷ 0 ∷ []); creator = 0; seq = 1; time = 12; exponent = 2; panorama = (Correct (dg (40 ∷ 0 ∷ 0 ∷ 8 ∷ [])) ∷ Absent ∷ Absent ∷ []); value = Some ((121 ∷ [])); endorsed = [] } }) 2 2 (((0, 0) ∷ []) ∷ ((0, 0) ∷ []) ∷ ((0, 1) ∷ []) ∷ []) ∷ committee_test c.weights units (Correct (dg (90 ∷ 0 ∷ 1 ∷ 12 ∷ [])) ∷ Correct (dg (62 ∷ 1 ∷ 0 ∷ 13 ∷ [])) ∷ Absent ∷ []) (record { digest = dg (40 ∷ 0 ∷ 0 ∷ 8 ∷ []); unit = record { instance = dg (0 ∷ 0 ∷ 0 ∷ 0 ∷ []); creator = 0; seq = 0; time = 8; exponent = 2; panorama = (Absent ∷ Absent ∷ Absent ∷ []); value = Some ((120 ∷ [])); endorsed = [] } }) 1 2 (((0, 1) ∷ (1, 0) ∷ []) ∷ ((0, 1) ∷ (1, 0) ∷ []) ∷ []) ∷ committee_test c.weights units (Correct (dg (90 ∷ 0 ∷ 1 ∷ 12 ∷ [])) ∷ Correct (dg (62 ∷ 1 ∷ 0 ∷ 13 ∷ [])) ∷ Absent ∷ []) (record { digest = dg (40 ∷ 0 ∷ 0 ∷ 8 ∷ []); unit = record { instance = dg (0 ∷ 0 ∷ 0 ∷ 0 ∷ []); creator = 0; seq = 0; time = 8; exponent = 2; panorama = (Absent ∷ Absent ∷ Absent ∷ []); value = Some ((120 ∷ [])); endorsed = [] } }) 1 2 (((1, 0) ∷ []) ∷ ((1, 0) ∷ []) ∷ []) ∷ committee_test c.weights units (Correct (dg (90 ∷ 0 ∷ 1 ∷ 12 ∷ [])) ∷ Correct (dg (62 ∷ 1 ∷ 0 ∷ 13 ∷ [])) ∷ Absent ∷ []) (record { digest = dg (40 ∷ 0 ∷ 0 ∷ 8 ∷ []); unit = record { instance = dg (0 ∷ 0 ∷ 0 ∷ 0 ∷ []); creator = 0; seq = 0; time = 8; exponent = 2; panorama = (Absent ∷ Absent ∷ Absent ∷ []); value = Some ((120 ∷ [])); endorsed = [] } }) 2 1 (((0, 0) ∷ (1, 0) ∷ []) ∷ ((0, 0) ∷ (1, 0) ∷ []) ∷ ((0, 1) ∷ (1, 0) ∷ []) ∷ []) ∷ committee_test c.weights units (Correct (dg (90 ∷ 0 ∷ 1 ∷ 12 ∷ [])) ∷ Correct (dg (62 ∷ 1 ∷ 0 ∷ 13 ∷ [])) ∷ Absent ∷ []) (record { digest = dg (40 ∷ 0 ∷ 0 ∷ 8 ∷ []); unit = record { instance = dg (0 ∷ 0 ∷ 0 ∷ 0 ∷ []); creator = 0; seq = 0; time = 8; exponent = 2; panorama = (Absent ∷ Absent ∷ Absent ∷ []); value = Some ((120 ∷ [])); endorsed = [] } }) 2 1 (((0, 0) ∷ (1, 0) ∷ []) ∷ ((0, 0) ∷ (1, 0) ∷ []) ∷ ((1, 0) ∷ []) ∷ []) ∷ committee_test c.weights units (Correct (dg (90 ∷ 0 ∷ 1 ∷ 12 ∷ [])) ∷ Absent ∷ Absent ∷ []) (record { digest = dg (40 ∷ 0 ∷ 0 ∷ 8 ∷ []); unit = record { instance = dg (0 ∷ 0 ∷ 0 ∷ 0 ∷ []); creator = 0; seq = 0; time = 8; exponent = 2; panorama = (Absent ∷ Absent ∷ Absent ∷ []); value = Some ((120 ∷ [])); endorsed = [] } }) 1 2 (((0, 1) ∷ []) ∷ ((0, 1) ∷ []) ∷ []) ∷ committee_test c.weights units (Correct (dg (90 ∷ 0 ∷ 1 ∷ 12 ∷ [])) ∷ Absent ∷ Absent ∷ []) (record { digest = dg (40 ∷ 0 ∷ 0 ∷ 8 ∷ []); unit = record { instance = dg (0 ∷ 0 ∷ 0 ∷ 0 ∷ []); creator = 0; seq = 0; time = 8; exponent = 2; panorama = (Absent ∷ Absent ∷ Absent ∷ []); value = Some ((120 ∷ [])); endorsed = [] } }) 1 2 (((0, 1) ∷ []) ∷ ((0, 1) ∷ []) ∷ []) ∷ committee_test c.weights units (Correct (dg (90 ∷ 0 ∷ 1 ∷ 12 ∷ [])) ∷ Absent ∷ Absent ∷ []) (record { digest = dg (40 ∷ 0 ∷ 0 ∷ 8 ∷ []); unit = record { instance = dg (0 ∷ 0 ∷ 0 ∷ 0 ∷ []); creator = 0; seq = 0; time = 8; exponent = 2; panorama = (Absent ∷ Absent ∷ Absent ∷ []); value = Some ((120 ∷ [])); endorsed = [] } }) 2 2 (((0, 0) ∷ []) ∷ ((0, 1) ∷ []) ∷ ((0, 1) ∷ []) ∷ []) ∷ committee_test c.weights units (Correct (dg (90 ∷ 0 ∷ 1 ∷ 12 ∷ [])) ∷ Absent ∷ Absent ∷ []) (record { digest = dg (40 ∷ 0 ∷ 0 ∷ 8 ∷ []); unit = record { instance = dg (0 ∷ 0 ∷ 0 ∷ 0 ∷ []); creator = 0; seq = 0; time = 8; exponent = 2; panorama = (Absent ∷ Absent ∷ Absent ∷ []); value = Some ((120 ∷ [])); endorsed = [] } }) 2 2 (((0, 1) ∷ []) ∷ ((0, 1) ∷ []) ∷ ((0, 1) ∷ []) ∷ []) ∷ committee_test c.weights units (Correct (dg (90 ∷ 0 ∷ 1 ∷ 12 ∷ [])) ∷ Absent ∷ Absent ∷ []) (record { digest = dg (90 ∷ 0 ∷ 1 ∷ 12 ∷ []); unit = record { instance = dg (0 ∷ 0 ∷ 0 ∷ 0 ∷ []); creator = 0; seq = 1; time = 12; exponent = 2; panorama = (Correct (dg (40 ∷ 0 ∷ 0 ∷ 8 ∷ [])) ∷ Absent ∷ Absent ∷ []); value = Some ((121 ∷ [])); endorsed = [] } }) 1 3 (((0, 0) ∷ []) ∷ ((0, 0) ∷ []) ∷ []) ∷ committee_test c.weights units (Correct (dg (90 ∷ 0 ∷ 1 ∷ 12 ∷ [])) ∷ Absent ∷ Absent ∷ []) (record { digest = dg (90 ∷ 0 ∷ 1 ∷ 12 ∷ []); unit = record { instance = dg (0 ∷ 0 ∷ 0 ∷ 0 ∷ []); creator = 0; seq = 1; time = 12; exponent = 2; panorama = (Correct (dg (40 ∷ 0 ∷ 0 ∷ 8 ∷ [])) ∷ Absent ∷ Absent ∷ []); value = Some ((121 ∷ [])); endorsed = [] } }) 1 3 (((0, 1) ∷ []) ∷ ((0, 1) ∷ []) ∷ []) ∷ committee_test c.weights units (Correct (dg (90 ∷ 0 ∷ 1 ∷ 12 ∷ [])) ∷ Absent ∷ Absent ∷ []) (record { digest = dg (90 ∷ 0 ∷ 1 ∷ 12 ∷ []); unit = record { instance = dg (0 ∷ 0 ∷ 0 ∷ 0 ∷ []); creator = 0; seq = 1; time = 12; exponent = 2; panorama = (Correct (dg (40 ∷ 0 ∷ 0 ∷ 8 ∷ [])) ∷ Absent ∷ Absent ∷ []); value = Some ((121 ∷ [])); endorsed = [] } }) 2 3 (((0, 0) ∷ []) ∷ ((0, 0) ∷ []) ∷ ((0, 0) ∷ []) ∷ []) ∷ committee_test c.weights units (Correct (dg (90 ∷ 0 ∷ 1 ∷ 12 ∷ [])) ∷ Absent ∷ Absent ∷ []) (record { digest = dg (90 ∷ 0 ∷ 1 ∷ 12 ∷ []); unit = record { instance = dg (0 ∷ 0 ∷ 0 ∷ 0 ∷ []); creator = 0; seq = 1; time = 12; exponent = 2; panorama = (Correct (dg (40 ∷ 0 ∷ 0 ∷ 8 ∷ [])) ∷ Absent ∷ Absent ∷ []); value = Some ((121 ∷ [])); endorsed = [] } }) 2 3 (((0, 1) ∷ []) ∷ ((0, 1) ∷ []) ∷ ((0, 1) ∷ []) ∷ []) ∷ []) ≡ (false ∷ false ∷ false ∷ false ∷ false ∷ false ∷ false ∷ false ∷ false ∷ false ∷ false ∷ false ∷ false ∷ false ∷ false ∷ false ∷ [])
