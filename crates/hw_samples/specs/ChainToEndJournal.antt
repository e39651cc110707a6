-- The same seven blocks, where the last height is 6: nobody proposes any more.
-- The values are those of a second reading of the definitions, written apart from them; the two agree.
use Rattle.std.specs.Prelude.{◌≡◌, true, false, List, [], ◌∷◌, map, Option, Some, None, Ok}
use Rattle.hw_types.specs.declared.unit.Obs.TheVariants.{Absent, Correct}
use Rattle.hw_types.specs.declared.unit.WireUnit.{WireUnit}
use Rattle.hw_types.specs.declared.unit.Vertex.{Vertex}
use Rattle.hw_types.specs.declared.config.Config.{Config}
use Rattle.hw_types.specs.declared.answers.Plan.{Plan}
use Rattle.hw_types.specs.declared.answers.PlanKind.TheVariants as kind
use Rattle.hw_types.specs.declared.config.Leaders.TheVariants.{Table}
use Rattle.hw_types.specs.declared.answers.Receipt.TheVariants as receipt
use Rattle.hw_types.specs.Graph.{Node, past}
use Rattle.hw_types.specs.Rules.{state_rule, has_naive_fork}
use Rattle.hw_types.specs.Settled.{Received, settled_of, parked_of, dropped_of, missing_of, panorama_of, faulty_weight, fork_choice}
use Rattle.hw_types.specs.Journal.{Setting, received_of, journal_of, answers_from}
use Rattle.hw_types.specs.Step.{step}
use Rattle.hw_types.specs.Culprits.{culprits_of}
use Rattle.hw_samples.specs.Words.{names_of, name_of}
use Rattle.hw_samples.specs.JournalWords.{dg, sent_as, mixed, named_by, votes_in, parents_in, committee_test}

abbrev c : Config
c = record { weights = (1 ∷ 1 ∷ 1 ∷ []); ftt = 0; levels = 2; min_exponent = 2; max_exponent = 4; leaders = Table (0 ∷ []); max_records = 131072; max_parked = 4096; end = Some (6) }

abbrev s : Setting
s = named_by mixed c

abbrev u0 : WireUnit
u0 = record { instance = dg (0 ∷ 0 ∷ 0 ∷ 0 ∷ []); creator = 0; seq = 0; time = 8; exponent = 2; panorama = (Absent ∷ Absent ∷ Absent ∷ []); value = Some ((120 ∷ [])); endorsed = [] }

abbrev u1 : WireUnit
u1 = record { instance = dg (0 ∷ 0 ∷ 0 ∷ 0 ∷ []); creator = 0; seq = 1; time = 12; exponent = 2; panorama = (Correct (dg (40 ∷ 0 ∷ 0 ∷ 8 ∷ [])) ∷ Absent ∷ Absent ∷ []); value = Some ((120 ∷ [])); endorsed = [] }

abbrev u2 : WireUnit
u2 = record { instance = dg (0 ∷ 0 ∷ 0 ∷ 0 ∷ []); creator = 0; seq = 2; time = 16; exponent = 2; panorama = (Correct (dg (89 ∷ 0 ∷ 1 ∷ 12 ∷ [])) ∷ Absent ∷ Absent ∷ []); value = Some ((120 ∷ [])); endorsed = [] }

abbrev u3 : WireUnit
u3 = record { instance = dg (0 ∷ 0 ∷ 0 ∷ 0 ∷ []); creator = 0; seq = 3; time = 20; exponent = 2; panorama = (Correct (dg (41 ∷ 0 ∷ 2 ∷ 16 ∷ [])) ∷ Absent ∷ Absent ∷ []); value = Some ((120 ∷ [])); endorsed = [] }

abbrev u4 : WireUnit
u4 = record { instance = dg (0 ∷ 0 ∷ 0 ∷ 0 ∷ []); creator = 0; seq = 4; time = 24; exponent = 2; panorama = (Correct (dg (90 ∷ 0 ∷ 3 ∷ 20 ∷ [])) ∷ Absent ∷ Absent ∷ []); value = Some ((120 ∷ [])); endorsed = [] }

abbrev u5 : WireUnit
u5 = record { instance = dg (0 ∷ 0 ∷ 0 ∷ 0 ∷ []); creator = 0; seq = 5; time = 28; exponent = 2; panorama = (Correct (dg (42 ∷ 0 ∷ 4 ∷ 24 ∷ [])) ∷ Absent ∷ Absent ∷ []); value = Some ((120 ∷ [])); endorsed = [] }

abbrev u6 : WireUnit
u6 = record { instance = dg (0 ∷ 0 ∷ 0 ∷ 0 ∷ []); creator = 0; seq = 6; time = 32; exponent = 2; panorama = (Correct (dg (91 ∷ 0 ∷ 5 ∷ 28 ∷ [])) ∷ Absent ∷ Absent ∷ []); value = Some ((120 ∷ [])); endorsed = [] }

abbrev u7 : WireUnit
u7 = record { instance = dg (0 ∷ 0 ∷ 0 ∷ 0 ∷ []); creator = 1; seq = 0; time = 40; exponent = 2; panorama = (Correct (dg (43 ∷ 0 ∷ 6 ∷ 32 ∷ [])) ∷ Absent ∷ Absent ∷ []); value = None; endorsed = [] }

abbrev j_shuffled : List Vertex
j_shuffled = (sent_as [] u4 ∷ sent_as [] u3 ∷ sent_as [] u0 ∷ sent_as [] u6 ∷ sent_as [] u5 ∷ sent_as [] u2 ∷ sent_as [] u7 ∷ sent_as [] u1 ∷ [])

abbrev j : List Vertex
j = (sent_as [] u0 ∷ sent_as [] u1 ∷ sent_as [] u2 ∷ sent_as [] u3 ∷ sent_as [] u4 ∷ sent_as [] u5 ∷ sent_as [] u6 ∷ sent_as [] u7 ∷ [])

abbrev k : Received
k = received_of s j

abbrev units : List Node
units = (record { digest = dg (40 ∷ 0 ∷ 0 ∷ 8 ∷ []); unit = u0 } ∷ record { digest = dg (41 ∷ 0 ∷ 2 ∷ 16 ∷ []); unit = u2 } ∷ record { digest = dg (42 ∷ 0 ∷ 4 ∷ 24 ∷ []); unit = u4 } ∷ record { digest = dg (43 ∷ 0 ∷ 6 ∷ 32 ∷ []); unit = u6 } ∷ record { digest = dg (68 ∷ 1 ∷ 0 ∷ 40 ∷ []); unit = u7 } ∷ record { digest = dg (89 ∷ 0 ∷ 1 ∷ 12 ∷ []); unit = u1 } ∷ record { digest = dg (90 ∷ 0 ∷ 3 ∷ 20 ∷ []); unit = u3 } ∷ record { digest = dg (91 ∷ 0 ∷ 5 ∷ 28 ∷ []); unit = u5 } ∷ [])

abbrev plans : List (Option Plan)
plans = (Some (record { kind = kind.Witness; unit = record { instance = dg (0 ∷ 0 ∷ 0 ∷ 0 ∷ []); creator = 0; seq = 7; time = 38; exponent = 2; panorama = (Correct (dg (43 ∷ 0 ∷ 6 ∷ 32 ∷ [])) ∷ Absent ∷ Absent ∷ []); value = None; endorsed = [] } }) ∷ None ∷ None ∷ None ∷ None ∷ Some (record { kind = kind.Witness; unit = record { instance = dg (0 ∷ 0 ∷ 0 ∷ 0 ∷ []); creator = 2; seq = 0; time = 38; exponent = 2; panorama = (Correct (dg (43 ∷ 0 ∷ 6 ∷ 32 ∷ [])) ∷ Absent ∷ Absent ∷ []); value = None; endorsed = [] } }) ∷ [])

abbrev j2 : List Vertex
j2 = (sent_as [] u2 ∷ sent_as [] u0 ∷ sent_as [] u1 ∷ sent_as [] u5 ∷ sent_as [] u4 ∷ sent_as [] u3 ∷ sent_as [] u6 ∷ sent_as [] u7 ∷ [])

pub record ChainToEndJournal : Type 0 where
  pub answers : answers_from s [] ((sent_as [] u0, true) ∷ (sent_as [] u1, true) ∷ (sent_as [] u2, true) ∷ (sent_as [] u3, true) ∷ (sent_as [] u4, true) ∷ (sent_as [] u5, true) ∷ (sent_as [] u6, true) ∷ (sent_as [] u7, true) ∷ []) ≡ ((Ok (receipt.Admitted 1) ∷ Ok (receipt.Admitted 1) ∷ Ok (receipt.Admitted 1) ∷ Ok (receipt.Admitted 1) ∷ Ok (receipt.Admitted 1) ∷ Ok (receipt.Admitted 1) ∷ Ok (receipt.Admitted 1) ∷ Ok (receipt.Admitted 1) ∷ []))
  pub order : received_of s j_shuffled ≡ k
  pub kept : journal_of s ((sent_as [] u0, true) ∷ (sent_as [] u1, true) ∷ (sent_as [] u2, true) ∷ (sent_as [] u3, true) ∷ (sent_as [] u4, true) ∷ (sent_as [] u5, true) ∷ (sent_as [] u6, true) ∷ (sent_as [] u7, true) ∷ []) ≡ j
  pub settled : settled_of c k ≡ units
  pub parked : names_of (parked_of c k) ≡ []
  pub dropped : names_of (dropped_of c k) ≡ []
  pub panorama : panorama_of c k ≡ (Correct (dg (43 ∷ 0 ∷ 6 ∷ 32 ∷ [])) ∷ Correct (dg (68 ∷ 1 ∷ 0 ∷ 40 ∷ [])) ∷ Absent ∷ [])
  pub weight : faulty_weight c k ≡ 0
  pub fork : name_of (fork_choice c k) ≡ Some (dg (43 ∷ 0 ∷ 6 ∷ 32 ∷ []))
  pub votes : votes_in c units ≡ (Some (dg (40 ∷ 0 ∷ 0 ∷ 8 ∷ [])) ∷ Some (dg (41 ∷ 0 ∷ 2 ∷ 16 ∷ [])) ∷ Some (dg (42 ∷ 0 ∷ 4 ∷ 24 ∷ [])) ∷ Some (dg (43 ∷ 0 ∷ 6 ∷ 32 ∷ [])) ∷ Some (dg (43 ∷ 0 ∷ 6 ∷ 32 ∷ [])) ∷ Some (dg (89 ∷ 0 ∷ 1 ∷ 12 ∷ [])) ∷ Some (dg (90 ∷ 0 ∷ 3 ∷ 20 ∷ [])) ∷ Some (dg (91 ∷ 0 ∷ 5 ∷ 28 ∷ [])) ∷ [])
  pub heights : parents_in c units ≡ ((None, 0) ∷ (Some (dg (89 ∷ 0 ∷ 1 ∷ 12 ∷ [])), 2) ∷ (Some (dg (90 ∷ 0 ∷ 3 ∷ 20 ∷ [])), 4) ∷ (Some (dg (91 ∷ 0 ∷ 5 ∷ 28 ∷ [])), 6) ∷ (Some (dg (40 ∷ 0 ∷ 0 ∷ 8 ∷ [])), 1) ∷ (Some (dg (41 ∷ 0 ∷ 2 ∷ 16 ∷ [])), 3) ∷ (Some (dg (42 ∷ 0 ∷ 4 ∷ 24 ∷ [])), 5) ∷ [])
  pub missing : map (missing_of c k units) (record { digest = dg (40 ∷ 0 ∷ 0 ∷ 8 ∷ []); unit = u0 } ∷ record { digest = dg (41 ∷ 0 ∷ 2 ∷ 16 ∷ []); unit = u2 } ∷ record { digest = dg (42 ∷ 0 ∷ 4 ∷ 24 ∷ []); unit = u4 } ∷ record { digest = dg (43 ∷ 0 ∷ 6 ∷ 32 ∷ []); unit = u6 } ∷ record { digest = dg (68 ∷ 1 ∷ 0 ∷ 40 ∷ []); unit = u7 } ∷ record { digest = dg (89 ∷ 0 ∷ 1 ∷ 12 ∷ []); unit = u1 } ∷ record { digest = dg (90 ∷ 0 ∷ 3 ∷ 20 ∷ []); unit = u3 } ∷ record { digest = dg (91 ∷ 0 ∷ 5 ∷ 28 ∷ []); unit = u5 } ∷ []) ≡ (([] ∷ [] ∷ [] ∷ [] ∷ [] ∷ [] ∷ [] ∷ [] ∷ []))
  pub rules : map (state_rule c units) (record { digest = dg (40 ∷ 0 ∷ 0 ∷ 8 ∷ []); unit = u0 } ∷ record { digest = dg (41 ∷ 0 ∷ 2 ∷ 16 ∷ []); unit = u2 } ∷ record { digest = dg (42 ∷ 0 ∷ 4 ∷ 24 ∷ []); unit = u4 } ∷ record { digest = dg (43 ∷ 0 ∷ 6 ∷ 32 ∷ []); unit = u6 } ∷ record { digest = dg (68 ∷ 1 ∷ 0 ∷ 40 ∷ []); unit = u7 } ∷ record { digest = dg (89 ∷ 0 ∷ 1 ∷ 12 ∷ []); unit = u1 } ∷ record { digest = dg (90 ∷ 0 ∷ 3 ∷ 20 ∷ []); unit = u3 } ∷ record { digest = dg (91 ∷ 0 ∷ 5 ∷ 28 ∷ []); unit = u5 } ∷ []) ≡ (None ∷ None ∷ None ∷ None ∷ None ∷ None ∷ None ∷ None ∷ [])
  pub naive : (has_naive_fork (past units (Correct (dg (91 ∷ 0 ∷ 5 ∷ 28 ∷ [])) ∷ Correct (dg (68 ∷ 1 ∷ 0 ∷ 40 ∷ [])) ∷ Absent ∷ [])) [] ∷ has_naive_fork (past units (Correct (dg (40 ∷ 0 ∷ 0 ∷ 8 ∷ [])) ∷ Correct (dg (68 ∷ 1 ∷ 0 ∷ 40 ∷ [])) ∷ Absent ∷ [])) (dg (89 ∷ 0 ∷ 1 ∷ 12 ∷ []) ∷ dg (91 ∷ 0 ∷ 5 ∷ 28 ∷ []) ∷ []) ∷ has_naive_fork (past units (Correct (dg (91 ∷ 0 ∷ 5 ∷ 28 ∷ [])) ∷ Correct (dg (68 ∷ 1 ∷ 0 ∷ 40 ∷ [])) ∷ Absent ∷ [])) (dg (41 ∷ 0 ∷ 2 ∷ 16 ∷ []) ∷ []) ∷ has_naive_fork (past units (Correct (dg (43 ∷ 0 ∷ 6 ∷ 32 ∷ [])) ∷ Correct (dg (68 ∷ 1 ∷ 0 ∷ 40 ∷ [])) ∷ Absent ∷ [])) (dg (42 ∷ 0 ∷ 4 ∷ 24 ∷ []) ∷ dg (91 ∷ 0 ∷ 5 ∷ 28 ∷ []) ∷ []) ∷ []) ≡ (false ∷ false ∷ false ∷ false ∷ [])
  pub steps : (step s k 0 38 (118 ∷ []) ∷ step s k 0 45 (118 ∷ []) ∷ step s k 1 35 (118 ∷ []) ∷ step s k 1 41 (118 ∷ []) ∷ step s k 2 44 (118 ∷ []) ∷ step s k 2 38 (118 ∷ []) ∷ []) ≡ plans
  pub culprits : culprits_of s j j2 ≡ []
  pub summits : (committee_test c.weights units (Correct (dg (43 ∷ 0 ∷ 6 ∷ 32 ∷ [])) ∷ Correct (dg (68 ∷ 1 ∷ 0 ∷ 40 ∷ [])) ∷ Absent ∷ []) (record { digest = dg (41 ∷ 0 ∷ 2 ∷ 16 ∷ []); unit = record { instance = dg (0 ∷ 0 ∷ 0 ∷ 0 ∷ []); creator = 0; seq = 2; time = 16; exponent = 2; panorama = (Correct (dg (89 ∷ 0 ∷ 1 ∷ 12 ∷ [])) ∷ Absent ∷ Absent ∷ []); value = Some ((120 ∷ [])); endorsed = [] } }) 1 2 (((0, 5) ∷ []) ∷ ((0, 5) ∷ []) ∷ []) ∷ committee_test c.weights units (Correct (dg (43 ∷ 0 ∷ 6 ∷ 32 ∷ [])) ∷ Correct (dg (68 ∷ 1 ∷ 0 ∷ 40 ∷ [])) ∷ Absent ∷ []) (record { digest = dg (41 ∷ 0 ∷ 2 ∷ 16 ∷ []); unit = record { instance = dg (0 ∷ 0 ∷ 0 ∷ 0 ∷ []); creator = 0; seq = 2; time = 16; exponent = 2; panorama = (Correct (dg (89 ∷ 0 ∷ 1 ∷ 12 ∷ [])) ∷ Absent ∷ Absent ∷ []); value = Some ((120 ∷ [])); endorsed = [] } }) 1 2 (((0, 4) ∷ (1, 0) ∷ []) ∷ ((0, 5) ∷ []) ∷ []) ∷ committee_test c.weights units (Correct (dg (43 ∷ 0 ∷ 6 ∷ 32 ∷ [])) ∷ Correct (dg (68 ∷ 1 ∷ 0 ∷ 40 ∷ [])) ∷ Absent ∷ []) (record { digest = dg (41 ∷ 0 ∷ 2 ∷ 16 ∷ []); unit = record { instance = dg (0 ∷ 0 ∷ 0 ∷ 0 ∷ []); creator = 0; seq = 2; time = 16; exponent = 2; panorama = (Correct (dg (89 ∷ 0 ∷ 1 ∷ 12 ∷ [])) ∷ Absent ∷ Absent ∷ []); value = Some ((120 ∷ [])); endorsed = [] } }) 2 1 (((0, 2) ∷ (1, 0) ∷ []) ∷ ((0, 3) ∷ (1, 0) ∷ []) ∷ ((0, 4) ∷ (1, 0) ∷ []) ∷ []) ∷ committee_test c.weights units (Correct (dg (43 ∷ 0 ∷ 6 ∷ 32 ∷ [])) ∷ Correct (dg (68 ∷ 1 ∷ 0 ∷ 40 ∷ [])) ∷ Absent ∷ []) (record { digest = dg (41 ∷ 0 ∷ 2 ∷ 16 ∷ []); unit = record { instance = dg (0 ∷ 0 ∷ 0 ∷ 0 ∷ []); creator = 0; seq = 2; time = 16; exponent = 2; panorama = (Correct (dg (89 ∷ 0 ∷ 1 ∷ 12 ∷ [])) ∷ Absent ∷ Absent ∷ []); value = Some ((120 ∷ [])); endorsed = [] } }) 2 1 (((0, 2) ∷ (1, 0) ∷ []) ∷ ((0, 3) ∷ (1, 0) ∷ []) ∷ ((0, 4) ∷ (1, 0) ∷ []) ∷ []) ∷ committee_test c.weights units (Correct (dg (43 ∷ 0 ∷ 6 ∷ 32 ∷ [])) ∷ Correct (dg (68 ∷ 1 ∷ 0 ∷ 40 ∷ [])) ∷ Absent ∷ []) (record { digest = dg (41 ∷ 0 ∷ 2 ∷ 16 ∷ []); unit = record { instance = dg (0 ∷ 0 ∷ 0 ∷ 0 ∷ []); creator = 0; seq = 2; time = 16; exponent = 2; panorama = (Correct (dg (89 ∷ 0 ∷ 1 ∷ 12 ∷ [])) ∷ Absent ∷ Absent ∷ []); value = Some ((120 ∷ [])); endorsed = [] } }) 2 1 (((0, 2) ∷ []) ∷ ((0, 3) ∷ (1, 0) ∷ []) ∷ ((0, 4) ∷ (1, 0) ∷ []) ∷ []) ∷ committee_test c.weights units (Correct (dg (43 ∷ 0 ∷ 6 ∷ 32 ∷ [])) ∷ Correct (dg (68 ∷ 1 ∷ 0 ∷ 40 ∷ [])) ∷ Absent ∷ []) (record { digest = dg (41 ∷ 0 ∷ 2 ∷ 16 ∷ []); unit = record { instance = dg (0 ∷ 0 ∷ 0 ∷ 0 ∷ []); creator = 0; seq = 2; time = 16; exponent = 2; panorama = (Correct (dg (89 ∷ 0 ∷ 1 ∷ 12 ∷ [])) ∷ Absent ∷ Absent ∷ []); value = Some ((120 ∷ [])); endorsed = [] } }) 2 1 (((0, 4) ∷ []) ∷ ((0, 5) ∷ []) ∷ ((0, 5) ∷ []) ∷ []) ∷ committee_test c.weights units (Correct (dg (43 ∷ 0 ∷ 6 ∷ 32 ∷ [])) ∷ Correct (dg (68 ∷ 1 ∷ 0 ∷ 40 ∷ [])) ∷ Absent ∷ []) (record { digest = dg (41 ∷ 0 ∷ 2 ∷ 16 ∷ []); unit = record { instance = dg (0 ∷ 0 ∷ 0 ∷ 0 ∷ []); creator = 0; seq = 2; time = 16; exponent = 2; panorama = (Correct (dg (89 ∷ 0 ∷ 1 ∷ 12 ∷ [])) ∷ Absent ∷ Absent ∷ []); value = Some ((120 ∷ [])); endorsed = [] } }) 2 1 (((0, 1) ∷ (1, 0) ∷ []) ∷ ((1, 0) ∷ []) ∷ ((1, 0) ∷ []) ∷ []) ∷ committee_test c.weights units (Correct (dg (43 ∷ 0 ∷ 6 ∷ 32 ∷ [])) ∷ Correct (dg (68 ∷ 1 ∷ 0 ∷ 40 ∷ [])) ∷ Absent ∷ []) (record { digest = dg (42 ∷ 0 ∷ 4 ∷ 24 ∷ []); unit = record { instance = dg (0 ∷ 0 ∷ 0 ∷ 0 ∷ []); creator = 0; seq = 4; time = 24; exponent = 2; panorama = (Correct (dg (90 ∷ 0 ∷ 3 ∷ 20 ∷ [])) ∷ Absent ∷ Absent ∷ []); value = Some ((120 ∷ [])); endorsed = [] } }) 1 2 (((0, 3) ∷ (1, 0) ∷ []) ∷ ((0, 3) ∷ (1, 0) ∷ []) ∷ []) ∷ committee_test c.weights units (Correct (dg (43 ∷ 0 ∷ 6 ∷ 32 ∷ [])) ∷ Correct (dg (68 ∷ 1 ∷ 0 ∷ 40 ∷ [])) ∷ Absent ∷ []) (record { digest = dg (42 ∷ 0 ∷ 4 ∷ 24 ∷ []); unit = record { instance = dg (0 ∷ 0 ∷ 0 ∷ 0 ∷ []); creator = 0; seq = 4; time = 24; exponent = 2; panorama = (Correct (dg (90 ∷ 0 ∷ 3 ∷ 20 ∷ [])) ∷ Absent ∷ Absent ∷ []); value = Some ((120 ∷ [])); endorsed = [] } }) 1 2 (((0, 4) ∷ (1, 0) ∷ []) ∷ ((1, 0) ∷ []) ∷ []) ∷ committee_test c.weights units (Correct (dg (43 ∷ 0 ∷ 6 ∷ 32 ∷ [])) ∷ Correct (dg (68 ∷ 1 ∷ 0 ∷ 40 ∷ [])) ∷ Absent ∷ []) (record { digest = dg (42 ∷ 0 ∷ 4 ∷ 24 ∷ []); unit = record { instance = dg (0 ∷ 0 ∷ 0 ∷ 0 ∷ []); creator = 0; seq = 4; time = 24; exponent = 2; panorama = (Correct (dg (90 ∷ 0 ∷ 3 ∷ 20 ∷ [])) ∷ Absent ∷ Absent ∷ []); value = Some ((120 ∷ [])); endorsed = [] } }) 2 2 (((1, 0) ∷ []) ∷ ((1, 0) ∷ []) ∷ ((1, 0) ∷ []) ∷ []) ∷ committee_test c.weights units (Correct (dg (43 ∷ 0 ∷ 6 ∷ 32 ∷ [])) ∷ Correct (dg (68 ∷ 1 ∷ 0 ∷ 40 ∷ [])) ∷ Absent ∷ []) (record { digest = dg (42 ∷ 0 ∷ 4 ∷ 24 ∷ []); unit = record { instance = dg (0 ∷ 0 ∷ 0 ∷ 0 ∷ []); creator = 0; seq = 4; time = 24; exponent = 2; panorama = (Correct (dg (90 ∷ 0 ∷ 3 ∷ 20 ∷ [])) ∷ Absent ∷ Absent ∷ []); value = Some ((120 ∷ [])); endorsed = [] } }) 2 2 (((0, 0) ∷ (1, 0) ∷ []) ∷ ((0, 1) ∷ (1, 0) ∷ []) ∷ ((0, 1) ∷ (1, 0) ∷ []) ∷ []) ∷ committee_test c.weights units (Correct (dg (43 ∷ 0 ∷ 6 ∷ 32 ∷ [])) ∷ Absent ∷ Absent ∷ []) (record { digest = dg (89 ∷ 0 ∷ 1 ∷ 12 ∷ []); unit = record { instance = dg (0 ∷ 0 ∷ 0 ∷ 0 ∷ []); creator = 0; seq = 1; time = 12; exponent = 2; panorama = (Correct (dg (40 ∷ 0 ∷ 0 ∷ 8 ∷ [])) ∷ Absent ∷ Absent ∷ []); value = Some ((120 ∷ [])); endorsed = [] } }) 1 2 (((0, 2) ∷ []) ∷ ((0, 3) ∷ []) ∷ []) ∷ committee_test c.weights units (Correct (dg (43 ∷ 0 ∷ 6 ∷ 32 ∷ [])) ∷ Absent ∷ Absent ∷ []) (record { digest = dg (89 ∷ 0 ∷ 1 ∷ 12 ∷ []); unit = record { instance = dg (0 ∷ 0 ∷ 0 ∷ 0 ∷ []); creator = 0; seq = 1; time = 12; exponent = 2; panorama = (Correct (dg (40 ∷ 0 ∷ 0 ∷ 8 ∷ [])) ∷ Absent ∷ Absent ∷ []); value = Some ((120 ∷ [])); endorsed = [] } }) 1 2 (((0, 1) ∷ []) ∷ ((0, 1) ∷ []) ∷ []) ∷ committee_test c.weights units (Correct (dg (43 ∷ 0 ∷ 6 ∷ 32 ∷ [])) ∷ Absent ∷ Absent ∷ []) (record { digest = dg (89 ∷ 0 ∷ 1 ∷ 12 ∷ []); unit = record { instance = dg (0 ∷ 0 ∷ 0 ∷ 0 ∷ []); creator = 0; seq = 1; time = 12; exponent = 2; panorama = (Correct (dg (40 ∷ 0 ∷ 0 ∷ 8 ∷ [])) ∷ Absent ∷ Absent ∷ []); value = Some ((120 ∷ [])); endorsed = [] } }) 2 2 (((0, 3) ∷ []) ∷ ((0, 4) ∷ []) ∷ ((0, 5) ∷ []) ∷ []) ∷ committee_test c.weights units (Correct (dg (43 ∷ 0 ∷ 6 ∷ 32 ∷ [])) ∷ Absent ∷ Absent ∷ []) (record { digest = dg (89 ∷ 0 ∷ 1 ∷ 12 ∷ []); unit = record { instance = dg (0 ∷ 0 ∷ 0 ∷ 0 ∷ []); creator = 0; seq = 1; time = 12; exponent = 2; panorama = (Correct (dg (40 ∷ 0 ∷ 0 ∷ 8 ∷ [])) ∷ Absent ∷ Absent ∷ []); value = Some ((120 ∷ [])); endorsed = [] } }) 2 2 (((0, 3) ∷ []) ∷ ((0, 3) ∷ []) ∷ ((0, 4) ∷ []) ∷ []) ∷ committee_test c.weights units (Correct (dg (43 ∷ 0 ∷ 6 ∷ 32 ∷ [])) ∷ Absent ∷ Absent ∷ []) (record { digest = dg (91 ∷ 0 ∷ 5 ∷ 28 ∷ []); unit = record { instance = dg (0 ∷ 0 ∷ 0 ∷ 0 ∷ []); creator = 0; seq = 5; time = 28; exponent = 2; panorama = (Correct (dg (42 ∷ 0 ∷ 4 ∷ 24 ∷ [])) ∷ Absent ∷ Absent ∷ []); value = Some ((120 ∷ [])); endorsed = [] } }) 1 2 ([] ∷ [] ∷ []) ∷ committee_test c.weights units (Correct (dg (43 ∷ 0 ∷ 6 ∷ 32 ∷ [])) ∷ Absent ∷ Absent ∷ []) (record { digest = dg (91 ∷ 0 ∷ 5 ∷ 28 ∷ []); unit = record { instance = dg (0 ∷ 0 ∷ 0 ∷ 0 ∷ []); creator = 0; seq = 5; time = 28; exponent = 2; panorama = (Correct (dg (42 ∷ 0 ∷ 4 ∷ 24 ∷ [])) ∷ Absent ∷ Absent ∷ []); value = Some ((120 ∷ [])); endorsed = [] } }) 1 2 ([] ∷ [] ∷ []) ∷ committee_test c.weights units (Correct (dg (43 ∷ 0 ∷ 6 ∷ 32 ∷ [])) ∷ Absent ∷ Absent ∷ []) (record { digest = dg (91 ∷ 0 ∷ 5 ∷ 28 ∷ []); unit = record { instance = dg (0 ∷ 0 ∷ 0 ∷ 0 ∷ []); creator = 0; seq = 5; time = 28; exponent = 2; panorama = (Correct (dg (42 ∷ 0 ∷ 4 ∷ 24 ∷ [])) ∷ Absent ∷ Absent ∷ []); value = Some ((120 ∷ [])); endorsed = [] } }) 2 2 ([] ∷ [] ∷ [] ∷ []) ∷ committee_test c.weights units (Correct (dg (43 ∷ 0 ∷ 6 ∷ 32 ∷ [])) ∷ Absent ∷ Absent ∷ []) (record { digest = dg (91 ∷ 0 ∷ 5 ∷ 28 ∷ []); unit = record { instance = dg (0 ∷ 0 ∷ 0 ∷ 0 ∷ []); creator = 0; seq = 5; time = 28; exponent = 2; panorama = (Correct (dg (42 ∷ 0 ∷ 4 ∷ 24 ∷ [])) ∷ Absent ∷ Absent ∷ []); value = Some ((120 ∷ [])); endorsed = [] } }) 2 2 ([] ∷ [] ∷ [] ∷ []) ∷ []) ≡ (false ∷ false ∷ true ∷ true ∷ false ∷ false ∷ false ∷ false ∷ false ∷ false ∷ false ∷ false ∷ false ∷ false ∷ false ∷ false ∷ false ∷ false ∷ false ∷ [])
