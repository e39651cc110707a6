-- A random journal: a random choice of units that cite random earlier ones, endorsements and evidence, in random order.
-- The values are those of a second reading of the definitions, written apart from them; the two agree.
use Rattle.std.specs.Prelude.{◌≡◌, true, false, List, [], ◌∷◌, map, Option, Some, None, Ok, Err}
use Rattle.hw_types.specs.declared.unit.Obs.TheVariants.{Absent, Correct, Faulty}
use Rattle.hw_types.specs.declared.unit.WireUnit.{WireUnit}
use Rattle.hw_types.specs.declared.unit.Vertex.{Vertex}
use Rattle.hw_types.specs.declared.config.Config.{Config}
use Rattle.hw_types.specs.declared.answers.Plan.{Plan}
use Rattle.hw_types.specs.declared.answers.PlanKind.TheVariants as kind
use Rattle.hw_types.specs.declared.config.Leaders.TheVariants.{Table}
use Rattle.hw_types.specs.declared.answers.Rule.TheVariants as rule
use Rattle.hw_types.specs.declared.answers.Receipt.TheVariants as receipt
use Rattle.hw_types.specs.declared.answers.Cause.TheVariants as cause
use Rattle.hw_types.specs.Graph.{Node, past}
use Rattle.hw_types.specs.Rules.{state_rule, has_naive_fork}
use Rattle.hw_types.specs.Settled.{Received, settled_of, parked_of, dropped_of, missing_of, panorama_of, faulty_weight, fork_choice, is_endorsed}
use Rattle.hw_types.specs.Journal.{Setting, received_of, answers_from}
use Rattle.hw_types.specs.Step.{step}
use Rattle.hw_types.specs.Culprits.{culprits_of, pair_of, shown_in_either}
use Rattle.hw_samples.specs.Words.{names_of, name_of}
use Rattle.hw_samples.specs.JournalWords.{dg, sent_as, both_as, backs, mixed, named_by, votes_in, parents_in, committee_test}

abbrev c : Config
c = record { weights = (1 ∷ 3 ∷ 1 ∷ 2 ∷ []); ftt = 0; levels = 1; min_exponent = 2; max_exponent = 4; leaders = Table (3 ∷ []); max_records = 131072; max_parked = 4096; end = Some (1) }

abbrev s : Setting
s = named_by mixed c

abbrev u0 : WireUnit
u0 = record { instance = dg (0 ∷ 0 ∷ 0 ∷ 0 ∷ []); creator = 3; seq = 0; time = 8; exponent = 2; panorama = (Absent ∷ Absent ∷ Absent ∷ Absent ∷ []); value = Some ((121 ∷ 122 ∷ [])); endorsed = [] }

abbrev u1 : WireUnit
u1 = record { instance = dg (0 ∷ 0 ∷ 0 ∷ 0 ∷ []); creator = 3; seq = 0; time = 12; exponent = 2; panorama = (Absent ∷ Absent ∷ Absent ∷ Absent ∷ []); value = Some ((121 ∷ 122 ∷ [])); endorsed = [] }

abbrev u2 : WireUnit
u2 = record { instance = dg (0 ∷ 0 ∷ 0 ∷ 0 ∷ []); creator = 2; seq = 0; time = 8; exponent = 2; panorama = (Absent ∷ Absent ∷ Absent ∷ Absent ∷ []); value = None; endorsed = [] }

abbrev u3 : WireUnit
u3 = record { instance = dg (0 ∷ 0 ∷ 0 ∷ 0 ∷ []); creator = 2; seq = 1; time = 14; exponent = 2; panorama = (Absent ∷ Absent ∷ Correct (dg (81 ∷ 2 ∷ 0 ∷ 14 ∷ [])) ∷ []); value = None; endorsed = [] }

abbrev u4 : WireUnit
u4 = record { instance = dg (0 ∷ 0 ∷ 0 ∷ 0 ∷ []); creator = 2; seq = 0; time = 14; exponent = 2; panorama = (Absent ∷ Absent ∷ Absent ∷ Correct (dg (35 ∷ 3 ∷ 0 ∷ 12 ∷ [])) ∷ []); value = None; endorsed = [] }

abbrev u5 : WireUnit
u5 = record { instance = dg (0 ∷ 0 ∷ 0 ∷ 0 ∷ []); creator = 0; seq = 0; time = 15; exponent = 2; panorama = (Absent ∷ Absent ∷ Correct (dg (81 ∷ 2 ∷ 0 ∷ 14 ∷ [])) ∷ Correct (dg (35 ∷ 3 ∷ 0 ∷ 12 ∷ [])) ∷ []); value = None; endorsed = (dg (81 ∷ 2 ∷ 0 ∷ 14 ∷ []) ∷ []) }

abbrev u6 : WireUnit
u6 = record { instance = dg (0 ∷ 0 ∷ 0 ∷ 0 ∷ []); creator = 3; seq = 1; time = 16; exponent = 2; panorama = (Correct (dg (91 ∷ 0 ∷ 0 ∷ 15 ∷ [])) ∷ Absent ∷ Correct (dg (81 ∷ 2 ∷ 0 ∷ 14 ∷ [])) ∷ Correct (dg (35 ∷ 3 ∷ 0 ∷ 12 ∷ [])) ∷ []); value = Some ((121 ∷ 122 ∷ [])); endorsed = [] }

abbrev j : List Vertex
j = (sent_as [] u0 ∷ both_as [] u1 [] u0 ∷ backs (dg (81 ∷ 2 ∷ 0 ∷ 14 ∷ [])) 0 ∷ sent_as [] u1 ∷ backs (dg (81 ∷ 2 ∷ 0 ∷ 14 ∷ [])) 3 ∷ sent_as (1 ∷ []) u4 ∷ backs (dg (81 ∷ 2 ∷ 0 ∷ 14 ∷ [])) 2 ∷ sent_as (1 ∷ []) u5 ∷ backs (dg (81 ∷ 2 ∷ 0 ∷ 14 ∷ [])) 1 ∷ sent_as (1 ∷ []) u6 ∷ [])

abbrev k : Received
k = received_of s j

abbrev units : List Node
units = (record { digest = dg (35 ∷ 3 ∷ 0 ∷ 12 ∷ []); unit = u1 } ∷ record { digest = dg (81 ∷ 2 ∷ 0 ∷ 14 ∷ []); unit = u4 } ∷ record { digest = dg (88 ∷ 3 ∷ 0 ∷ 8 ∷ []); unit = u0 } ∷ record { digest = dg (91 ∷ 0 ∷ 0 ∷ 15 ∷ []); unit = u5 } ∷ [])

abbrev plans : List (Option Plan)
plans = (Some (record { kind = kind.Witness; unit = record { instance = dg (0 ∷ 0 ∷ 0 ∷ 0 ∷ []); creator = 0; seq = 1; time = 18; exponent = 2; panorama = (Correct (dg (91 ∷ 0 ∷ 0 ∷ 15 ∷ [])) ∷ Absent ∷ Correct (dg (81 ∷ 2 ∷ 0 ∷ 14 ∷ [])) ∷ Faulty ∷ []); value = None; endorsed = (dg (81 ∷ 2 ∷ 0 ∷ 14 ∷ []) ∷ []) } }) ∷ None ∷ Some (record { kind = kind.Witness; unit = record { instance = dg (0 ∷ 0 ∷ 0 ∷ 0 ∷ []); creator = 1; seq = 0; time = 19; exponent = 2; panorama = (Correct (dg (91 ∷ 0 ∷ 0 ∷ 15 ∷ [])) ∷ Absent ∷ Correct (dg (81 ∷ 2 ∷ 0 ∷ 14 ∷ [])) ∷ Faulty ∷ []); value = None; endorsed = (dg (81 ∷ 2 ∷ 0 ∷ 14 ∷ []) ∷ []) } }) ∷ Some (record { kind = kind.Witness; unit = record { instance = dg (0 ∷ 0 ∷ 0 ∷ 0 ∷ []); creator = 1; seq = 0; time = 14; exponent = 2; panorama = (Absent ∷ Absent ∷ Correct (dg (81 ∷ 2 ∷ 0 ∷ 14 ∷ [])) ∷ Faulty ∷ []); value = None; endorsed = (dg (81 ∷ 2 ∷ 0 ∷ 14 ∷ []) ∷ []) } }) ∷ None ∷ None ∷ None ∷ None ∷ [])

abbrev j2 : List Vertex
j2 = (sent_as [] u6 ∷ sent_as (1 ∷ []) u0 ∷ backs (dg (81 ∷ 2 ∷ 0 ∷ 14 ∷ [])) 3 ∷ sent_as (1 ∷ []) u4 ∷ sent_as [] u1 ∷ sent_as [] u5 ∷ backs (dg (81 ∷ 2 ∷ 0 ∷ 14 ∷ [])) 0 ∷ backs (dg (81 ∷ 2 ∷ 0 ∷ 14 ∷ [])) 2 ∷ [])

pub record RandomJournal4 : Type 0 where
  pub answers : answers_from s [] ((sent_as [] u0, true) ∷ (both_as [] u1 [] u0, true) ∷ (backs (dg (81 ∷ 2 ∷ 0 ∷ 14 ∷ [])) 0, true) ∷ (sent_as [] u2, true) ∷ (sent_as [] u1, true) ∷ (sent_as (1 ∷ []) u3, true) ∷ (backs (dg (81 ∷ 2 ∷ 0 ∷ 14 ∷ [])) 3, true) ∷ (sent_as (1 ∷ []) u4, true) ∷ (backs (dg (81 ∷ 2 ∷ 0 ∷ 14 ∷ [])) 2, true) ∷ (sent_as (1 ∷ []) u5, true) ∷ (backs (dg (81 ∷ 2 ∷ 0 ∷ 14 ∷ [])) 1, true) ∷ (sent_as (1 ∷ []) u6, true) ∷ []) ≡ ((Ok (receipt.Admitted 1) ∷ Ok (receipt.Admitted 0) ∷ Ok (receipt.Admitted 0) ∷ Err (cause.Local rule.NoBlock) ∷ Ok (receipt.Admitted 1) ∷ Err (cause.Local rule.PanoramaLength) ∷ Ok (receipt.Admitted 0) ∷ Ok (receipt.Admitted 1) ∷ Ok (receipt.Admitted 0) ∷ Ok (receipt.Admitted 1) ∷ Ok (receipt.Admitted 0) ∷ Ok (receipt.Dropped rule.EndorsedShrinks) ∷ []))
  pub settled : settled_of c k ≡ units
  pub parked : names_of (parked_of c k) ≡ []
  pub dropped : names_of (dropped_of c k) ≡ (dg (84 ∷ 3 ∷ 1 ∷ 16 ∷ []) ∷ [])
  pub panorama : panorama_of c k ≡ (Correct (dg (91 ∷ 0 ∷ 0 ∷ 15 ∷ [])) ∷ Absent ∷ Correct (dg (81 ∷ 2 ∷ 0 ∷ 14 ∷ [])) ∷ Faulty ∷ [])
  pub weight : faulty_weight c k ≡ 2
  pub fork : name_of (fork_choice c k) ≡ Some (dg (35 ∷ 3 ∷ 0 ∷ 12 ∷ []))
  pub endorsed : map (is_endorsed c k) (dg (81 ∷ 2 ∷ 0 ∷ 14 ∷ []) ∷ []) ≡ (true ∷ [])
  pub votes : votes_in c units ≡ (Some (dg (35 ∷ 3 ∷ 0 ∷ 12 ∷ [])) ∷ Some (dg (35 ∷ 3 ∷ 0 ∷ 12 ∷ [])) ∷ Some (dg (88 ∷ 3 ∷ 0 ∷ 8 ∷ [])) ∷ Some (dg (35 ∷ 3 ∷ 0 ∷ 12 ∷ [])) ∷ [])
  pub heights : parents_in c units ≡ ((None, 0) ∷ (None, 0) ∷ [])
  pub missing : map (missing_of c k units) (record { digest = dg (35 ∷ 3 ∷ 0 ∷ 12 ∷ []); unit = u1 } ∷ record { digest = dg (81 ∷ 2 ∷ 0 ∷ 14 ∷ []); unit = u4 } ∷ record { digest = dg (84 ∷ 3 ∷ 1 ∷ 16 ∷ []); unit = u6 } ∷ record { digest = dg (88 ∷ 3 ∷ 0 ∷ 8 ∷ []); unit = u0 } ∷ record { digest = dg (91 ∷ 0 ∷ 0 ∷ 15 ∷ []); unit = u5 } ∷ []) ≡ (([] ∷ [] ∷ [] ∷ [] ∷ [] ∷ []))
  pub rules : map (state_rule c units) (record { digest = dg (35 ∷ 3 ∷ 0 ∷ 12 ∷ []); unit = u1 } ∷ record { digest = dg (81 ∷ 2 ∷ 0 ∷ 14 ∷ []); unit = u4 } ∷ record { digest = dg (84 ∷ 3 ∷ 1 ∷ 16 ∷ []); unit = u6 } ∷ record { digest = dg (88 ∷ 3 ∷ 0 ∷ 8 ∷ []); unit = u0 } ∷ record { digest = dg (91 ∷ 0 ∷ 0 ∷ 15 ∷ []); unit = u5 } ∷ []) ≡ (None ∷ None ∷ Some (rule.EndorsedShrinks) ∷ None ∷ None ∷ [])
  pub naive : (has_naive_fork (past units (Correct (dg (91 ∷ 0 ∷ 0 ∷ 15 ∷ [])) ∷ Faulty ∷ Correct (dg (81 ∷ 2 ∷ 0 ∷ 14 ∷ [])) ∷ Correct (dg (88 ∷ 3 ∷ 0 ∷ 8 ∷ [])) ∷ [])) (dg (35 ∷ 3 ∷ 0 ∷ 12 ∷ []) ∷ dg (91 ∷ 0 ∷ 0 ∷ 15 ∷ []) ∷ []) ∷ has_naive_fork (past units (Correct (dg (91 ∷ 0 ∷ 0 ∷ 15 ∷ [])) ∷ Faulty ∷ Correct (dg (81 ∷ 2 ∷ 0 ∷ 14 ∷ [])) ∷ Correct (dg (88 ∷ 3 ∷ 0 ∷ 8 ∷ [])) ∷ [])) (dg (81 ∷ 2 ∷ 0 ∷ 14 ∷ []) ∷ []) ∷ has_naive_fork (past units (Correct (dg (91 ∷ 0 ∷ 0 ∷ 15 ∷ [])) ∷ Faulty ∷ Correct (dg (81 ∷ 2 ∷ 0 ∷ 14 ∷ [])) ∷ Correct (dg (88 ∷ 3 ∷ 0 ∷ 8 ∷ [])) ∷ [])) [] ∷ has_naive_fork (past units (Correct (dg (91 ∷ 0 ∷ 0 ∷ 15 ∷ [])) ∷ Absent ∷ Correct (dg (81 ∷ 2 ∷ 0 ∷ 14 ∷ [])) ∷ Correct (dg (88 ∷ 3 ∷ 0 ∷ 8 ∷ [])) ∷ [])) (dg (35 ∷ 3 ∷ 0 ∷ 12 ∷ []) ∷ dg (91 ∷ 0 ∷ 0 ∷ 15 ∷ []) ∷ []) ∷ []) ≡ (false ∷ false ∷ true ∷ false ∷ [])
  pub steps : (step s k 0 18 (118 ∷ []) ∷ step s k 0 13 (118 ∷ []) ∷ step s k 1 19 (118 ∷ []) ∷ step s k 1 14 (118 ∷ []) ∷ step s k 2 20 (118 ∷ []) ∷ step s k 2 14 (118 ∷ []) ∷ step s k 3 21 (118 ∷ []) ∷ step s k 3 12 (118 ∷ []) ∷ []) ≡ plans
  pub culprits : culprits_of s j j2 ≡ (3 ∷ [])
  pub pair3 : pair_of (shown_in_either s j j2) 3 ≡ Some (record { digest = dg (35 ∷ 3 ∷ 0 ∷ 12 ∷ []); unit = u1 }, record { digest = dg (88 ∷ 3 ∷ 0 ∷ 8 ∷ []); unit = u0 })
  pub summits : (committee_test c.weights units (Correct (dg (91 ∷ 0 ∷ 0 ∷ 15 ∷ [])) ∷ Absent ∷ Correct (dg (81 ∷ 2 ∷ 0 ∷ 14 ∷ [])) ∷ Faulty ∷ []) (record { digest = dg (88 ∷ 3 ∷ 0 ∷ 8 ∷ []); unit = record { instance = dg (0 ∷ 0 ∷ 0 ∷ 0 ∷ []); creator = 3; seq = 0; time = 8; exponent = 2; panorama = (Absent ∷ Absent ∷ Absent ∷ Absent ∷ []); value = Some ((121 ∷ 122 ∷ [])); endorsed = [] } }) 1 5 (((0, 0) ∷ (2, 0) ∷ []) ∷ ((0, 0) ∷ (2, 0) ∷ []) ∷ []) ∷ committee_test c.weights units (Correct (dg (91 ∷ 0 ∷ 0 ∷ 15 ∷ [])) ∷ Absent ∷ Correct (dg (81 ∷ 2 ∷ 0 ∷ 14 ∷ [])) ∷ Faulty ∷ []) (record { digest = dg (88 ∷ 3 ∷ 0 ∷ 8 ∷ []); unit = record { instance = dg (0 ∷ 0 ∷ 0 ∷ 0 ∷ []); creator = 3; seq = 0; time = 8; exponent = 2; panorama = (Absent ∷ Absent ∷ Absent ∷ Absent ∷ []); value = Some ((121 ∷ 122 ∷ [])); endorsed = [] } }) 1 5 (((2, 0) ∷ []) ∷ ((2, 0) ∷ []) ∷ []) ∷ committee_test c.weights units (Correct (dg (91 ∷ 0 ∷ 0 ∷ 15 ∷ [])) ∷ Absent ∷ Correct (dg (81 ∷ 2 ∷ 0 ∷ 14 ∷ [])) ∷ Faulty ∷ []) (record { digest = dg (35 ∷ 3 ∷ 0 ∷ 12 ∷ []); unit = record { instance = dg (0 ∷ 0 ∷ 0 ∷ 0 ∷ []); creator = 3; seq = 0; time = 12; exponent = 2; panorama = (Absent ∷ Absent ∷ Absent ∷ Absent ∷ []); value = Some ((121 ∷ 122 ∷ [])); endorsed = [] } }) 1 5 (((0, 0) ∷ (2, 0) ∷ []) ∷ ((0, 0) ∷ (2, 0) ∷ []) ∷ []) ∷ committee_test c.weights units (Correct (dg (91 ∷ 0 ∷ 0 ∷ 15 ∷ [])) ∷ Absent ∷ Correct (dg (81 ∷ 2 ∷ 0 ∷ 14 ∷ [])) ∷ Faulty ∷ []) (record { digest = dg (35 ∷ 3 ∷ 0 ∷ 12 ∷ []); unit = record { instance = dg (0 ∷ 0 ∷ 0 ∷ 0 ∷ []); creator = 3; seq = 0; time = 12; exponent = 2; panorama = (Absent ∷ Absent ∷ Absent ∷ Absent ∷ []); value = Some ((121 ∷ 122 ∷ [])); endorsed = [] } }) 1 5 (((0, 0) ∷ []) ∷ [] ∷ []) ∷ committee_test c.weights units (Absent ∷ Absent ∷ Absent ∷ Correct (dg (35 ∷ 3 ∷ 0 ∷ 12 ∷ [])) ∷ []) (record { digest = dg (35 ∷ 3 ∷ 0 ∷ 12 ∷ []); unit = record { instance = dg (0 ∷ 0 ∷ 0 ∷ 0 ∷ []); creator = 3; seq = 0; time = 12; exponent = 2; panorama = (Absent ∷ Absent ∷ Absent ∷ Absent ∷ []); value = Some ((121 ∷ 122 ∷ [])); endorsed = [] } }) 1 3 (((3, 0) ∷ []) ∷ ((3, 0) ∷ []) ∷ []) ∷ committee_test c.weights units (Absent ∷ Absent ∷ Absent ∷ Correct (dg (35 ∷ 3 ∷ 0 ∷ 12 ∷ [])) ∷ []) (record { digest = dg (35 ∷ 3 ∷ 0 ∷ 12 ∷ []); unit = record { instance = dg (0 ∷ 0 ∷ 0 ∷ 0 ∷ []); creator = 3; seq = 0; time = 12; exponent = 2; panorama = (Absent ∷ Absent ∷ Absent ∷ Absent ∷ []); value = Some ((121 ∷ 122 ∷ [])); endorsed = [] } }) 1 3 (((3, 0) ∷ []) ∷ ((3, 0) ∷ []) ∷ []) ∷ committee_test c.weights units (Absent ∷ Absent ∷ Absent ∷ Correct (dg (35 ∷ 3 ∷ 0 ∷ 12 ∷ [])) ∷ []) (record { digest = dg (88 ∷ 3 ∷ 0 ∷ 8 ∷ []); unit = record { instance = dg (0 ∷ 0 ∷ 0 ∷ 0 ∷ []); creator = 3; seq = 0; time = 8; exponent = 2; panorama = (Absent ∷ Absent ∷ Absent ∷ Absent ∷ []); value = Some ((121 ∷ 122 ∷ [])); endorsed = [] } }) 1 7 (((3, 0) ∷ []) ∷ [] ∷ []) ∷ committee_test c.weights units (Absent ∷ Absent ∷ Absent ∷ Correct (dg (35 ∷ 3 ∷ 0 ∷ 12 ∷ [])) ∷ []) (record { digest = dg (88 ∷ 3 ∷ 0 ∷ 8 ∷ []); unit = record { instance = dg (0 ∷ 0 ∷ 0 ∷ 0 ∷ []); creator = 3; seq = 0; time = 8; exponent = 2; panorama = (Absent ∷ Absent ∷ Absent ∷ Absent ∷ []); value = Some ((121 ∷ 122 ∷ [])); endorsed = [] } }) 1 7 (((3, 0) ∷ []) ∷ [] ∷ []) ∷ []) ≡ (false ∷ false ∷ false ∷ false ∷ false ∷ false ∷ false ∷ false ∷ [])
