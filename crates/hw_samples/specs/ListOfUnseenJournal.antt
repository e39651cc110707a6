-- Lists name endorsed units that are not below: dropped.
-- The values are those of a second reading of the definitions, written apart from them; the two agree.
use Rattle.std.specs.Prelude.{◌≡◌, true, false, List, [], ◌∷◌, map, Option, Some, None, Ok}
use Rattle.hw_types.specs.declared.unit.Obs.TheVariants.{Absent, Correct}
use Rattle.hw_types.specs.declared.unit.WireUnit.{WireUnit}
use Rattle.hw_types.specs.declared.unit.Vertex.{Vertex}
use Rattle.hw_types.specs.declared.config.Config.{Config}
use Rattle.hw_types.specs.declared.answers.Plan.{Plan}
use Rattle.hw_types.specs.declared.answers.PlanKind.TheVariants as kind
use Rattle.hw_types.specs.declared.config.Leaders.TheVariants.{Table}
use Rattle.hw_types.specs.declared.answers.Rule.TheVariants as rule
use Rattle.hw_types.specs.declared.answers.Receipt.TheVariants as receipt
use Rattle.hw_types.specs.Graph.{Node}
use Rattle.hw_types.specs.Rules.{state_rule}
use Rattle.hw_types.specs.Settled.{Received, settled_of, parked_of, dropped_of, missing_of, panorama_of, faulty_weight, fork_choice, is_endorsed}
use Rattle.hw_types.specs.Journal.{Setting, received_of, journal_of, answers_from}
use Rattle.hw_types.specs.Step.{step}
use Rattle.hw_samples.specs.Words.{names_of, name_of}
use Rattle.hw_samples.specs.JournalWords.{dg, sent_as, backs, mixed, named_by, votes_in, parents_in, committee_test}

abbrev c : Config
c = record { weights = (1 ∷ 1 ∷ 1 ∷ []); ftt = 0; levels = 2; min_exponent = 2; max_exponent = 4; leaders = Table (0 ∷ []); max_records = 131072; max_parked = 4096; end = None }

abbrev s : Setting
s = named_by mixed c

abbrev u0 : WireUnit
u0 = record { instance = dg (0 ∷ 0 ∷ 0 ∷ 0 ∷ []); creator = 0; seq = 0; time = 8; exponent = 2; panorama = (Absent ∷ Absent ∷ Absent ∷ []); value = Some ((120 ∷ [])); endorsed = [] }

abbrev u1 : WireUnit
u1 = record { instance = dg (0 ∷ 0 ∷ 0 ∷ 0 ∷ []); creator = 1; seq = 0; time = 9; exponent = 2; panorama = (Correct (dg (40 ∷ 0 ∷ 0 ∷ 8 ∷ [])) ∷ Absent ∷ Absent ∷ []); value = None; endorsed = [] }

abbrev u2 : WireUnit
u2 = record { instance = dg (0 ∷ 0 ∷ 0 ∷ 0 ∷ []); creator = 2; seq = 0; time = 10; exponent = 2; panorama = (Correct (dg (40 ∷ 0 ∷ 0 ∷ 8 ∷ [])) ∷ Absent ∷ Absent ∷ []); value = None; endorsed = (dg (18 ∷ 1 ∷ 0 ∷ 9 ∷ []) ∷ []) }

abbrev u3 : WireUnit
u3 = record { instance = dg (0 ∷ 0 ∷ 0 ∷ 0 ∷ []); creator = 2; seq = 0; time = 10; exponent = 3; panorama = (Correct (dg (40 ∷ 0 ∷ 0 ∷ 8 ∷ [])) ∷ Correct (dg (18 ∷ 1 ∷ 0 ∷ 9 ∷ [])) ∷ Absent ∷ []); value = None; endorsed = (dg (1 ∷ 1 ∷ 1 ∷ 1 ∷ []) ∷ []) }

abbrev j_shuffled : List Vertex
j_shuffled = (backs (dg (1 ∷ 1 ∷ 1 ∷ 1 ∷ [])) 0 ∷ sent_as [] u2 ∷ backs (dg (18 ∷ 1 ∷ 0 ∷ 9 ∷ [])) 0 ∷ sent_as [] u3 ∷ sent_as [] u0 ∷ sent_as [] u1 ∷ backs (dg (18 ∷ 1 ∷ 0 ∷ 9 ∷ [])) 1 ∷ backs (dg (1 ∷ 1 ∷ 1 ∷ 1 ∷ [])) 2 ∷ [])

abbrev j : List Vertex
j = (backs (dg (18 ∷ 1 ∷ 0 ∷ 9 ∷ [])) 0 ∷ backs (dg (18 ∷ 1 ∷ 0 ∷ 9 ∷ [])) 1 ∷ backs (dg (1 ∷ 1 ∷ 1 ∷ 1 ∷ [])) 0 ∷ backs (dg (1 ∷ 1 ∷ 1 ∷ 1 ∷ [])) 2 ∷ sent_as [] u0 ∷ sent_as [] u1 ∷ sent_as [] u2 ∷ sent_as [] u3 ∷ [])

abbrev k : Received
k = received_of s j

abbrev units : List Node
units = (record { digest = dg (18 ∷ 1 ∷ 0 ∷ 9 ∷ []); unit = u1 } ∷ record { digest = dg (40 ∷ 0 ∷ 0 ∷ 8 ∷ []); unit = u0 } ∷ [])

abbrev plans : List (Option Plan)
plans = (Some (record { kind = kind.Propose; unit = record { instance = dg (0 ∷ 0 ∷ 0 ∷ 0 ∷ []); creator = 0; seq = 1; time = 12; exponent = 2; panorama = (Correct (dg (40 ∷ 0 ∷ 0 ∷ 8 ∷ [])) ∷ Correct (dg (18 ∷ 1 ∷ 0 ∷ 9 ∷ [])) ∷ Absent ∷ []); value = Some ((118 ∷ [])); endorsed = (dg (18 ∷ 1 ∷ 0 ∷ 9 ∷ []) ∷ []) } }) ∷ None ∷ None ∷ Some (record { kind = kind.Witness; unit = record { instance = dg (0 ∷ 0 ∷ 0 ∷ 0 ∷ []); creator = 1; seq = 1; time = 14; exponent = 2; panorama = (Correct (dg (40 ∷ 0 ∷ 0 ∷ 8 ∷ [])) ∷ Correct (dg (18 ∷ 1 ∷ 0 ∷ 9 ∷ [])) ∷ Absent ∷ []); value = None; endorsed = (dg (18 ∷ 1 ∷ 0 ∷ 9 ∷ []) ∷ []) } }) ∷ Some (record { kind = kind.Witness; unit = record { instance = dg (0 ∷ 0 ∷ 0 ∷ 0 ∷ []); creator = 2; seq = 0; time = 15; exponent = 2; panorama = (Correct (dg (40 ∷ 0 ∷ 0 ∷ 8 ∷ [])) ∷ Correct (dg (18 ∷ 1 ∷ 0 ∷ 9 ∷ [])) ∷ Absent ∷ []); value = None; endorsed = (dg (18 ∷ 1 ∷ 0 ∷ 9 ∷ []) ∷ []) } }) ∷ None ∷ [])

pub record ListOfUnseenJournal : Type 0 where
  pub answers : answers_from s [] ((backs (dg (18 ∷ 1 ∷ 0 ∷ 9 ∷ [])) 0, true) ∷ (backs (dg (18 ∷ 1 ∷ 0 ∷ 9 ∷ [])) 1, true) ∷ (backs (dg (1 ∷ 1 ∷ 1 ∷ 1 ∷ [])) 0, true) ∷ (backs (dg (1 ∷ 1 ∷ 1 ∷ 1 ∷ [])) 2, true) ∷ (sent_as [] u0, true) ∷ (sent_as [] u1, true) ∷ (sent_as [] u2, true) ∷ (sent_as [] u3, true) ∷ []) ≡ ((Ok (receipt.Admitted 0) ∷ Ok (receipt.Admitted 0) ∷ Ok (receipt.Admitted 0) ∷ Ok (receipt.Admitted 0) ∷ Ok (receipt.Admitted 1) ∷ Ok (receipt.Admitted 1) ∷ Ok (receipt.Dropped rule.EndorsedUnseen) ∷ Ok (receipt.Dropped rule.EndorsedUnseen) ∷ []))
  pub order : received_of s j_shuffled ≡ k
  pub kept : journal_of s ((backs (dg (18 ∷ 1 ∷ 0 ∷ 9 ∷ [])) 0, true) ∷ (backs (dg (18 ∷ 1 ∷ 0 ∷ 9 ∷ [])) 1, true) ∷ (backs (dg (1 ∷ 1 ∷ 1 ∷ 1 ∷ [])) 0, true) ∷ (backs (dg (1 ∷ 1 ∷ 1 ∷ 1 ∷ [])) 2, true) ∷ (sent_as [] u0, true) ∷ (sent_as [] u1, true) ∷ (sent_as [] u2, true) ∷ (sent_as [] u3, true) ∷ []) ≡ j
  pub settled : settled_of c k ≡ units
  pub parked : names_of (parked_of c k) ≡ []
  pub dropped : names_of (dropped_of c k) ≡ (dg (49 ∷ 2 ∷ 0 ∷ 10 ∷ []) ∷ dg (52 ∷ 2 ∷ 0 ∷ 10 ∷ []) ∷ [])
  pub panorama : panorama_of c k ≡ (Correct (dg (40 ∷ 0 ∷ 0 ∷ 8 ∷ [])) ∷ Correct (dg (18 ∷ 1 ∷ 0 ∷ 9 ∷ [])) ∷ Absent ∷ [])
  pub weight : faulty_weight c k ≡ 0
  pub fork : name_of (fork_choice c k) ≡ Some (dg (40 ∷ 0 ∷ 0 ∷ 8 ∷ []))
  pub endorsed : map (is_endorsed c k) (dg (1 ∷ 1 ∷ 1 ∷ 1 ∷ []) ∷ dg (18 ∷ 1 ∷ 0 ∷ 9 ∷ []) ∷ []) ≡ (true ∷ true ∷ [])
  pub votes : votes_in c units ≡ (Some (dg (40 ∷ 0 ∷ 0 ∷ 8 ∷ [])) ∷ Some (dg (40 ∷ 0 ∷ 0 ∷ 8 ∷ [])) ∷ [])
  pub heights : parents_in c units ≡ ((None, 0) ∷ [])
  pub missing : map (missing_of c k units) (record { digest = dg (18 ∷ 1 ∷ 0 ∷ 9 ∷ []); unit = u1 } ∷ record { digest = dg (40 ∷ 0 ∷ 0 ∷ 8 ∷ []); unit = u0 } ∷ record { digest = dg (49 ∷ 2 ∷ 0 ∷ 10 ∷ []); unit = u2 } ∷ record { digest = dg (52 ∷ 2 ∷ 0 ∷ 10 ∷ []); unit = u3 } ∷ []) ≡ (([] ∷ [] ∷ [] ∷ [] ∷ []))
  pub rules : map (state_rule c units) (record { digest = dg (18 ∷ 1 ∷ 0 ∷ 9 ∷ []); unit = u1 } ∷ record { digest = dg (40 ∷ 0 ∷ 0 ∷ 8 ∷ []); unit = u0 } ∷ record { digest = dg (49 ∷ 2 ∷ 0 ∷ 10 ∷ []); unit = u2 } ∷ record { digest = dg (52 ∷ 2 ∷ 0 ∷ 10 ∷ []); unit = u3 } ∷ []) ≡ (None ∷ None ∷ Some (rule.EndorsedUnseen) ∷ Some (rule.EndorsedUnseen) ∷ [])
  pub steps : (step s k 0 12 (118 ∷ []) ∷ step s k 0 7 (118 ∷ []) ∷ step s k 1 7 (118 ∷ []) ∷ step s k 1 14 (118 ∷ []) ∷ step s k 2 15 (118 ∷ []) ∷ step s k 2 13 (118 ∷ []) ∷ []) ≡ plans
  pub summits : (committee_test c.weights units (Correct (dg (40 ∷ 0 ∷ 0 ∷ 8 ∷ [])) ∷ Correct (dg (18 ∷ 1 ∷ 0 ∷ 9 ∷ [])) ∷ Absent ∷ []) (record { digest = dg (40 ∷ 0 ∷ 0 ∷ 8 ∷ []); unit = record { instance = dg (0 ∷ 0 ∷ 0 ∷ 0 ∷ []); creator = 0; seq = 0; time = 8; exponent = 2; panorama = (Absent ∷ Absent ∷ Absent ∷ []); value = Some ((120 ∷ [])); endorsed = [] } }) 1 2 (((0, 0) ∷ (1, 0) ∷ []) ∷ ((0, 0) ∷ (1, 0) ∷ []) ∷ []) ∷ committee_test c.weights units (Correct (dg (40 ∷ 0 ∷ 0 ∷ 8 ∷ [])) ∷ Correct (dg (18 ∷ 1 ∷ 0 ∷ 9 ∷ [])) ∷ Absent ∷ []) (record { digest = dg (40 ∷ 0 ∷ 0 ∷ 8 ∷ []); unit = record { instance = dg (0 ∷ 0 ∷ 0 ∷ 0 ∷ []); creator = 0; seq = 0; time = 8; exponent = 2; panorama = (Absent ∷ Absent ∷ Absent ∷ []); value = Some ((120 ∷ [])); endorsed = [] } }) 1 2 (((0, 0) ∷ (1, 0) ∷ []) ∷ ((0, 0) ∷ (1, 0) ∷ []) ∷ []) ∷ committee_test c.weights units (Correct (dg (40 ∷ 0 ∷ 0 ∷ 8 ∷ [])) ∷ Correct (dg (18 ∷ 1 ∷ 0 ∷ 9 ∷ [])) ∷ Absent ∷ []) (record { digest = dg (40 ∷ 0 ∷ 0 ∷ 8 ∷ []); unit = record { instance = dg (0 ∷ 0 ∷ 0 ∷ 0 ∷ []); creator = 0; seq = 0; time = 8; exponent = 2; panorama = (Absent ∷ Absent ∷ Absent ∷ []); value = Some ((120 ∷ [])); endorsed = [] } }) 2 3 ([] ∷ [] ∷ [] ∷ []) ∷ committee_test c.weights units (Correct (dg (40 ∷ 0 ∷ 0 ∷ 8 ∷ [])) ∷ Correct (dg (18 ∷ 1 ∷ 0 ∷ 9 ∷ [])) ∷ Absent ∷ []) (record { digest = dg (40 ∷ 0 ∷ 0 ∷ 8 ∷ []); unit = record { instance = dg (0 ∷ 0 ∷ 0 ∷ 0 ∷ []); creator = 0; seq = 0; time = 8; exponent = 2; panorama = (Absent ∷ Absent ∷ Absent ∷ []); value = Some ((120 ∷ [])); endorsed = [] } }) 2 3 (((0, 0) ∷ (1, 0) ∷ []) ∷ ((0, 0) ∷ (1, 0) ∷ []) ∷ ((1, 0) ∷ []) ∷ []) ∷ committee_test c.weights units (Absent ∷ Absent ∷ Absent ∷ []) (record { digest = dg (40 ∷ 0 ∷ 0 ∷ 8 ∷ []); unit = record { instance = dg (0 ∷ 0 ∷ 0 ∷ 0 ∷ []); creator = 0; seq = 0; time = 8; exponent = 2; panorama = (Absent ∷ Absent ∷ Absent ∷ []); value = Some ((120 ∷ [])); endorsed = [] } }) 1 2 ([] ∷ [] ∷ []) ∷ committee_test c.weights units (Absent ∷ Absent ∷ Absent ∷ []) (record { digest = dg (40 ∷ 0 ∷ 0 ∷ 8 ∷ []); unit = record { instance = dg (0 ∷ 0 ∷ 0 ∷ 0 ∷ []); creator = 0; seq = 0; time = 8; exponent = 2; panorama = (Absent ∷ Absent ∷ Absent ∷ []); value = Some ((120 ∷ [])); endorsed = [] } }) 1 2 ([] ∷ [] ∷ []) ∷ committee_test c.weights units (Absent ∷ Absent ∷ Absent ∷ []) (record { digest = dg (40 ∷ 0 ∷ 0 ∷ 8 ∷ []); unit = record { instance = dg (0 ∷ 0 ∷ 0 ∷ 0 ∷ []); creator = 0; seq = 0; time = 8; exponent = 2; panorama = (Absent ∷ Absent ∷ Absent ∷ []); value = Some ((120 ∷ [])); endorsed = [] } }) 2 2 ([] ∷ [] ∷ [] ∷ []) ∷ committee_test c.weights units (Absent ∷ Absent ∷ Absent ∷ []) (record { digest = dg (40 ∷ 0 ∷ 0 ∷ 8 ∷ []); unit = record { instance = dg (0 ∷ 0 ∷ 0 ∷ 0 ∷ []); creator = 0; seq = 0; time = 8; exponent = 2; panorama = (Absent ∷ Absent ∷ Absent ∷ []); value = Some ((120 ∷ [])); endorsed = [] } }) 2 2 ([] ∷ [] ∷ [] ∷ []) ∷ []) ≡ (false ∷ false ∷ false ∷ false ∷ false ∷ false ∷ false ∷ false ∷ [])
