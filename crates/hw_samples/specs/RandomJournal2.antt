-- A random journal: a random choice of units that cite random earlier ones, endorsements and evidence, in random order.
-- The values are those of a second reading of the definitions, written apart from them; the two agree.
use Rattle.std.specs.Prelude.{◌≡◌, true, false, List, [], ◌∷◌, map, Option, Some, None, Ok, Err}
use Rattle.hw_types.specs.declared.unit.Obs.TheVariants.{Absent, Correct, Faulty}
use Rattle.hw_types.specs.declared.unit.WireUnit.{WireUnit}
use Rattle.hw_types.specs.declared.unit.Need.TheVariants as need
use Rattle.hw_types.specs.declared.unit.Vertex.{Vertex}
use Rattle.hw_types.specs.declared.config.Config.{Config}
use Rattle.hw_types.specs.declared.answers.Plan.{Plan}
use Rattle.hw_types.specs.declared.answers.PlanKind.TheVariants as kind
use Rattle.hw_types.specs.declared.config.Leaders.TheVariants.{Table}
use Rattle.hw_types.specs.declared.answers.Rule.TheVariants as rule
use Rattle.hw_types.specs.declared.answers.PairFault.TheVariants as fault
use Rattle.hw_types.specs.declared.answers.Receipt.TheVariants as receipt
use Rattle.hw_types.specs.declared.answers.Cause.TheVariants as cause
use Rattle.hw_types.specs.Graph.{Node}
use Rattle.hw_types.specs.Rules.{state_rule}
use Rattle.hw_types.specs.Settled.{Received, settled_of, parked_of, dropped_of, missing_of, panorama_of, faulty_weight, fork_choice, is_endorsed}
use Rattle.hw_types.specs.Journal.{Setting, received_of, answers_from}
use Rattle.hw_types.specs.Step.{step}
use Rattle.hw_samples.specs.Words.{names_of, name_of}
use Rattle.hw_samples.specs.JournalWords.{dg, sent_as, both_as, backs, mixed, named_by, votes_in, parents_in, committee_test}

abbrev c : Config
c = record { weights = (3 ∷ 2 ∷ 2 ∷ []); ftt = 0; levels = 2; min_exponent = 2; max_exponent = 4; leaders = Table (0 ∷ 1 ∷ 0 ∷ []); max_records = 131072; max_parked = 4096; end = None }

abbrev s : Setting
s = named_by mixed c

abbrev u0 : WireUnit
u0 = record { instance = dg (0 ∷ 0 ∷ 0 ∷ 0 ∷ []); creator = 1; seq = 3; time = 16; exponent = 2; panorama = (Correct (dg (83 ∷ 0 ∷ 1 ∷ 12 ∷ [])) ∷ Faulty ∷ Absent ∷ []); value = Some ((120 ∷ [])); endorsed = (dg (43 ∷ 3 ∷ 0 ∷ 4 ∷ []) ∷ dg (66 ∷ 0 ∷ 0 ∷ 8 ∷ []) ∷ []) }

abbrev u1 : WireUnit
u1 = record { instance = dg (0 ∷ 0 ∷ 0 ∷ 0 ∷ []); creator = 2; seq = 0; time = 24; exponent = 2; panorama = (Correct (dg (83 ∷ 0 ∷ 1 ∷ 12 ∷ [])) ∷ Correct (dg (8 ∷ 1 ∷ 3 ∷ 16 ∷ [])) ∷ Absent ∷ []); value = None; endorsed = (dg (43 ∷ 3 ∷ 0 ∷ 4 ∷ []) ∷ dg (83 ∷ 0 ∷ 1 ∷ 12 ∷ []) ∷ []) }

abbrev u2 : WireUnit
u2 = record { instance = dg (1 ∷ 0 ∷ 0 ∷ 0 ∷ []); creator = 1; seq = 3; time = 16; exponent = 2; panorama = (Correct (dg (83 ∷ 0 ∷ 1 ∷ 12 ∷ [])) ∷ Correct (dg (96 ∷ 1 ∷ 2 ∷ 14 ∷ [])) ∷ Absent ∷ []); value = Some ((121 ∷ 122 ∷ [])); endorsed = (dg (43 ∷ 3 ∷ 0 ∷ 4 ∷ []) ∷ dg (83 ∷ 0 ∷ 1 ∷ 12 ∷ []) ∷ []) }

abbrev u3 : WireUnit
u3 = record { instance = dg (0 ∷ 0 ∷ 0 ∷ 0 ∷ []); creator = 3; seq = 0; time = 4; exponent = 2; panorama = (Absent ∷ Absent ∷ Absent ∷ []); value = Some ((121 ∷ 122 ∷ [])); endorsed = [] }

abbrev u4 : WireUnit
u4 = record { instance = dg (0 ∷ 0 ∷ 0 ∷ 0 ∷ []); creator = 1; seq = 2; time = 14; exponent = 2; panorama = (Correct (dg (83 ∷ 0 ∷ 1 ∷ 12 ∷ [])) ∷ Correct (dg (69 ∷ 1 ∷ 1 ∷ 12 ∷ [])) ∷ Absent ∷ []); value = None; endorsed = (dg (43 ∷ 3 ∷ 0 ∷ 4 ∷ []) ∷ []) }

abbrev u5 : WireUnit
u5 = record { instance = dg (0 ∷ 0 ∷ 0 ∷ 0 ∷ []); creator = 0; seq = 0; time = 8; exponent = 2; panorama = (Absent ∷ Absent ∷ Absent ∷ []); value = Some ((121 ∷ 122 ∷ [])); endorsed = [] }

abbrev u6 : WireUnit
u6 = record { instance = dg (0 ∷ 0 ∷ 0 ∷ 0 ∷ []); creator = 1; seq = 0; time = 8; exponent = 2; panorama = (Absent ∷ Absent ∷ Absent ∷ []); value = None; endorsed = [] }

abbrev u7 : WireUnit
u7 = record { instance = dg (0 ∷ 0 ∷ 0 ∷ 0 ∷ []); creator = 0; seq = 1; time = 12; exponent = 0; panorama = (Correct (dg (66 ∷ 0 ∷ 0 ∷ 8 ∷ [])) ∷ Absent ∷ Absent ∷ []); value = Some ((120 ∷ [])); endorsed = [] }

abbrev u8 : WireUnit
u8 = record { instance = dg (0 ∷ 0 ∷ 0 ∷ 0 ∷ []); creator = 1; seq = 1; time = 12; exponent = 2; panorama = (Correct (dg (83 ∷ 0 ∷ 1 ∷ 12 ∷ [])) ∷ Correct (dg (7 ∷ 1 ∷ 0 ∷ 8 ∷ [])) ∷ Absent ∷ []); value = None; endorsed = (dg (43 ∷ 3 ∷ 0 ∷ 4 ∷ []) ∷ []) }

abbrev j : List Vertex
j = (backs (dg (43 ∷ 3 ∷ 0 ∷ 4 ∷ [])) 2 ∷ sent_as [] u1 ∷ backs (dg (66 ∷ 0 ∷ 0 ∷ 8 ∷ [])) 0 ∷ backs (dg (66 ∷ 0 ∷ 0 ∷ 8 ∷ [])) 1 ∷ backs (dg (83 ∷ 0 ∷ 1 ∷ 12 ∷ [])) 1 ∷ backs (dg (66 ∷ 0 ∷ 0 ∷ 8 ∷ [])) 2 ∷ backs (dg (43 ∷ 3 ∷ 0 ∷ 4 ∷ [])) 1 ∷ backs (dg (69 ∷ 1 ∷ 1 ∷ 12 ∷ [])) 0 ∷ sent_as [] u4 ∷ sent_as (1 ∷ []) u5 ∷ sent_as (1 ∷ []) u8 ∷ backs (dg (83 ∷ 0 ∷ 1 ∷ 12 ∷ [])) 0 ∷ [])

abbrev k : Received
k = received_of s j

abbrev units : List Node
units = (record { digest = dg (66 ∷ 0 ∷ 0 ∷ 8 ∷ []); unit = u5 } ∷ [])

abbrev plans : List (Option Plan)
plans = (None ∷ None ∷ None ∷ Some (record { kind = kind.Propose; unit = record { instance = dg (0 ∷ 0 ∷ 0 ∷ 0 ∷ []); creator = 1; seq = 0; time = 4; exponent = 2; panorama = (Absent ∷ Absent ∷ Absent ∷ []); value = Some ((118 ∷ [])); endorsed = [] } }) ∷ Some (record { kind = kind.Confirm; unit = record { instance = dg (0 ∷ 0 ∷ 0 ∷ 0 ∷ []); creator = 2; seq = 0; time = 8; exponent = 2; panorama = (Correct (dg (66 ∷ 0 ∷ 0 ∷ 8 ∷ [])) ∷ Absent ∷ Absent ∷ []); value = None; endorsed = (dg (66 ∷ 0 ∷ 0 ∷ 8 ∷ []) ∷ []) } }) ∷ None ∷ [])

pub record RandomJournal2 : Type 0 where
  pub answers : answers_from s [] ((sent_as (1 ∷ []) u0, true) ∷ (backs (dg (43 ∷ 3 ∷ 0 ∷ 4 ∷ [])) 2, true) ∷ (sent_as [] u1, true) ∷ (backs (dg (66 ∷ 0 ∷ 0 ∷ 8 ∷ [])) 0, true) ∷ (backs (dg (66 ∷ 0 ∷ 0 ∷ 8 ∷ [])) 1, true) ∷ (backs (dg (83 ∷ 0 ∷ 1 ∷ 12 ∷ [])) 1, true) ∷ (both_as [] u2 [] u0, true) ∷ (sent_as [] u3, true) ∷ (backs (dg (66 ∷ 0 ∷ 0 ∷ 8 ∷ [])) 2, true) ∷ (backs (dg (43 ∷ 3 ∷ 0 ∷ 4 ∷ [])) 1, true) ∷ (sent_as [] u2, true) ∷ (backs (dg (69 ∷ 1 ∷ 1 ∷ 12 ∷ [])) 0, true) ∷ (sent_as [] u4, true) ∷ (sent_as (1 ∷ []) u5, true) ∷ (both_as (2 ∷ []) u0 [] u2, true) ∷ (sent_as [] u6, true) ∷ (sent_as (1 ∷ []) u7, true) ∷ (sent_as (1 ∷ []) u8, true) ∷ (backs (dg (83 ∷ 0 ∷ 1 ∷ 12 ∷ [])) 0, true) ∷ []) ≡ ((Err (cause.Local rule.FaultySelf) ∷ Ok (receipt.Admitted 0) ∷ Ok (receipt.Parked 4) ∷ Ok (receipt.Admitted 0) ∷ Ok (receipt.Admitted 0) ∷ Ok (receipt.Admitted 0) ∷ Err (cause.Pair fault.Instance) ∷ Err (cause.Local rule.UnknownCreator) ∷ Ok (receipt.Admitted 0) ∷ Ok (receipt.Admitted 0) ∷ Err (cause.Local rule.WrongInstance) ∷ Ok (receipt.Admitted 0) ∷ Ok (receipt.Parked 2) ∷ Ok (receipt.Admitted 1) ∷ Err (cause.Pair fault.Instance) ∷ Err (cause.Local rule.NoBlock) ∷ Err (cause.Local rule.RoundExponent) ∷ Ok (receipt.Parked 2) ∷ Ok (receipt.Admitted 0) ∷ []))
  pub settled : settled_of c k ≡ units
  pub parked : names_of (parked_of c k) ≡ (dg (22 ∷ 2 ∷ 0 ∷ 24 ∷ []) ∷ dg (69 ∷ 1 ∷ 1 ∷ 12 ∷ []) ∷ dg (96 ∷ 1 ∷ 2 ∷ 14 ∷ []) ∷ [])
  pub dropped : names_of (dropped_of c k) ≡ []
  pub panorama : panorama_of c k ≡ (Correct (dg (66 ∷ 0 ∷ 0 ∷ 8 ∷ [])) ∷ Absent ∷ Absent ∷ [])
  pub weight : faulty_weight c k ≡ 0
  pub fork : name_of (fork_choice c k) ≡ Some (dg (66 ∷ 0 ∷ 0 ∷ 8 ∷ []))
  pub endorsed : map (is_endorsed c k) (dg (43 ∷ 3 ∷ 0 ∷ 4 ∷ []) ∷ dg (66 ∷ 0 ∷ 0 ∷ 8 ∷ []) ∷ dg (69 ∷ 1 ∷ 1 ∷ 12 ∷ []) ∷ dg (83 ∷ 0 ∷ 1 ∷ 12 ∷ []) ∷ []) ≡ (true ∷ true ∷ false ∷ true ∷ [])
  pub votes : votes_in c units ≡ (Some (dg (66 ∷ 0 ∷ 0 ∷ 8 ∷ [])) ∷ [])
  pub heights : parents_in c units ≡ ((None, 0) ∷ [])
  pub missing : map (missing_of c k units) (record { digest = dg (22 ∷ 2 ∷ 0 ∷ 24 ∷ []); unit = u1 } ∷ record { digest = dg (66 ∷ 0 ∷ 0 ∷ 8 ∷ []); unit = u5 } ∷ record { digest = dg (69 ∷ 1 ∷ 1 ∷ 12 ∷ []); unit = u8 } ∷ record { digest = dg (96 ∷ 1 ∷ 2 ∷ 14 ∷ []); unit = u4 } ∷ []) ≡ (((need.Unit (dg (83 ∷ 0 ∷ 1 ∷ 12 ∷ [])) ∷ need.Unit (dg (8 ∷ 1 ∷ 3 ∷ 16 ∷ [])) ∷ []) ∷ [] ∷ (need.Unit (dg (83 ∷ 0 ∷ 1 ∷ 12 ∷ [])) ∷ need.Unit (dg (7 ∷ 1 ∷ 0 ∷ 8 ∷ [])) ∷ []) ∷ (need.Unit (dg (83 ∷ 0 ∷ 1 ∷ 12 ∷ [])) ∷ need.Unit (dg (69 ∷ 1 ∷ 1 ∷ 12 ∷ [])) ∷ []) ∷ []))
  pub rules : map (state_rule c units) (record { digest = dg (66 ∷ 0 ∷ 0 ∷ 8 ∷ []); unit = u5 } ∷ []) ≡ (None ∷ [])
  pub steps : (step s k 0 6 (118 ∷ []) ∷ step s k 0 9 (118 ∷ []) ∷ step s k 1 12 (118 ∷ []) ∷ step s k 1 4 (118 ∷ []) ∷ step s k 2 8 (118 ∷ []) ∷ step s k 2 6 (118 ∷ []) ∷ []) ≡ plans
  pub summits : (committee_test c.weights units (Correct (dg (66 ∷ 0 ∷ 0 ∷ 8 ∷ [])) ∷ Absent ∷ Absent ∷ []) (record { digest = dg (66 ∷ 0 ∷ 0 ∷ 8 ∷ []); unit = record { instance = dg (0 ∷ 0 ∷ 0 ∷ 0 ∷ []); creator = 0; seq = 0; time = 8; exponent = 2; panorama = (Absent ∷ Absent ∷ Absent ∷ []); value = Some ((121 ∷ 122 ∷ [])); endorsed = [] } }) 1 5 (((0, 0) ∷ []) ∷ ((0, 0) ∷ []) ∷ []) ∷ committee_test c.weights units (Correct (dg (66 ∷ 0 ∷ 0 ∷ 8 ∷ [])) ∷ Absent ∷ Absent ∷ []) (record { digest = dg (66 ∷ 0 ∷ 0 ∷ 8 ∷ []); unit = record { instance = dg (0 ∷ 0 ∷ 0 ∷ 0 ∷ []); creator = 0; seq = 0; time = 8; exponent = 2; panorama = (Absent ∷ Absent ∷ Absent ∷ []); value = Some ((121 ∷ 122 ∷ [])); endorsed = [] } }) 1 5 (((0, 0) ∷ []) ∷ ((0, 0) ∷ []) ∷ []) ∷ committee_test c.weights units (Correct (dg (66 ∷ 0 ∷ 0 ∷ 8 ∷ [])) ∷ Absent ∷ Absent ∷ []) (record { digest = dg (66 ∷ 0 ∷ 0 ∷ 8 ∷ []); unit = record { instance = dg (0 ∷ 0 ∷ 0 ∷ 0 ∷ []); creator = 0; seq = 0; time = 8; exponent = 2; panorama = (Absent ∷ Absent ∷ Absent ∷ []); value = Some ((121 ∷ 122 ∷ [])); endorsed = [] } }) 2 2 ([] ∷ [] ∷ [] ∷ []) ∷ committee_test c.weights units (Correct (dg (66 ∷ 0 ∷ 0 ∷ 8 ∷ [])) ∷ Absent ∷ Absent ∷ []) (record { digest = dg (66 ∷ 0 ∷ 0 ∷ 8 ∷ []); unit = record { instance = dg (0 ∷ 0 ∷ 0 ∷ 0 ∷ []); creator = 0; seq = 0; time = 8; exponent = 2; panorama = (Absent ∷ Absent ∷ Absent ∷ []); value = Some ((121 ∷ 122 ∷ [])); endorsed = [] } }) 2 2 (((0, 0) ∷ []) ∷ ((0, 0) ∷ []) ∷ ((0, 0) ∷ []) ∷ []) ∷ committee_test c.weights units (Absent ∷ Absent ∷ Absent ∷ []) (record { digest = dg (66 ∷ 0 ∷ 0 ∷ 8 ∷ []); unit = record { instance = dg (0 ∷ 0 ∷ 0 ∷ 0 ∷ []); creator = 0; seq = 0; time = 8; exponent = 2; panorama = (Absent ∷ Absent ∷ Absent ∷ []); value = Some ((121 ∷ 122 ∷ [])); endorsed = [] } }) 1 1 ([] ∷ [] ∷ []) ∷ committee_test c.weights units (Absent ∷ Absent ∷ Absent ∷ []) (record { digest = dg (66 ∷ 0 ∷ 0 ∷ 8 ∷ []); unit = record { instance = dg (0 ∷ 0 ∷ 0 ∷ 0 ∷ []); creator = 0; seq = 0; time = 8; exponent = 2; panorama = (Absent ∷ Absent ∷ Absent ∷ []); value = Some ((121 ∷ 122 ∷ [])); endorsed = [] } }) 1 1 ([] ∷ [] ∷ []) ∷ committee_test c.weights units (Absent ∷ Absent ∷ Absent ∷ []) (record { digest = dg (66 ∷ 0 ∷ 0 ∷ 8 ∷ []); unit = record { instance = dg (0 ∷ 0 ∷ 0 ∷ 0 ∷ []); creator = 0; seq = 0; time = 8; exponent = 2; panorama = (Absent ∷ Absent ∷ Absent ∷ []); value = Some ((121 ∷ 122 ∷ [])); endorsed = [] } }) 2 4 ([] ∷ [] ∷ [] ∷ []) ∷ committee_test c.weights units (Absent ∷ Absent ∷ Absent ∷ []) (record { digest = dg (66 ∷ 0 ∷ 0 ∷ 8 ∷ []); unit = record { instance = dg (0 ∷ 0 ∷ 0 ∷ 0 ∷ []); creator = 0; seq = 0; time = 8; exponent = 2; panorama = (Absent ∷ Absent ∷ Absent ∷ []); value = Some ((121 ∷ 122 ∷ [])); endorsed = [] } }) 2 4 ([] ∷ [] ∷ [] ∷ []) ∷ []) ≡ (false ∷ false ∷ false ∷ false ∷ false ∷ false ∷ false ∷ false ∷ [])
