-- A random journal with short names, so that different units often have one name: deliveries clash.
-- The values are those of a second reading of the definitions, written apart from them; the two agree.
use Rattle.std.specs.Prelude.{◌≡◌, true, false, List, [], ◌∷◌, map, Option, Some, None, Ok, Err}
use Rattle.hw_types.specs.declared.unit.Obs.TheVariants.{Absent, Correct}
use Rattle.hw_types.specs.declared.unit.WireUnit.{WireUnit}
use Rattle.hw_types.specs.declared.unit.Need.TheVariants as need
use Rattle.hw_types.specs.declared.unit.Vertex.{Vertex}
use Rattle.hw_types.specs.declared.config.Config.{Config}
use Rattle.hw_types.specs.declared.answers.Plan.{Plan}
use Rattle.hw_types.specs.declared.answers.PlanKind.TheVariants as kind
use Rattle.hw_types.specs.declared.config.Leaders.TheVariants.{Table}
use Rattle.hw_types.specs.declared.answers.Rule.TheVariants as rule
use Rattle.hw_types.specs.declared.answers.PairFault.TheVariants as fault
use Rattle.hw_types.specs.declared.answers.Receipt.TheVariants as receipt
use Rattle.hw_types.specs.declared.answers.Cause.TheVariants as cause
use Rattle.hw_types.specs.Graph.{Node}
use Rattle.hw_types.specs.Rules.{state_rule}
use Rattle.hw_types.specs.Settled.{Received, settled_of, parked_of, dropped_of, missing_of, panorama_of, faulty_weight, fork_choice, is_endorsed}
use Rattle.hw_types.specs.Journal.{Setting, received_of, answers_from}
use Rattle.hw_types.specs.Step.{step}
use Rattle.hw_types.specs.Culprits.{culprits_of, pair_of, shown_in_either}
use Rattle.hw_samples.specs.Words.{names_of, name_of}
use Rattle.hw_samples.specs.JournalWords.{dg, sent_as, both_as, backs, narrow, named_by, votes_in, parents_in, committee_test}

abbrev c : Config
c = record { weights = (2 ∷ 3 ∷ 3 ∷ []); ftt = 2; levels = 2; min_exponent = 2; max_exponent = 4; leaders = Table (1 ∷ 2 ∷ 1 ∷ []); max_records = 131072; max_parked = 1; end = Some (0) }

abbrev s : Setting
s = named_by narrow c

abbrev u0 : WireUnit
u0 = record { instance = dg (0 ∷ 0 ∷ 0 ∷ 0 ∷ []); creator = 1; seq = 1; time = 14; exponent = 2; panorama = (Absent ∷ Correct (dg (1 ∷ 1 ∷ 0 ∷ 0 ∷ [])) ∷ Correct (dg (2 ∷ 2 ∷ 0 ∷ 0 ∷ [])) ∷ []); value = Some ((120 ∷ [])); endorsed = (dg (1 ∷ 2 ∷ 0 ∷ 0 ∷ []) ∷ []) }

abbrev u1 : WireUnit
u1 = record { instance = dg (0 ∷ 0 ∷ 0 ∷ 0 ∷ []); creator = 1; seq = 0; time = 24; exponent = 2; panorama = (Absent ∷ Absent ∷ Correct (dg (2 ∷ 2 ∷ 0 ∷ 0 ∷ [])) ∷ []); value = Some ((121 ∷ 122 ∷ [])); endorsed = [] }

abbrev u2 : WireUnit
u2 = record { instance = dg (0 ∷ 0 ∷ 0 ∷ 0 ∷ []); creator = 1; seq = 1; time = 8; exponent = 2; panorama = (Absent ∷ Correct (dg (1 ∷ 1 ∷ 0 ∷ 0 ∷ [])) ∷ Correct (dg (2 ∷ 2 ∷ 0 ∷ 0 ∷ [])) ∷ []); value = Some ((121 ∷ 122 ∷ [])); endorsed = (dg (1 ∷ 2 ∷ 0 ∷ 0 ∷ []) ∷ []) }

abbrev u3 : WireUnit
u3 = record { instance = dg (0 ∷ 0 ∷ 0 ∷ 0 ∷ []); creator = 2; seq = 0; time = 4; exponent = 2; panorama = (Absent ∷ Absent ∷ Absent ∷ []); value = Some ((120 ∷ [])); endorsed = [] }

abbrev u4 : WireUnit
u4 = record { instance = dg (1 ∷ 0 ∷ 0 ∷ 0 ∷ []); creator = 1; seq = 0; time = 20; exponent = 2; panorama = (Absent ∷ Absent ∷ Correct (dg (1 ∷ 2 ∷ 0 ∷ 0 ∷ [])) ∷ []); value = Some ([]); endorsed = [] }

abbrev u5 : WireUnit
u5 = record { instance = dg (0 ∷ 0 ∷ 0 ∷ 0 ∷ []); creator = 1; seq = 2; time = 19; exponent = 2; panorama = (Absent ∷ Correct (dg (4 ∷ 1 ∷ 0 ∷ 0 ∷ [])) ∷ Correct (dg (2 ∷ 2 ∷ 0 ∷ 0 ∷ [])) ∷ []); value = None; endorsed = (dg (1 ∷ 2 ∷ 0 ∷ 0 ∷ []) ∷ []) }

abbrev u6 : WireUnit
u6 = record { instance = dg (0 ∷ 0 ∷ 0 ∷ 0 ∷ []); creator = 2; seq = 1; time = 4; exponent = 2; panorama = (Absent ∷ Absent ∷ Correct (dg (1 ∷ 2 ∷ 0 ∷ 0 ∷ [])) ∷ []); value = Some ((121 ∷ 122 ∷ [])); endorsed = [] }

abbrev u7 : WireUnit
u7 = record { instance = dg (0 ∷ 0 ∷ 0 ∷ 0 ∷ []); creator = 1; seq = 0; time = 6; exponent = 2; panorama = (Absent ∷ Absent ∷ Correct (dg (2 ∷ 2 ∷ 0 ∷ 0 ∷ [])) ∷ []); value = None; endorsed = (dg (1 ∷ 2 ∷ 0 ∷ 0 ∷ []) ∷ dg (1 ∷ 2 ∷ 0 ∷ 0 ∷ []) ∷ []) }

abbrev j : List Vertex
j = (sent_as [] u0 ∷ backs (dg (1 ∷ 2 ∷ 0 ∷ 0 ∷ [])) 0 ∷ sent_as [] u3 ∷ sent_as [] u6 ∷ backs (dg (1 ∷ 2 ∷ 0 ∷ 0 ∷ [])) 2 ∷ [])

abbrev k : Received
k = received_of s j

abbrev units : List Node
units = (record { digest = dg (1 ∷ 2 ∷ 0 ∷ 0 ∷ []); unit = u3 } ∷ [])

abbrev plans : List (Option Plan)
plans = (Some (record { kind = kind.Witness; unit = record { instance = dg (0 ∷ 0 ∷ 0 ∷ 0 ∷ []); creator = 0; seq = 0; time = 7; exponent = 2; panorama = (Absent ∷ Absent ∷ Correct (dg (1 ∷ 2 ∷ 0 ∷ 0 ∷ [])) ∷ []); value = None; endorsed = (dg (1 ∷ 2 ∷ 0 ∷ 0 ∷ []) ∷ []) } }) ∷ None ∷ None ∷ None ∷ Some (record { kind = kind.Witness; unit = record { instance = dg (0 ∷ 0 ∷ 0 ∷ 0 ∷ []); creator = 2; seq = 1; time = 6; exponent = 2; panorama = (Absent ∷ Absent ∷ Correct (dg (1 ∷ 2 ∷ 0 ∷ 0 ∷ [])) ∷ []); value = None; endorsed = (dg (1 ∷ 2 ∷ 0 ∷ 0 ∷ []) ∷ []) } }) ∷ None ∷ [])

abbrev j2 : List Vertex
j2 = (sent_as [] u6 ∷ both_as [] u0 [] u2 ∷ sent_as [] u3 ∷ backs (dg (1 ∷ 2 ∷ 0 ∷ 0 ∷ [])) 1 ∷ sent_as [] u2 ∷ [])

pub record RandomCollisions4 : Type 0 where
  pub answers : answers_from s [] ((sent_as [] u0, true) ∷ (sent_as [] u1, true) ∷ (sent_as [] u2, true) ∷ (backs (dg (1 ∷ 2 ∷ 0 ∷ 0 ∷ [])) 0, true) ∷ (sent_as [] u3, true) ∷ (sent_as (1 ∷ []) u4, true) ∷ (sent_as (1 ∷ []) u5, true) ∷ (sent_as [] u6, true) ∷ (sent_as (1 ∷ []) u7, true) ∷ (backs (dg (1 ∷ 2 ∷ 0 ∷ 0 ∷ [])) 2, true) ∷ (both_as [] u1 [] u4, true) ∷ (sent_as (5 ∷ []) u5, true) ∷ []) ≡ ((Ok (receipt.Parked 3) ∷ Err (cause.Clash (dg (4 ∷ 1 ∷ 0 ∷ 0 ∷ []))) ∷ Err cause.ParkFull ∷ Ok (receipt.Admitted 0) ∷ Ok (receipt.Admitted 1) ∷ Err (cause.Local rule.WrongInstance) ∷ Err cause.ParkFull ∷ Ok (receipt.Dropped rule.NotLeader) ∷ Err (cause.Local rule.EndorsedOrder) ∷ Ok (receipt.Admitted 0) ∷ Err (cause.Pair fault.Instance) ∷ Err cause.ParkFull ∷ []))
  pub settled : settled_of c k ≡ units
  pub parked : names_of (parked_of c k) ≡ (dg (4 ∷ 1 ∷ 0 ∷ 0 ∷ []) ∷ [])
  pub dropped : names_of (dropped_of c k) ≡ (dg (2 ∷ 2 ∷ 0 ∷ 0 ∷ []) ∷ [])
  pub panorama : panorama_of c k ≡ (Absent ∷ Absent ∷ Correct (dg (1 ∷ 2 ∷ 0 ∷ 0 ∷ [])) ∷ [])
  pub weight : faulty_weight c k ≡ 0
  pub fork : name_of (fork_choice c k) ≡ Some (dg (1 ∷ 2 ∷ 0 ∷ 0 ∷ []))
  pub endorsed : map (is_endorsed c k) (dg (1 ∷ 2 ∷ 0 ∷ 0 ∷ []) ∷ []) ≡ (true ∷ [])
  pub votes : votes_in c units ≡ (Some (dg (1 ∷ 2 ∷ 0 ∷ 0 ∷ [])) ∷ [])
  pub heights : parents_in c units ≡ ((None, 0) ∷ [])
  pub missing : map (missing_of c k units) (record { digest = dg (1 ∷ 2 ∷ 0 ∷ 0 ∷ []); unit = u3 } ∷ record { digest = dg (2 ∷ 2 ∷ 0 ∷ 0 ∷ []); unit = u6 } ∷ record { digest = dg (4 ∷ 1 ∷ 0 ∷ 0 ∷ []); unit = u0 } ∷ []) ≡ (([] ∷ [] ∷ (need.Unit (dg (1 ∷ 1 ∷ 0 ∷ 0 ∷ [])) ∷ need.Unit (dg (2 ∷ 2 ∷ 0 ∷ 0 ∷ [])) ∷ []) ∷ []))
  pub rules : map (state_rule c units) (record { digest = dg (1 ∷ 2 ∷ 0 ∷ 0 ∷ []); unit = u3 } ∷ record { digest = dg (2 ∷ 2 ∷ 0 ∷ 0 ∷ []); unit = u6 } ∷ []) ≡ (None ∷ Some (rule.NotLeader) ∷ [])
  pub steps : (step s k 0 7 (118 ∷ []) ∷ step s k 0 8 (118 ∷ []) ∷ step s k 1 3 (118 ∷ []) ∷ step s k 1 2 (118 ∷ []) ∷ step s k 2 6 (118 ∷ []) ∷ step s k 2 8 (118 ∷ []) ∷ []) ≡ plans
  pub culprits : culprits_of s j j2 ≡ (1 ∷ [])
  pub pair1 : pair_of (shown_in_either s j j2) 1 ≡ Some (record { digest = dg (1 ∷ 1 ∷ 0 ∷ 0 ∷ []); unit = u2 }, record { digest = dg (4 ∷ 1 ∷ 0 ∷ 0 ∷ []); unit = u0 })
  pub summits : (committee_test c.weights units (Absent ∷ Absent ∷ Correct (dg (1 ∷ 2 ∷ 0 ∷ 0 ∷ [])) ∷ []) (record { digest = dg (1 ∷ 2 ∷ 0 ∷ 0 ∷ []); unit = record { instance = dg (0 ∷ 0 ∷ 0 ∷ 0 ∷ []); creator = 2; seq = 0; time = 4; exponent = 2; panorama = (Absent ∷ Absent ∷ Absent ∷ []); value = Some ((120 ∷ [])); endorsed = [] } }) 1 8 (((2, 0) ∷ []) ∷ ((2, 0) ∷ []) ∷ []) ∷ committee_test c.weights units (Absent ∷ Absent ∷ Correct (dg (1 ∷ 2 ∷ 0 ∷ 0 ∷ [])) ∷ []) (record { digest = dg (1 ∷ 2 ∷ 0 ∷ 0 ∷ []); unit = record { instance = dg (0 ∷ 0 ∷ 0 ∷ 0 ∷ []); creator = 2; seq = 0; time = 4; exponent = 2; panorama = (Absent ∷ Absent ∷ Absent ∷ []); value = Some ((120 ∷ [])); endorsed = [] } }) 1 8 ([] ∷ [] ∷ []) ∷ committee_test c.weights units (Absent ∷ Absent ∷ Correct (dg (1 ∷ 2 ∷ 0 ∷ 0 ∷ [])) ∷ []) (record { digest = dg (1 ∷ 2 ∷ 0 ∷ 0 ∷ []); unit = record { instance = dg (0 ∷ 0 ∷ 0 ∷ 0 ∷ []); creator = 2; seq = 0; time = 4; exponent = 2; panorama = (Absent ∷ Absent ∷ Absent ∷ []); value = Some ((120 ∷ [])); endorsed = [] } }) 2 6 (((2, 0) ∷ []) ∷ ((2, 0) ∷ []) ∷ [] ∷ []) ∷ committee_test c.weights units (Absent ∷ Absent ∷ Correct (dg (1 ∷ 2 ∷ 0 ∷ 0 ∷ [])) ∷ []) (record { digest = dg (1 ∷ 2 ∷ 0 ∷ 0 ∷ []); unit = record { instance = dg (0 ∷ 0 ∷ 0 ∷ 0 ∷ []); creator = 2; seq = 0; time = 4; exponent = 2; panorama = (Absent ∷ Absent ∷ Absent ∷ []); value = Some ((120 ∷ [])); endorsed = [] } }) 2 6 (((2, 0) ∷ []) ∷ ((2, 0) ∷ []) ∷ ((2, 0) ∷ []) ∷ []) ∷ committee_test c.weights units (Absent ∷ Absent ∷ Absent ∷ []) (record { digest = dg (1 ∷ 2 ∷ 0 ∷ 0 ∷ []); unit = record { instance = dg (0 ∷ 0 ∷ 0 ∷ 0 ∷ []); creator = 2; seq = 0; time = 4; exponent = 2; panorama = (Absent ∷ Absent ∷ Absent ∷ []); value = Some ((120 ∷ [])); endorsed = [] } }) 1 1 ([] ∷ [] ∷ []) ∷ committee_test c.weights units (Absent ∷ Absent ∷ Absent ∷ []) (record { digest = dg (1 ∷ 2 ∷ 0 ∷ 0 ∷ []); unit = record { instance = dg (0 ∷ 0 ∷ 0 ∷ 0 ∷ []); creator = 2; seq = 0; time = 4; exponent = 2; panorama = (Absent ∷ Absent ∷ Absent ∷ []); value = Some ((120 ∷ [])); endorsed = [] } }) 1 1 ([] ∷ [] ∷ []) ∷ committee_test c.weights units (Absent ∷ Absent ∷ Absent ∷ []) (record { digest = dg (1 ∷ 2 ∷ 0 ∷ 0 ∷ []); unit = record { instance = dg (0 ∷ 0 ∷ 0 ∷ 0 ∷ []); creator = 2; seq = 0; time = 4; exponent = 2; panorama = (Absent ∷ Absent ∷ Absent ∷ []); value = Some ((120 ∷ [])); endorsed = [] } }) 2 6 ([] ∷ [] ∷ [] ∷ []) ∷ committee_test c.weights units (Absent ∷ Absent ∷ Absent ∷ []) (record { digest = dg (1 ∷ 2 ∷ 0 ∷ 0 ∷ []); unit = record { instance = dg (0 ∷ 0 ∷ 0 ∷ 0 ∷ []); creator = 2; seq = 0; time = 4; exponent = 2; panorama = (Absent ∷ Absent ∷ Absent ∷ []); value = Some ((120 ∷ [])); endorsed = [] } }) 2 6 ([] ∷ [] ∷ [] ∷ []) ∷ []) ≡ (false ∷ false ∷ false ∷ false ∷ false ∷ false ∷ false ∷ false ∷ [])
