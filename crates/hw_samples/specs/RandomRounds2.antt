-- A random journal of rounds in which nearly all validators cite nearly all others.
-- The values are those of a second reading of the definitions, written apart from them; the two agree.
use Rattle.std.specs.Prelude.{◌≡◌, true, false, List, [], ◌∷◌, map, Option, Some, None, Ok, Err}
use Rattle.hw_types.specs.declared.unit.Obs.TheVariants.{Absent, Correct}
use Rattle.hw_types.specs.declared.unit.WireUnit.{WireUnit}
use Rattle.hw_types.specs.declared.unit.Need.TheVariants as need
use Rattle.hw_types.specs.declared.unit.Vertex.{Vertex}
use Rattle.hw_types.specs.declared.config.Config.{Config}
use Rattle.hw_types.specs.declared.answers.Plan.{Plan}
use Rattle.hw_types.specs.declared.answers.PlanKind.TheVariants as kind
use Rattle.hw_types.specs.declared.config.Leaders.TheVariants.{Table}
use Rattle.hw_types.specs.declared.answers.PairFault.TheVariants as fault
use Rattle.hw_types.specs.declared.answers.Receipt.TheVariants as receipt
use Rattle.hw_types.specs.declared.answers.Cause.TheVariants as cause
use Rattle.hw_types.specs.Graph.{Node}
use Rattle.hw_types.specs.Rules.{state_rule}
use Rattle.hw_types.specs.Settled.{Received, settled_of, parked_of, dropped_of, missing_of, panorama_of, faulty_weight, fork_choice}
use Rattle.hw_types.specs.Journal.{Setting, received_of, journal_of, answers_from}
use Rattle.hw_types.specs.Step.{step}
use Rattle.hw_types.specs.Culprits.{culprits_of}
use Rattle.hw_samples.specs.Words.{names_of, name_of}
use Rattle.hw_samples.specs.JournalWords.{dg, sent_as, both_as, mixed, named_by, votes_in, parents_in, committee_test}

abbrev c : Config
c = record { weights = (1 ∷ 1 ∷ 1 ∷ 1 ∷ []); ftt = 1; levels = 3; min_exponent = 2; max_exponent = 4; leaders = Table (0 ∷ 2 ∷ []); max_records = 131072; max_parked = 4096; end = None }

abbrev s : Setting
s = named_by mixed c

abbrev u0 : WireUnit
u0 = record { instance = dg (0 ∷ 0 ∷ 0 ∷ 0 ∷ []); creator = 0; seq = 0; time = 8; exponent = 2; panorama = (Absent ∷ Absent ∷ Absent ∷ Absent ∷ []); value = Some ((120 ∷ [])); endorsed = [] }

abbrev u1 : WireUnit
u1 = record { instance = dg (0 ∷ 0 ∷ 0 ∷ 0 ∷ []); creator = 2; seq = 0; time = 9; exponent = 2; panorama = (Correct (dg (41 ∷ 0 ∷ 0 ∷ 8 ∷ [])) ∷ Absent ∷ Absent ∷ Absent ∷ []); value = None; endorsed = [] }

abbrev u2 : WireUnit
u2 = record { instance = dg (0 ∷ 0 ∷ 0 ∷ 0 ∷ []); creator = 0; seq = 1; time = 12; exponent = 2; panorama = (Correct (dg (41 ∷ 0 ∷ 0 ∷ 8 ∷ [])) ∷ Correct (dg (19 ∷ 1 ∷ 0 ∷ 9 ∷ [])) ∷ Correct (dg (26 ∷ 2 ∷ 0 ∷ 9 ∷ [])) ∷ Absent ∷ []); value = None; endorsed = [] }

abbrev u3 : WireUnit
u3 = record { instance = dg (0 ∷ 0 ∷ 0 ∷ 0 ∷ []); creator = 1; seq = 0; time = 9; exponent = 2; panorama = (Correct (dg (41 ∷ 0 ∷ 0 ∷ 8 ∷ [])) ∷ Absent ∷ Absent ∷ Absent ∷ []); value = None; endorsed = [] }

abbrev u4 : WireUnit
u4 = record { instance = dg (0 ∷ 0 ∷ 0 ∷ 0 ∷ []); creator = 1; seq = 1; time = 12; exponent = 2; panorama = (Correct (dg (41 ∷ 0 ∷ 0 ∷ 8 ∷ [])) ∷ Correct (dg (19 ∷ 1 ∷ 0 ∷ 9 ∷ [])) ∷ Correct (dg (26 ∷ 2 ∷ 0 ∷ 9 ∷ [])) ∷ Absent ∷ []); value = None; endorsed = [] }

abbrev u5 : WireUnit
u5 = record { instance = dg (0 ∷ 0 ∷ 0 ∷ 0 ∷ []); creator = 2; seq = 1; time = 12; exponent = 2; panorama = (Correct (dg (41 ∷ 0 ∷ 0 ∷ 8 ∷ [])) ∷ Correct (dg (19 ∷ 1 ∷ 0 ∷ 9 ∷ [])) ∷ Correct (dg (26 ∷ 2 ∷ 0 ∷ 9 ∷ [])) ∷ Absent ∷ []); value = None; endorsed = [] }

abbrev u6 : WireUnit
u6 = record { instance = dg (0 ∷ 0 ∷ 0 ∷ 0 ∷ []); creator = 1; seq = 2; time = 13; exponent = 2; panorama = (Correct (dg (41 ∷ 0 ∷ 0 ∷ 8 ∷ [])) ∷ Correct (dg (57 ∷ 1 ∷ 1 ∷ 12 ∷ [])) ∷ Correct (dg (64 ∷ 2 ∷ 1 ∷ 12 ∷ [])) ∷ Absent ∷ []); value = None; endorsed = [] }

abbrev u7 : WireUnit
u7 = record { instance = dg (0 ∷ 0 ∷ 0 ∷ 0 ∷ []); creator = 2; seq = 2; time = 13; exponent = 2; panorama = (Correct (dg (50 ∷ 0 ∷ 1 ∷ 12 ∷ [])) ∷ Correct (dg (57 ∷ 1 ∷ 1 ∷ 12 ∷ [])) ∷ Correct (dg (64 ∷ 2 ∷ 1 ∷ 12 ∷ [])) ∷ Absent ∷ []); value = None; endorsed = [] }

abbrev u8 : WireUnit
u8 = record { instance = dg (0 ∷ 0 ∷ 0 ∷ 0 ∷ []); creator = 0; seq = 3; time = 16; exponent = 2; panorama = (Correct (dg (66 ∷ 0 ∷ 2 ∷ 13 ∷ [])) ∷ Correct (dg (57 ∷ 1 ∷ 1 ∷ 12 ∷ [])) ∷ Correct (dg (80 ∷ 2 ∷ 2 ∷ 13 ∷ [])) ∷ Absent ∷ []); value = Some ((121 ∷ 122 ∷ [])); endorsed = [] }

abbrev j_shuffled : List Vertex
j_shuffled = (sent_as (1 ∷ []) u6 ∷ sent_as [] u4 ∷ sent_as (1 ∷ []) u5 ∷ sent_as [] u1 ∷ sent_as (1 ∷ []) u2 ∷ sent_as (1 ∷ []) u7 ∷ sent_as (1 ∷ []) u8 ∷ sent_as (1 ∷ []) u0 ∷ [])

abbrev j : List Vertex
j = (sent_as (1 ∷ []) u0 ∷ sent_as [] u1 ∷ sent_as (1 ∷ []) u2 ∷ sent_as [] u4 ∷ sent_as (1 ∷ []) u5 ∷ sent_as (1 ∷ []) u6 ∷ sent_as (1 ∷ []) u7 ∷ sent_as (1 ∷ []) u8 ∷ [])

abbrev k : Received
k = received_of s j

abbrev units : List Node
units = (record { digest = dg (26 ∷ 2 ∷ 0 ∷ 9 ∷ []); unit = u1 } ∷ record { digest = dg (41 ∷ 0 ∷ 0 ∷ 8 ∷ []); unit = u0 } ∷ [])

abbrev plans : List (Option Plan)
plans = (None ∷ Some (record { kind = kind.Witness; unit = record { instance = dg (0 ∷ 0 ∷ 0 ∷ 0 ∷ []); creator = 0; seq = 1; time = 15; exponent = 2; panorama = (Correct (dg (41 ∷ 0 ∷ 0 ∷ 8 ∷ [])) ∷ Absent ∷ Correct (dg (26 ∷ 2 ∷ 0 ∷ 9 ∷ [])) ∷ Absent ∷ []); value = None; endorsed = [] } }) ∷ None ∷ None ∷ None ∷ Some (record { kind = kind.Witness; unit = record { instance = dg (0 ∷ 0 ∷ 0 ∷ 0 ∷ []); creator = 2; seq = 1; time = 15; exponent = 2; panorama = (Correct (dg (41 ∷ 0 ∷ 0 ∷ 8 ∷ [])) ∷ Absent ∷ Correct (dg (26 ∷ 2 ∷ 0 ∷ 9 ∷ [])) ∷ Absent ∷ []); value = None; endorsed = [] } }) ∷ Some (record { kind = kind.Confirm; unit = record { instance = dg (0 ∷ 0 ∷ 0 ∷ 0 ∷ []); creator = 3; seq = 0; time = 9; exponent = 2; panorama = (Correct (dg (41 ∷ 0 ∷ 0 ∷ 8 ∷ [])) ∷ Absent ∷ Correct (dg (26 ∷ 2 ∷ 0 ∷ 9 ∷ [])) ∷ Absent ∷ []); value = None; endorsed = [] } }) ∷ Some (record { kind = kind.Confirm; unit = record { instance = dg (0 ∷ 0 ∷ 0 ∷ 0 ∷ []); creator = 3; seq = 0; time = 8; exponent = 2; panorama = (Correct (dg (41 ∷ 0 ∷ 0 ∷ 8 ∷ [])) ∷ Absent ∷ Absent ∷ Absent ∷ []); value = None; endorsed = [] } }) ∷ [])

abbrev u9 : WireUnit
u9 = record { instance = dg (0 ∷ 0 ∷ 0 ∷ 0 ∷ []); creator = 0; seq = 2; time = 13; exponent = 2; panorama = (Correct (dg (50 ∷ 0 ∷ 1 ∷ 12 ∷ [])) ∷ Correct (dg (57 ∷ 1 ∷ 1 ∷ 12 ∷ [])) ∷ Correct (dg (64 ∷ 2 ∷ 1 ∷ 12 ∷ [])) ∷ Absent ∷ []); value = None; endorsed = [] }

abbrev j2 : List Vertex
j2 = (sent_as [] u0 ∷ sent_as [] u3 ∷ sent_as [] u1 ∷ sent_as (1 ∷ []) u2 ∷ sent_as [] u4 ∷ sent_as [] u5 ∷ sent_as [] u9 ∷ sent_as [] u6 ∷ sent_as [] u7 ∷ sent_as (1 ∷ []) u8 ∷ [])

pub record RandomRounds2 : Type 0 where
  pub answers : answers_from s [] ((sent_as (1 ∷ []) u0, true) ∷ (sent_as [] u1, true) ∷ (both_as [] u2 (3 ∷ []) u3, true) ∷ (sent_as (1 ∷ []) u2, true) ∷ (sent_as [] u4, true) ∷ (sent_as (1 ∷ []) u5, true) ∷ (sent_as (1 ∷ []) u6, true) ∷ (sent_as (1 ∷ []) u7, true) ∷ (sent_as (1 ∷ []) u8, true) ∷ []) ≡ ((Ok (receipt.Admitted 1) ∷ Ok (receipt.Admitted 1) ∷ Err (cause.Pair fault.Creator) ∷ Ok (receipt.Parked 1) ∷ Ok (receipt.Parked 1) ∷ Ok (receipt.Parked 1) ∷ Ok (receipt.Parked 2) ∷ Ok (receipt.Parked 3) ∷ Ok (receipt.Parked 3) ∷ []))
  pub order : received_of s j_shuffled ≡ k
  pub kept : journal_of s ((sent_as (1 ∷ []) u0, true) ∷ (sent_as [] u1, true) ∷ (both_as [] u2 (3 ∷ []) u3, true) ∷ (sent_as (1 ∷ []) u2, true) ∷ (sent_as [] u4, true) ∷ (sent_as (1 ∷ []) u5, true) ∷ (sent_as (1 ∷ []) u6, true) ∷ (sent_as (1 ∷ []) u7, true) ∷ (sent_as (1 ∷ []) u8, true) ∷ []) ≡ j
  pub settled : settled_of c k ≡ units
  pub parked : names_of (parked_of c k) ≡ (dg (50 ∷ 0 ∷ 1 ∷ 12 ∷ []) ∷ dg (57 ∷ 1 ∷ 1 ∷ 12 ∷ []) ∷ dg (64 ∷ 2 ∷ 1 ∷ 12 ∷ []) ∷ dg (73 ∷ 0 ∷ 3 ∷ 16 ∷ []) ∷ dg (73 ∷ 1 ∷ 2 ∷ 13 ∷ []) ∷ dg (80 ∷ 2 ∷ 2 ∷ 13 ∷ []) ∷ [])
  pub dropped : names_of (dropped_of c k) ≡ []
  pub panorama : panorama_of c k ≡ (Correct (dg (41 ∷ 0 ∷ 0 ∷ 8 ∷ [])) ∷ Absent ∷ Correct (dg (26 ∷ 2 ∷ 0 ∷ 9 ∷ [])) ∷ Absent ∷ [])
  pub weight : faulty_weight c k ≡ 0
  pub fork : name_of (fork_choice c k) ≡ Some (dg (41 ∷ 0 ∷ 0 ∷ 8 ∷ []))
  pub votes : votes_in c units ≡ (Some (dg (41 ∷ 0 ∷ 0 ∷ 8 ∷ [])) ∷ Some (dg (41 ∷ 0 ∷ 0 ∷ 8 ∷ [])) ∷ [])
  pub heights : parents_in c units ≡ ((None, 0) ∷ [])
  pub missing : map (missing_of c k units) (record { digest = dg (26 ∷ 2 ∷ 0 ∷ 9 ∷ []); unit = u1 } ∷ record { digest = dg (41 ∷ 0 ∷ 0 ∷ 8 ∷ []); unit = u0 } ∷ record { digest = dg (50 ∷ 0 ∷ 1 ∷ 12 ∷ []); unit = u2 } ∷ record { digest = dg (57 ∷ 1 ∷ 1 ∷ 12 ∷ []); unit = u4 } ∷ record { digest = dg (64 ∷ 2 ∷ 1 ∷ 12 ∷ []); unit = u5 } ∷ record { digest = dg (73 ∷ 0 ∷ 3 ∷ 16 ∷ []); unit = u8 } ∷ record { digest = dg (73 ∷ 1 ∷ 2 ∷ 13 ∷ []); unit = u6 } ∷ record { digest = dg (80 ∷ 2 ∷ 2 ∷ 13 ∷ []); unit = u7 } ∷ []) ≡ (([] ∷ [] ∷ (need.Unit (dg (19 ∷ 1 ∷ 0 ∷ 9 ∷ [])) ∷ []) ∷ (need.Unit (dg (19 ∷ 1 ∷ 0 ∷ 9 ∷ [])) ∷ []) ∷ (need.Unit (dg (19 ∷ 1 ∷ 0 ∷ 9 ∷ [])) ∷ []) ∷ (need.Unit (dg (66 ∷ 0 ∷ 2 ∷ 13 ∷ [])) ∷ need.Unit (dg (57 ∷ 1 ∷ 1 ∷ 12 ∷ [])) ∷ need.Unit (dg (80 ∷ 2 ∷ 2 ∷ 13 ∷ [])) ∷ []) ∷ (need.Unit (dg (57 ∷ 1 ∷ 1 ∷ 12 ∷ [])) ∷ need.Unit (dg (64 ∷ 2 ∷ 1 ∷ 12 ∷ [])) ∷ []) ∷ (need.Unit (dg (50 ∷ 0 ∷ 1 ∷ 12 ∷ [])) ∷ need.Unit (dg (57 ∷ 1 ∷ 1 ∷ 12 ∷ [])) ∷ need.Unit (dg (64 ∷ 2 ∷ 1 ∷ 12 ∷ [])) ∷ []) ∷ []))
  pub rules : map (state_rule c units) (record { digest = dg (26 ∷ 2 ∷ 0 ∷ 9 ∷ []); unit = u1 } ∷ record { digest = dg (41 ∷ 0 ∷ 0 ∷ 8 ∷ []); unit = u0 } ∷ []) ≡ (None ∷ None ∷ [])
  pub steps : (step s k 0 5 (118 ∷ []) ∷ step s k 0 15 (118 ∷ []) ∷ step s k 1 5 (118 ∷ []) ∷ step s k 1 4 (118 ∷ []) ∷ step s k 2 4 (118 ∷ []) ∷ step s k 2 15 (118 ∷ []) ∷ step s k 3 9 (118 ∷ []) ∷ step s k 3 8 (118 ∷ []) ∷ []) ≡ plans
  pub culprits : culprits_of s j j2 ≡ []
  pub summits : (committee_test c.weights units (Correct (dg (41 ∷ 0 ∷ 0 ∷ 8 ∷ [])) ∷ Absent ∷ Correct (dg (26 ∷ 2 ∷ 0 ∷ 9 ∷ [])) ∷ Absent ∷ []) (record { digest = dg (41 ∷ 0 ∷ 0 ∷ 8 ∷ []); unit = record { instance = dg (0 ∷ 0 ∷ 0 ∷ 0 ∷ []); creator = 0; seq = 0; time = 8; exponent = 2; panorama = (Absent ∷ Absent ∷ Absent ∷ Absent ∷ []); value = Some ((120 ∷ [])); endorsed = [] } }) 1 4 (((2, 0) ∷ []) ∷ ((2, 0) ∷ []) ∷ []) ∷ committee_test c.weights units (Correct (dg (41 ∷ 0 ∷ 0 ∷ 8 ∷ [])) ∷ Absent ∷ Correct (dg (26 ∷ 2 ∷ 0 ∷ 9 ∷ [])) ∷ Absent ∷ []) (record { digest = dg (41 ∷ 0 ∷ 0 ∷ 8 ∷ []); unit = record { instance = dg (0 ∷ 0 ∷ 0 ∷ 0 ∷ []); creator = 0; seq = 0; time = 8; exponent = 2; panorama = (Absent ∷ Absent ∷ Absent ∷ Absent ∷ []); value = Some ((120 ∷ [])); endorsed = [] } }) 1 4 (((0, 0) ∷ (2, 0) ∷ []) ∷ ((2, 0) ∷ []) ∷ []) ∷ committee_test c.weights units (Correct (dg (41 ∷ 0 ∷ 0 ∷ 8 ∷ [])) ∷ Absent ∷ Correct (dg (26 ∷ 2 ∷ 0 ∷ 9 ∷ [])) ∷ Absent ∷ []) (record { digest = dg (41 ∷ 0 ∷ 0 ∷ 8 ∷ []); unit = record { instance = dg (0 ∷ 0 ∷ 0 ∷ 0 ∷ []); creator = 0; seq = 0; time = 8; exponent = 2; panorama = (Absent ∷ Absent ∷ Absent ∷ Absent ∷ []); value = Some ((120 ∷ [])); endorsed = [] } }) 2 3 (((0, 0) ∷ (2, 0) ∷ []) ∷ ((0, 0) ∷ (2, 0) ∷ []) ∷ ((0, 0) ∷ (2, 0) ∷ []) ∷ []) ∷ committee_test c.weights units (Correct (dg (41 ∷ 0 ∷ 0 ∷ 8 ∷ [])) ∷ Absent ∷ Correct (dg (26 ∷ 2 ∷ 0 ∷ 9 ∷ [])) ∷ Absent ∷ []) (record { digest = dg (41 ∷ 0 ∷ 0 ∷ 8 ∷ []); unit = record { instance = dg (0 ∷ 0 ∷ 0 ∷ 0 ∷ []); creator = 0; seq = 0; time = 8; exponent = 2; panorama = (Absent ∷ Absent ∷ Absent ∷ Absent ∷ []); value = Some ((120 ∷ [])); endorsed = [] } }) 2 3 (((0, 0) ∷ (2, 0) ∷ []) ∷ ((0, 0) ∷ (2, 0) ∷ []) ∷ ((0, 0) ∷ (2, 0) ∷ []) ∷ []) ∷ committee_test c.weights units (Correct (dg (41 ∷ 0 ∷ 0 ∷ 8 ∷ [])) ∷ Absent ∷ Correct (dg (26 ∷ 2 ∷ 0 ∷ 9 ∷ [])) ∷ Absent ∷ []) (record { digest = dg (41 ∷ 0 ∷ 0 ∷ 8 ∷ []); unit = record { instance = dg (0 ∷ 0 ∷ 0 ∷ 0 ∷ []); creator = 0; seq = 0; time = 8; exponent = 2; panorama = (Absent ∷ Absent ∷ Absent ∷ Absent ∷ []); value = Some ((120 ∷ [])); endorsed = [] } }) 3 4 (((0, 0) ∷ (2, 0) ∷ []) ∷ ((0, 0) ∷ (2, 0) ∷ []) ∷ ((0, 0) ∷ (2, 0) ∷ []) ∷ ((0, 0) ∷ (2, 0) ∷ []) ∷ []) ∷ committee_test c.weights units (Correct (dg (41 ∷ 0 ∷ 0 ∷ 8 ∷ [])) ∷ Absent ∷ Correct (dg (26 ∷ 2 ∷ 0 ∷ 9 ∷ [])) ∷ Absent ∷ []) (record { digest = dg (41 ∷ 0 ∷ 0 ∷ 8 ∷ []); unit = record { instance = dg (0 ∷ 0 ∷ 0 ∷ 0 ∷ []); creator = 0; seq = 0; time = 8; exponent = 2; panorama = (Absent ∷ Absent ∷ Absent ∷ Absent ∷ []); value = Some ((120 ∷ [])); endorsed = [] } }) 3 4 (((0, 0) ∷ (2, 0) ∷ []) ∷ ((0, 0) ∷ (2, 0) ∷ []) ∷ ((0, 0) ∷ (2, 0) ∷ []) ∷ ((0, 0) ∷ (2, 0) ∷ []) ∷ []) ∷ committee_test c.weights units (Absent ∷ Absent ∷ Absent ∷ Absent ∷ []) (record { digest = dg (41 ∷ 0 ∷ 0 ∷ 8 ∷ []); unit = record { instance = dg (0 ∷ 0 ∷ 0 ∷ 0 ∷ []); creator = 0; seq = 0; time = 8; exponent = 2; panorama = (Absent ∷ Absent ∷ Absent ∷ Absent ∷ []); value = Some ((120 ∷ [])); endorsed = [] } }) 1 4 ([] ∷ [] ∷ []) ∷ committee_test c.weights units (Absent ∷ Absent ∷ Absent ∷ Absent ∷ []) (record { digest = dg (41 ∷ 0 ∷ 0 ∷ 8 ∷ []); unit = record { instance = dg (0 ∷ 0 ∷ 0 ∷ 0 ∷ []); creator = 0; seq = 0; time = 8; exponent = 2; panorama = (Absent ∷ Absent ∷ Absent ∷ Absent ∷ []); value = Some ((120 ∷ [])); endorsed = [] } }) 1 4 ([] ∷ [] ∷ []) ∷ committee_test c.weights units (Absent ∷ Absent ∷ Absent ∷ Absent ∷ []) (record { digest = dg (41 ∷ 0 ∷ 0 ∷ 8 ∷ []); unit = record { instance = dg (0 ∷ 0 ∷ 0 ∷ 0 ∷ []); creator = 0; seq = 0; time = 8; exponent = 2; panorama = (Absent ∷ Absent ∷ Absent ∷ Absent ∷ []); value = Some ((120 ∷ [])); endorsed = [] } }) 2 3 ([] ∷ [] ∷ [] ∷ []) ∷ committee_test c.weights units (Absent ∷ Absent ∷ Absent ∷ Absent ∷ []) (record { digest = dg (41 ∷ 0 ∷ 0 ∷ 8 ∷ []); unit = record { instance = dg (0 ∷ 0 ∷ 0 ∷ 0 ∷ []); creator = 0; seq = 0; time = 8; exponent = 2; panorama = (Absent ∷ Absent ∷ Absent ∷ Absent ∷ []); value = Some ((120 ∷ [])); endorsed = [] } }) 2 3 ([] ∷ [] ∷ [] ∷ []) ∷ committee_test c.weights units (Absent ∷ Absent ∷ Absent ∷ Absent ∷ []) (record { digest = dg (41 ∷ 0 ∷ 0 ∷ 8 ∷ []); unit = record { instance = dg (0 ∷ 0 ∷ 0 ∷ 0 ∷ []); creator = 0; seq = 0; time = 8; exponent = 2; panorama = (Absent ∷ Absent ∷ Absent ∷ Absent ∷ []); value = Some ((120 ∷ [])); endorsed = [] } }) 3 2 ([] ∷ [] ∷ [] ∷ [] ∷ []) ∷ committee_test c.weights units (Absent ∷ Absent ∷ Absent ∷ Absent ∷ []) (record { digest = dg (41 ∷ 0 ∷ 0 ∷ 8 ∷ []); unit = record { instance = dg (0 ∷ 0 ∷ 0 ∷ 0 ∷ []); creator = 0; seq = 0; time = 8; exponent = 2; panorama = (Absent ∷ Absent ∷ Absent ∷ Absent ∷ []); value = Some ((120 ∷ [])); endorsed = [] } }) 3 2 ([] ∷ [] ∷ [] ∷ [] ∷ []) ∷ []) ≡ (false ∷ false ∷ false ∷ false ∷ false ∷ false ∷ false ∷ false ∷ false ∷ false ∷ false ∷ false ∷ [])
