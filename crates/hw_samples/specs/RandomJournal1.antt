-- A random journal: a random choice of units that cite random earlier ones, endorsements and evidence, in random order.
-- The values are those of a second reading of the definitions, written apart from them; the two agree.
use Rattle.std.specs.Prelude.{◌≡◌, true, false, List, [], ◌∷◌, map, Option, Some, None, Ok, Err}
use Rattle.hw_types.specs.declared.unit.Obs.TheVariants.{Absent, Correct, Faulty}
use Rattle.hw_types.specs.declared.unit.WireUnit.{WireUnit}
use Rattle.hw_types.specs.declared.unit.Need.TheVariants as need
use Rattle.hw_types.specs.declared.unit.Vertex.{Vertex}
use Rattle.hw_types.specs.declared.config.Config.{Config}
use Rattle.hw_types.specs.declared.answers.Plan.{Plan}
use Rattle.hw_types.specs.declared.answers.PlanKind.TheVariants as kind
use Rattle.hw_types.specs.declared.config.Leaders.TheVariants.{Table}
use Rattle.hw_types.specs.declared.answers.PairFault.TheVariants as fault
use Rattle.hw_types.specs.declared.answers.Receipt.TheVariants as receipt
use Rattle.hw_types.specs.declared.answers.Cause.TheVariants as cause
use Rattle.hw_types.specs.Graph.{Node, past}
use Rattle.hw_types.specs.Rules.{state_rule, has_naive_fork}
use Rattle.hw_types.specs.Settled.{Received, settled_of, parked_of, dropped_of, missing_of, panorama_of, faulty_weight, fork_choice, is_endorsed}
use Rattle.hw_types.specs.Journal.{Setting, received_of, answers_from}
use Rattle.hw_types.specs.Step.{step}
use Rattle.hw_types.specs.Culprits.{culprits_of, pair_of, shown_in_either}
use Rattle.hw_samples.specs.Words.{names_of, name_of}
use Rattle.hw_samples.specs.JournalWords.{dg, sent_as, both_as, backs, mixed, named_by, votes_in, parents_in, committee_test}

abbrev c : Config
c = record { weights = (1 ∷ 1 ∷ 1 ∷ []); ftt = 0; levels = 2; min_exponent = 2; max_exponent = 4; leaders = Table (1 ∷ []); max_records = 131072; max_parked = 1; end = None }

abbrev s : Setting
s = named_by mixed c

abbrev u0 : WireUnit
u0 = record { instance = dg (0 ∷ 0 ∷ 0 ∷ 0 ∷ []); creator = 1; seq = 0; time = 4; exponent = 2; panorama = (Absent ∷ Absent ∷ Absent ∷ []); value = Some ([]); endorsed = [] }

abbrev u1 : WireUnit
u1 = record { instance = dg (0 ∷ 0 ∷ 0 ∷ 0 ∷ []); creator = 1; seq = 1; time = 5; exponent = 2; panorama = (Absent ∷ Correct (dg (77 ∷ 1 ∷ 0 ∷ 4 ∷ [])) ∷ Absent ∷ []); value = None; endorsed = [] }

abbrev u2 : WireUnit
u2 = record { instance = dg (0 ∷ 0 ∷ 0 ∷ 0 ∷ []); creator = 0; seq = 0; time = 6; exponent = 2; panorama = (Absent ∷ Correct (dg (77 ∷ 1 ∷ 0 ∷ 4 ∷ [])) ∷ Absent ∷ []); value = None; endorsed = (dg (77 ∷ 1 ∷ 0 ∷ 4 ∷ []) ∷ []) }

abbrev u3 : WireUnit
u3 = record { instance = dg (0 ∷ 0 ∷ 0 ∷ 0 ∷ []); creator = 2; seq = 0; time = 9; exponent = 2; panorama = (Absent ∷ Correct (dg (77 ∷ 1 ∷ 0 ∷ 4 ∷ [])) ∷ Absent ∷ []); value = None; endorsed = (dg (77 ∷ 1 ∷ 0 ∷ 4 ∷ []) ∷ []) }

abbrev u4 : WireUnit
u4 = record { instance = dg (0 ∷ 0 ∷ 0 ∷ 0 ∷ []); creator = 1; seq = 1; time = 12; exponent = 2; panorama = (Absent ∷ Correct (dg (77 ∷ 1 ∷ 0 ∷ 4 ∷ [])) ∷ Correct (dg (38 ∷ 2 ∷ 0 ∷ 9 ∷ [])) ∷ []); value = Some ([]); endorsed = (dg (77 ∷ 1 ∷ 0 ∷ 4 ∷ []) ∷ []) }

abbrev u5 : WireUnit
u5 = record { instance = dg (0 ∷ 0 ∷ 0 ∷ 0 ∷ []); creator = 1; seq = 2; time = 15; exponent = 2; panorama = (Absent ∷ Correct (dg (86 ∷ 1 ∷ 1 ∷ 12 ∷ [])) ∷ Correct (dg (38 ∷ 2 ∷ 0 ∷ 9 ∷ [])) ∷ []); value = None; endorsed = (dg (77 ∷ 1 ∷ 0 ∷ 4 ∷ []) ∷ []) }

abbrev u6 : WireUnit
u6 = record { instance = dg (0 ∷ 0 ∷ 0 ∷ 0 ∷ []); creator = 0; seq = 0; time = 9; exponent = 2; panorama = (Absent ∷ Correct (dg (77 ∷ 1 ∷ 0 ∷ 4 ∷ [])) ∷ Correct (dg (38 ∷ 2 ∷ 0 ∷ 9 ∷ [])) ∷ []); value = None; endorsed = (dg (38 ∷ 2 ∷ 0 ∷ 9 ∷ []) ∷ dg (77 ∷ 1 ∷ 0 ∷ 4 ∷ []) ∷ []) }

abbrev u7 : WireUnit
u7 = record { instance = dg (0 ∷ 0 ∷ 0 ∷ 0 ∷ []); creator = 1; seq = 2; time = 12; exponent = 2; panorama = (Correct (dg (37 ∷ 0 ∷ 0 ∷ 9 ∷ [])) ∷ Correct (dg (86 ∷ 1 ∷ 1 ∷ 12 ∷ [])) ∷ Correct (dg (38 ∷ 2 ∷ 0 ∷ 9 ∷ [])) ∷ []); value = Some ([]); endorsed = (dg (38 ∷ 2 ∷ 0 ∷ 9 ∷ []) ∷ dg (77 ∷ 1 ∷ 0 ∷ 4 ∷ []) ∷ []) }

abbrev u8 : WireUnit
u8 = record { instance = dg (0 ∷ 0 ∷ 0 ∷ 0 ∷ []); creator = 0; seq = 1; time = 12; exponent = 2; panorama = (Correct (dg (37 ∷ 0 ∷ 0 ∷ 9 ∷ [])) ∷ Correct (dg (7 ∷ 1 ∷ 2 ∷ 12 ∷ [])) ∷ Correct (dg (38 ∷ 2 ∷ 0 ∷ 9 ∷ [])) ∷ []); value = None; endorsed = (dg (38 ∷ 2 ∷ 0 ∷ 9 ∷ []) ∷ dg (77 ∷ 1 ∷ 0 ∷ 4 ∷ []) ∷ []) }

abbrev j : List Vertex
j = (sent_as (1 ∷ []) u0 ∷ backs (dg (38 ∷ 2 ∷ 0 ∷ 9 ∷ [])) 1 ∷ backs (dg (77 ∷ 1 ∷ 0 ∷ 4 ∷ [])) 1 ∷ sent_as (1 ∷ []) u1 ∷ backs (dg (77 ∷ 1 ∷ 0 ∷ 4 ∷ [])) 2 ∷ sent_as [] u2 ∷ sent_as (1 ∷ []) u3 ∷ sent_as (1 ∷ []) u5 ∷ backs (dg (38 ∷ 2 ∷ 0 ∷ 9 ∷ [])) 0 ∷ [])

abbrev k : Received
k = received_of s j

abbrev units : List Node
units = (record { digest = dg (38 ∷ 2 ∷ 0 ∷ 9 ∷ []); unit = u3 } ∷ record { digest = dg (76 ∷ 1 ∷ 1 ∷ 5 ∷ []); unit = u1 } ∷ record { digest = dg (77 ∷ 1 ∷ 0 ∷ 4 ∷ []); unit = u0 } ∷ record { digest = dg (88 ∷ 0 ∷ 0 ∷ 6 ∷ []); unit = u2 } ∷ [])

abbrev plans : List (Option Plan)
plans = (None ∷ Some (record { kind = kind.Witness; unit = record { instance = dg (0 ∷ 0 ∷ 0 ∷ 0 ∷ []); creator = 0; seq = 1; time = 15; exponent = 2; panorama = (Correct (dg (88 ∷ 0 ∷ 0 ∷ 6 ∷ [])) ∷ Correct (dg (76 ∷ 1 ∷ 1 ∷ 5 ∷ [])) ∷ Correct (dg (38 ∷ 2 ∷ 0 ∷ 9 ∷ [])) ∷ []); value = None; endorsed = (dg (38 ∷ 2 ∷ 0 ∷ 9 ∷ []) ∷ dg (77 ∷ 1 ∷ 0 ∷ 4 ∷ []) ∷ []) } }) ∷ None ∷ Some (record { kind = kind.Propose; unit = record { instance = dg (0 ∷ 0 ∷ 0 ∷ 0 ∷ []); creator = 1; seq = 2; time = 8; exponent = 2; panorama = (Correct (dg (88 ∷ 0 ∷ 0 ∷ 6 ∷ [])) ∷ Correct (dg (76 ∷ 1 ∷ 1 ∷ 5 ∷ [])) ∷ Absent ∷ []); value = Some ((118 ∷ [])); endorsed = (dg (77 ∷ 1 ∷ 0 ∷ 4 ∷ []) ∷ []) } }) ∷ Some (record { kind = kind.Witness; unit = record { instance = dg (0 ∷ 0 ∷ 0 ∷ 0 ∷ []); creator = 2; seq = 1; time = 14; exponent = 2; panorama = (Correct (dg (88 ∷ 0 ∷ 0 ∷ 6 ∷ [])) ∷ Correct (dg (76 ∷ 1 ∷ 1 ∷ 5 ∷ [])) ∷ Correct (dg (38 ∷ 2 ∷ 0 ∷ 9 ∷ [])) ∷ []); value = None; endorsed = (dg (38 ∷ 2 ∷ 0 ∷ 9 ∷ []) ∷ dg (77 ∷ 1 ∷ 0 ∷ 4 ∷ []) ∷ []) } }) ∷ Some (record { kind = kind.Witness; unit = record { instance = dg (0 ∷ 0 ∷ 0 ∷ 0 ∷ []); creator = 2; seq = 1; time = 10; exponent = 2; panorama = (Correct (dg (88 ∷ 0 ∷ 0 ∷ 6 ∷ [])) ∷ Correct (dg (76 ∷ 1 ∷ 1 ∷ 5 ∷ [])) ∷ Correct (dg (38 ∷ 2 ∷ 0 ∷ 9 ∷ [])) ∷ []); value = None; endorsed = (dg (38 ∷ 2 ∷ 0 ∷ 9 ∷ []) ∷ dg (77 ∷ 1 ∷ 0 ∷ 4 ∷ []) ∷ []) } }) ∷ [])

abbrev j2 : List Vertex
j2 = (sent_as [] u0 ∷ backs (dg (77 ∷ 1 ∷ 0 ∷ 4 ∷ [])) 0 ∷ sent_as (1 ∷ []) u1 ∷ both_as [] u6 [] u2 ∷ sent_as (1 ∷ []) u2 ∷ backs (dg (38 ∷ 2 ∷ 0 ∷ 9 ∷ [])) 2 ∷ backs (dg (77 ∷ 1 ∷ 0 ∷ 4 ∷ [])) 1 ∷ sent_as [] u3 ∷ sent_as [] u4 ∷ sent_as [] u5 ∷ sent_as [] u6 ∷ backs (dg (38 ∷ 2 ∷ 0 ∷ 9 ∷ [])) 1 ∷ sent_as [] u7 ∷ sent_as [] u8 ∷ [])

pub record RandomJournal1 : Type 0 where
  pub answers : answers_from s [] ((sent_as (1 ∷ []) u0, true) ∷ (backs (dg (38 ∷ 2 ∷ 0 ∷ 9 ∷ [])) 1, true) ∷ (backs (dg (77 ∷ 1 ∷ 0 ∷ 4 ∷ [])) 1, true) ∷ (sent_as (1 ∷ []) u1, true) ∷ (backs (dg (77 ∷ 1 ∷ 0 ∷ 4 ∷ [])) 2, true) ∷ (sent_as [] u2, true) ∷ (sent_as (1 ∷ []) u3, true) ∷ (sent_as (1 ∷ []) u4, false) ∷ (sent_as (1 ∷ []) u5, true) ∷ (sent_as (1 ∷ []) u6, true) ∷ (both_as [] u6 (3 ∷ []) u5, true) ∷ (sent_as (1 ∷ []) u7, true) ∷ (both_as [] u6 (3 ∷ []) u5, true) ∷ (backs (dg (38 ∷ 2 ∷ 0 ∷ 9 ∷ [])) 0, true) ∷ (sent_as (1 ∷ []) u8, true) ∷ (sent_as (5 ∷ []) u1, true) ∷ []) ≡ ((Ok (receipt.Admitted 1) ∷ Ok (receipt.Admitted 0) ∷ Ok (receipt.Admitted 0) ∷ Ok (receipt.Admitted 1) ∷ Ok (receipt.Admitted 0) ∷ Ok (receipt.Admitted 1) ∷ Ok (receipt.Admitted 1) ∷ Err cause.BadSignature ∷ Ok (receipt.Parked 1) ∷ Err cause.ParkFull ∷ Err (cause.Pair fault.Creator) ∷ Err cause.ParkFull ∷ Err (cause.Pair fault.Creator) ∷ Ok (receipt.Admitted 0) ∷ Err cause.ParkFull ∷ Ok receipt.Repeat ∷ []))
  pub settled : settled_of c k ≡ units
  pub parked : names_of (parked_of c k) ≡ (dg (10 ∷ 1 ∷ 2 ∷ 15 ∷ []) ∷ [])
  pub dropped : names_of (dropped_of c k) ≡ []
  pub panorama : panorama_of c k ≡ (Correct (dg (88 ∷ 0 ∷ 0 ∷ 6 ∷ [])) ∷ Correct (dg (76 ∷ 1 ∷ 1 ∷ 5 ∷ [])) ∷ Correct (dg (38 ∷ 2 ∷ 0 ∷ 9 ∷ [])) ∷ [])
  pub weight : faulty_weight c k ≡ 0
  pub fork : name_of (fork_choice c k) ≡ Some (dg (77 ∷ 1 ∷ 0 ∷ 4 ∷ []))
  pub endorsed : map (is_endorsed c k) (dg (38 ∷ 2 ∷ 0 ∷ 9 ∷ []) ∷ dg (77 ∷ 1 ∷ 0 ∷ 4 ∷ []) ∷ []) ≡ (true ∷ true ∷ [])
  pub votes : votes_in c units ≡ (Some (dg (77 ∷ 1 ∷ 0 ∷ 4 ∷ [])) ∷ Some (dg (77 ∷ 1 ∷ 0 ∷ 4 ∷ [])) ∷ Some (dg (77 ∷ 1 ∷ 0 ∷ 4 ∷ [])) ∷ Some (dg (77 ∷ 1 ∷ 0 ∷ 4 ∷ [])) ∷ [])
  pub heights : parents_in c units ≡ ((None, 0) ∷ [])
  pub missing : map (missing_of c k units) (record { digest = dg (10 ∷ 1 ∷ 2 ∷ 15 ∷ []); unit = u5 } ∷ record { digest = dg (38 ∷ 2 ∷ 0 ∷ 9 ∷ []); unit = u3 } ∷ record { digest = dg (76 ∷ 1 ∷ 1 ∷ 5 ∷ []); unit = u1 } ∷ record { digest = dg (77 ∷ 1 ∷ 0 ∷ 4 ∷ []); unit = u0 } ∷ record { digest = dg (88 ∷ 0 ∷ 0 ∷ 6 ∷ []); unit = u2 } ∷ []) ≡ (((need.Unit (dg (86 ∷ 1 ∷ 1 ∷ 12 ∷ [])) ∷ []) ∷ [] ∷ [] ∷ [] ∷ [] ∷ []))
  pub rules : map (state_rule c units) (record { digest = dg (38 ∷ 2 ∷ 0 ∷ 9 ∷ []); unit = u3 } ∷ record { digest = dg (76 ∷ 1 ∷ 1 ∷ 5 ∷ []); unit = u1 } ∷ record { digest = dg (77 ∷ 1 ∷ 0 ∷ 4 ∷ []); unit = u0 } ∷ record { digest = dg (88 ∷ 0 ∷ 0 ∷ 6 ∷ []); unit = u2 } ∷ []) ≡ (None ∷ None ∷ None ∷ None ∷ [])
  pub naive : (has_naive_fork (past units (Correct (dg (88 ∷ 0 ∷ 0 ∷ 6 ∷ [])) ∷ Absent ∷ Correct (dg (38 ∷ 2 ∷ 0 ∷ 9 ∷ [])) ∷ [])) [] ∷ has_naive_fork (past units (Correct (dg (88 ∷ 0 ∷ 0 ∷ 6 ∷ [])) ∷ Correct (dg (76 ∷ 1 ∷ 1 ∷ 5 ∷ [])) ∷ Faulty ∷ [])) (dg (77 ∷ 1 ∷ 0 ∷ 4 ∷ []) ∷ []) ∷ has_naive_fork (past units (Correct (dg (88 ∷ 0 ∷ 0 ∷ 6 ∷ [])) ∷ Correct (dg (76 ∷ 1 ∷ 1 ∷ 5 ∷ [])) ∷ Correct (dg (38 ∷ 2 ∷ 0 ∷ 9 ∷ [])) ∷ [])) [] ∷ has_naive_fork (past units (Correct (dg (88 ∷ 0 ∷ 0 ∷ 6 ∷ [])) ∷ Correct (dg (76 ∷ 1 ∷ 1 ∷ 5 ∷ [])) ∷ Correct (dg (38 ∷ 2 ∷ 0 ∷ 9 ∷ [])) ∷ [])) (dg (76 ∷ 1 ∷ 1 ∷ 5 ∷ []) ∷ dg (77 ∷ 1 ∷ 0 ∷ 4 ∷ []) ∷ []) ∷ []) ≡ (false ∷ false ∷ false ∷ false ∷ [])
  pub steps : (step s k 0 8 (118 ∷ []) ∷ step s k 0 15 (118 ∷ []) ∷ step s k 1 6 (118 ∷ []) ∷ step s k 1 8 (118 ∷ []) ∷ step s k 2 14 (118 ∷ []) ∷ step s k 2 10 (118 ∷ []) ∷ []) ≡ plans
  pub culprits : culprits_of s j j2 ≡ (0 ∷ 1 ∷ [])
  pub pair0 : pair_of (shown_in_either s j j2) 0 ≡ Some (record { digest = dg (37 ∷ 0 ∷ 0 ∷ 9 ∷ []); unit = u6 }, record { digest = dg (88 ∷ 0 ∷ 0 ∷ 6 ∷ []); unit = u2 })
  pub pair1 : pair_of (shown_in_either s j j2) 1 ≡ Some (record { digest = dg (76 ∷ 1 ∷ 1 ∷ 5 ∷ []); unit = u1 }, record { digest = dg (86 ∷ 1 ∷ 1 ∷ 12 ∷ []); unit = u4 })
  pub summits : (committee_test c.weights units (Correct (dg (88 ∷ 0 ∷ 0 ∷ 6 ∷ [])) ∷ Correct (dg (76 ∷ 1 ∷ 1 ∷ 5 ∷ [])) ∷ Correct (dg (38 ∷ 2 ∷ 0 ∷ 9 ∷ [])) ∷ []) (record { digest = dg (77 ∷ 1 ∷ 0 ∷ 4 ∷ []); unit = record { instance = dg (0 ∷ 0 ∷ 0 ∷ 0 ∷ []); creator = 1; seq = 0; time = 4; exponent = 2; panorama = (Absent ∷ Absent ∷ Absent ∷ []); value = Some ([]); endorsed = [] } }) 1 1 (((0, 0) ∷ (1, 0) ∷ (2, 0) ∷ []) ∷ ((0, 0) ∷ (1, 1) ∷ (2, 0) ∷ []) ∷ []) ∷ committee_test c.weights units (Correct (dg (88 ∷ 0 ∷ 0 ∷ 6 ∷ [])) ∷ Correct (dg (76 ∷ 1 ∷ 1 ∷ 5 ∷ [])) ∷ Correct (dg (38 ∷ 2 ∷ 0 ∷ 9 ∷ [])) ∷ []) (record { digest = dg (77 ∷ 1 ∷ 0 ∷ 4 ∷ []); unit = record { instance = dg (0 ∷ 0 ∷ 0 ∷ 0 ∷ []); creator = 1; seq = 0; time = 4; exponent = 2; panorama = (Absent ∷ Absent ∷ Absent ∷ []); value = Some ([]); endorsed = [] } }) 1 1 (((0, 0) ∷ (1, 0) ∷ (2, 0) ∷ []) ∷ ((0, 0) ∷ (1, 1) ∷ (2, 0) ∷ []) ∷ []) ∷ committee_test c.weights units (Correct (dg (88 ∷ 0 ∷ 0 ∷ 6 ∷ [])) ∷ Correct (dg (76 ∷ 1 ∷ 1 ∷ 5 ∷ [])) ∷ Correct (dg (38 ∷ 2 ∷ 0 ∷ 9 ∷ [])) ∷ []) (record { digest = dg (77 ∷ 1 ∷ 0 ∷ 4 ∷ []); unit = record { instance = dg (0 ∷ 0 ∷ 0 ∷ 0 ∷ []); creator = 1; seq = 0; time = 4; exponent = 2; panorama = (Absent ∷ Absent ∷ Absent ∷ []); value = Some ([]); endorsed = [] } }) 1 1 (((1, 0) ∷ (2, 0) ∷ []) ∷ ((0, 0) ∷ (1, 1) ∷ (2, 0) ∷ []) ∷ []) ∷ committee_test c.weights units (Correct (dg (88 ∷ 0 ∷ 0 ∷ 6 ∷ [])) ∷ Correct (dg (76 ∷ 1 ∷ 1 ∷ 5 ∷ [])) ∷ Correct (dg (38 ∷ 2 ∷ 0 ∷ 9 ∷ [])) ∷ []) (record { digest = dg (77 ∷ 1 ∷ 0 ∷ 4 ∷ []); unit = record { instance = dg (0 ∷ 0 ∷ 0 ∷ 0 ∷ []); creator = 1; seq = 0; time = 4; exponent = 2; panorama = (Absent ∷ Absent ∷ Absent ∷ []); value = Some ([]); endorsed = [] } }) 1 1 ([] ∷ [] ∷ []) ∷ committee_test c.weights units (Correct (dg (88 ∷ 0 ∷ 0 ∷ 6 ∷ [])) ∷ Correct (dg (76 ∷ 1 ∷ 1 ∷ 5 ∷ [])) ∷ Correct (dg (38 ∷ 2 ∷ 0 ∷ 9 ∷ [])) ∷ []) (record { digest = dg (77 ∷ 1 ∷ 0 ∷ 4 ∷ []); unit = record { instance = dg (0 ∷ 0 ∷ 0 ∷ 0 ∷ []); creator = 1; seq = 0; time = 4; exponent = 2; panorama = (Absent ∷ Absent ∷ Absent ∷ []); value = Some ([]); endorsed = [] } }) 1 1 (((0, 0) ∷ (1, 0) ∷ (2, 0) ∷ []) ∷ ((1, 0) ∷ (2, 0) ∷ []) ∷ []) ∷ committee_test c.weights units (Correct (dg (88 ∷ 0 ∷ 0 ∷ 6 ∷ [])) ∷ Correct (dg (76 ∷ 1 ∷ 1 ∷ 5 ∷ [])) ∷ Correct (dg (38 ∷ 2 ∷ 0 ∷ 9 ∷ [])) ∷ []) (record { digest = dg (77 ∷ 1 ∷ 0 ∷ 4 ∷ []); unit = record { instance = dg (0 ∷ 0 ∷ 0 ∷ 0 ∷ []); creator = 1; seq = 0; time = 4; exponent = 2; panorama = (Absent ∷ Absent ∷ Absent ∷ []); value = Some ([]); endorsed = [] } }) 2 2 (((0, 0) ∷ (2, 0) ∷ []) ∷ ((0, 0) ∷ (2, 0) ∷ []) ∷ ((0, 0) ∷ (2, 0) ∷ []) ∷ []) ∷ committee_test c.weights units (Correct (dg (88 ∷ 0 ∷ 0 ∷ 6 ∷ [])) ∷ Correct (dg (76 ∷ 1 ∷ 1 ∷ 5 ∷ [])) ∷ Correct (dg (38 ∷ 2 ∷ 0 ∷ 9 ∷ [])) ∷ []) (record { digest = dg (77 ∷ 1 ∷ 0 ∷ 4 ∷ []); unit = record { instance = dg (0 ∷ 0 ∷ 0 ∷ 0 ∷ []); creator = 1; seq = 0; time = 4; exponent = 2; panorama = (Absent ∷ Absent ∷ Absent ∷ []); value = Some ([]); endorsed = [] } }) 2 2 (((0, 0) ∷ (1, 1) ∷ (2, 0) ∷ []) ∷ ((0, 0) ∷ (1, 1) ∷ (2, 0) ∷ []) ∷ ((0, 0) ∷ (1, 1) ∷ (2, 0) ∷ []) ∷ []) ∷ committee_test c.weights units (Absent ∷ Correct (dg (77 ∷ 1 ∷ 0 ∷ 4 ∷ [])) ∷ Absent ∷ []) (record { digest = dg (77 ∷ 1 ∷ 0 ∷ 4 ∷ []); unit = record { instance = dg (0 ∷ 0 ∷ 0 ∷ 0 ∷ []); creator = 1; seq = 0; time = 4; exponent = 2; panorama = (Absent ∷ Absent ∷ Absent ∷ []); value = Some ([]); endorsed = [] } }) 1 3 (((1, 0) ∷ []) ∷ ((1, 0) ∷ []) ∷ []) ∷ committee_test c.weights units (Absent ∷ Correct (dg (77 ∷ 1 ∷ 0 ∷ 4 ∷ [])) ∷ Absent ∷ []) (record { digest = dg (77 ∷ 1 ∷ 0 ∷ 4 ∷ []); unit = record { instance = dg (0 ∷ 0 ∷ 0 ∷ 0 ∷ []); creator = 1; seq = 0; time = 4; exponent = 2; panorama = (Absent ∷ Absent ∷ Absent ∷ []); value = Some ([]); endorsed = [] } }) 1 3 (((1, 0) ∷ []) ∷ ((1, 0) ∷ []) ∷ []) ∷ committee_test c.weights units (Absent ∷ Correct (dg (77 ∷ 1 ∷ 0 ∷ 4 ∷ [])) ∷ Absent ∷ []) (record { digest = dg (77 ∷ 1 ∷ 0 ∷ 4 ∷ []); unit = record { instance = dg (0 ∷ 0 ∷ 0 ∷ 0 ∷ []); creator = 1; seq = 0; time = 4; exponent = 2; panorama = (Absent ∷ Absent ∷ Absent ∷ []); value = Some ([]); endorsed = [] } }) 2 3 ([] ∷ [] ∷ [] ∷ []) ∷ committee_test c.weights units (Absent ∷ Correct (dg (77 ∷ 1 ∷ 0 ∷ 4 ∷ [])) ∷ Absent ∷ []) (record { digest = dg (77 ∷ 1 ∷ 0 ∷ 4 ∷ []); unit = record { instance = dg (0 ∷ 0 ∷ 0 ∷ 0 ∷ []); creator = 1; seq = 0; time = 4; exponent = 2; panorama = (Absent ∷ Absent ∷ Absent ∷ []); value = Some ([]); endorsed = [] } }) 2 3 (((1, 0) ∷ []) ∷ ((1, 0) ∷ []) ∷ ((1, 0) ∷ []) ∷ []) ∷ []) ≡ (true ∷ true ∷ false ∷ false ∷ false ∷ false ∷ false ∷ false ∷ false ∷ false ∷ false ∷ [])
