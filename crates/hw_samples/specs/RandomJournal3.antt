-- A random journal: a random choice of units that cite random earlier ones, endorsements and evidence, in random order.
-- The values are those of a second reading of the definitions, written apart from them; the two agree.
use Rattle.std.specs.Prelude.{◌≡◌, true, false, List, [], ◌∷◌, map, Option, Some, None, Ok, Err}
use Rattle.hw_types.specs.declared.unit.Obs.TheVariants.{Absent, Correct, Faulty}
use Rattle.hw_types.specs.declared.unit.WireUnit.{WireUnit}
use Rattle.hw_types.specs.declared.unit.Need.TheVariants as need
use Rattle.hw_types.specs.declared.unit.Vertex.{Vertex}
use Rattle.hw_types.specs.declared.config.Config.{Config}
use Rattle.hw_types.specs.declared.answers.Plan.{Plan}
use Rattle.hw_types.specs.declared.answers.PlanKind.TheVariants as kind
use Rattle.hw_types.specs.declared.config.Leaders.TheVariants.{Table}
use Rattle.hw_types.specs.declared.answers.Rule.TheVariants as rule
use Rattle.hw_types.specs.declared.answers.Receipt.TheVariants as receipt
use Rattle.hw_types.specs.declared.answers.Cause.TheVariants as cause
use Rattle.hw_types.specs.Graph.{Node, past}
use Rattle.hw_types.specs.Rules.{state_rule, has_naive_fork}
use Rattle.hw_types.specs.Settled.{Received, settled_of, parked_of, dropped_of, missing_of, panorama_of, faulty_weight, fork_choice}
use Rattle.hw_types.specs.Journal.{Setting, received_of, answers_from}
use Rattle.hw_types.specs.Step.{step}
use Rattle.hw_types.specs.Culprits.{culprits_of, pair_of, shown_in_either}
use Rattle.hw_samples.specs.Words.{names_of, name_of}
use Rattle.hw_samples.specs.JournalWords.{dg, sent_as, both_as, mixed, named_by, votes_in, parents_in, committee_test}

abbrev c : Config
c = record { weights = (1 ∷ 2 ∷ 2 ∷ []); ftt = 0; levels = 2; min_exponent = 2; max_exponent = 4; leaders = Table (0 ∷ 2 ∷ []); max_records = 7; max_parked = 2; end = Some (1) }

abbrev s : Setting
s = named_by mixed c

abbrev u0 : WireUnit
u0 = record { instance = dg (0 ∷ 0 ∷ 0 ∷ 0 ∷ []); creator = 0; seq = 0; time = 8; exponent = 2; panorama = (Absent ∷ Absent ∷ Correct (dg (72 ∷ 2 ∷ 1 ∷ 4 ∷ [])) ∷ []); value = Some ((120 ∷ [])); endorsed = [] }

abbrev u1 : WireUnit
u1 = record { instance = dg (0 ∷ 0 ∷ 0 ∷ 0 ∷ []); creator = 2; seq = 1; time = 4; exponent = 2; panorama = (Absent ∷ Absent ∷ Correct (dg (84 ∷ 2 ∷ 0 ∷ 4 ∷ [])) ∷ []); value = None; endorsed = [] }

abbrev u2 : WireUnit
u2 = record { instance = dg (0 ∷ 0 ∷ 0 ∷ 0 ∷ []); creator = 2; seq = 0; time = 19; exponent = 2; panorama = (Correct (dg (23 ∷ 0 ∷ 3 ∷ 16 ∷ [])) ∷ Absent ∷ Correct (dg (84 ∷ 2 ∷ 0 ∷ 4 ∷ [])) ∷ []); value = None; endorsed = [] }

abbrev u3 : WireUnit
u3 = record { instance = dg (0 ∷ 0 ∷ 0 ∷ 0 ∷ []); creator = 2; seq = 0; time = 4; exponent = 2; panorama = (Absent ∷ Absent ∷ Absent ∷ []); value = Some ([]); endorsed = [] }

abbrev u4 : WireUnit
u4 = record { instance = dg (0 ∷ 0 ∷ 0 ∷ 0 ∷ []); creator = 2; seq = 2; time = 12; exponent = 2; panorama = (Correct (dg (40 ∷ 0 ∷ 0 ∷ 8 ∷ [])) ∷ Absent ∷ Correct (dg (72 ∷ 2 ∷ 1 ∷ 4 ∷ [])) ∷ []); value = Some ((121 ∷ 122 ∷ [])); endorsed = [] }

abbrev u5 : WireUnit
u5 = record { instance = dg (0 ∷ 0 ∷ 0 ∷ 0 ∷ []); creator = 0; seq = 1; time = 13; exponent = 3; panorama = (Correct (dg (40 ∷ 0 ∷ 0 ∷ 8 ∷ [])) ∷ Absent ∷ Correct (dg (37 ∷ 2 ∷ 2 ∷ 12 ∷ [])) ∷ []); value = None; endorsed = [] }

abbrev u6 : WireUnit
u6 = record { instance = dg (0 ∷ 0 ∷ 0 ∷ 0 ∷ []); creator = 0; seq = 1; time = 8; exponent = 2; panorama = (Correct (dg (40 ∷ 0 ∷ 0 ∷ 8 ∷ [])) ∷ Absent ∷ Correct (dg (72 ∷ 2 ∷ 1 ∷ 4 ∷ [])) ∷ []); value = None; endorsed = [] }

abbrev u7 : WireUnit
u7 = record { instance = dg (0 ∷ 0 ∷ 0 ∷ 0 ∷ []); creator = 0; seq = 2; time = 9; exponent = 2; panorama = (Correct (dg (5 ∷ 0 ∷ 1 ∷ 8 ∷ [])) ∷ Absent ∷ Correct (dg (84 ∷ 2 ∷ 0 ∷ 4 ∷ [])) ∷ []); value = None; endorsed = [] }

abbrev u8 : WireUnit
u8 = record { instance = dg (0 ∷ 0 ∷ 0 ∷ 0 ∷ []); creator = 0; seq = 3; time = 16; exponent = 2; panorama = (Correct (dg (21 ∷ 0 ∷ 2 ∷ 9 ∷ [])) ∷ Absent ∷ Correct (dg (84 ∷ 2 ∷ 0 ∷ 4 ∷ [])) ∷ []); value = Some ([]); endorsed = [] }

abbrev j : List Vertex
j = (sent_as [] u0 ∷ sent_as (1 ∷ []) u1 ∷ sent_as [] u3 ∷ sent_as (1 ∷ []) u4 ∷ sent_as (1 ∷ []) u5 ∷ sent_as (1 ∷ []) u6 ∷ sent_as (1 ∷ []) u7 ∷ [])

abbrev k : Received
k = received_of s j

abbrev units : List Node
units = (record { digest = dg (5 ∷ 0 ∷ 1 ∷ 8 ∷ []); unit = u6 } ∷ record { digest = dg (40 ∷ 0 ∷ 0 ∷ 8 ∷ []); unit = u0 } ∷ record { digest = dg (72 ∷ 2 ∷ 1 ∷ 4 ∷ []); unit = u1 } ∷ record { digest = dg (84 ∷ 2 ∷ 0 ∷ 4 ∷ []); unit = u3 } ∷ [])

abbrev plans : List (Option Plan)
plans = (Some (record { kind = kind.Witness; unit = record { instance = dg (0 ∷ 0 ∷ 0 ∷ 0 ∷ []); creator = 0; seq = 2; time = 14; exponent = 2; panorama = (Correct (dg (5 ∷ 0 ∷ 1 ∷ 8 ∷ [])) ∷ Absent ∷ Correct (dg (72 ∷ 2 ∷ 1 ∷ 4 ∷ [])) ∷ []); value = None; endorsed = [] } }) ∷ None ∷ Some (record { kind = kind.Witness; unit = record { instance = dg (0 ∷ 0 ∷ 0 ∷ 0 ∷ []); creator = 1; seq = 0; time = 10; exponent = 2; panorama = (Correct (dg (5 ∷ 0 ∷ 1 ∷ 8 ∷ [])) ∷ Absent ∷ Correct (dg (72 ∷ 2 ∷ 1 ∷ 4 ∷ [])) ∷ []); value = None; endorsed = [] } }) ∷ Some (record { kind = kind.Confirm; unit = record { instance = dg (0 ∷ 0 ∷ 0 ∷ 0 ∷ []); creator = 1; seq = 0; time = 4; exponent = 2; panorama = (Absent ∷ Absent ∷ Correct (dg (72 ∷ 2 ∷ 1 ∷ 4 ∷ [])) ∷ []); value = None; endorsed = [] } }) ∷ None ∷ Some (record { kind = kind.Confirm; unit = record { instance = dg (0 ∷ 0 ∷ 0 ∷ 0 ∷ []); creator = 2; seq = 2; time = 8; exponent = 2; panorama = (Correct (dg (5 ∷ 0 ∷ 1 ∷ 8 ∷ [])) ∷ Absent ∷ Correct (dg (72 ∷ 2 ∷ 1 ∷ 4 ∷ [])) ∷ []); value = None; endorsed = [] } }) ∷ [])

abbrev j2 : List Vertex
j2 = (sent_as [] u3 ∷ sent_as [] u5 ∷ sent_as (1 ∷ []) u0 ∷ both_as [] u6 [] u5 ∷ sent_as [] u1 ∷ [])

pub record RandomJournal3 : Type 0 where
  pub answers : answers_from s [] ((sent_as [] u0, true) ∷ (sent_as (1 ∷ []) u1, true) ∷ (sent_as (5 ∷ []) u2, true) ∷ (sent_as [] u3, true) ∷ (sent_as (1 ∷ []) u4, true) ∷ (sent_as (1 ∷ []) u5, true) ∷ (sent_as (1 ∷ []) u6, true) ∷ (sent_as (1 ∷ []) u7, true) ∷ (sent_as [] u2, true) ∷ (sent_as [] u8, true) ∷ []) ≡ ((Ok (receipt.Parked 1) ∷ Ok (receipt.Parked 1) ∷ Err (cause.Local rule.FirstSequence) ∷ Ok (receipt.Admitted 3) ∷ Ok (receipt.Dropped rule.AfterTerminal) ∷ Ok (receipt.Parked 1) ∷ Ok (receipt.Admitted 1) ∷ Ok (receipt.Dropped rule.Inconsistent) ∷ Err (cause.Local rule.FirstSequence) ∷ Err cause.RecordsFull ∷ []))
  pub settled : settled_of c k ≡ units
  pub parked : names_of (parked_of c k) ≡ (dg (63 ∷ 0 ∷ 1 ∷ 13 ∷ []) ∷ [])
  pub dropped : names_of (dropped_of c k) ≡ (dg (21 ∷ 0 ∷ 2 ∷ 9 ∷ []) ∷ dg (37 ∷ 2 ∷ 2 ∷ 12 ∷ []) ∷ [])
  pub panorama : panorama_of c k ≡ (Correct (dg (5 ∷ 0 ∷ 1 ∷ 8 ∷ [])) ∷ Absent ∷ Correct (dg (72 ∷ 2 ∷ 1 ∷ 4 ∷ [])) ∷ [])
  pub weight : faulty_weight c k ≡ 0
  pub fork : name_of (fork_choice c k) ≡ Some (dg (40 ∷ 0 ∷ 0 ∷ 8 ∷ []))
  pub votes : votes_in c units ≡ (Some (dg (40 ∷ 0 ∷ 0 ∷ 8 ∷ [])) ∷ Some (dg (40 ∷ 0 ∷ 0 ∷ 8 ∷ [])) ∷ Some (dg (84 ∷ 2 ∷ 0 ∷ 4 ∷ [])) ∷ Some (dg (84 ∷ 2 ∷ 0 ∷ 4 ∷ [])) ∷ [])
  pub heights : parents_in c units ≡ ((Some (dg (84 ∷ 2 ∷ 0 ∷ 4 ∷ [])), 1) ∷ (None, 0) ∷ [])
  pub missing : map (missing_of c k units) (record { digest = dg (5 ∷ 0 ∷ 1 ∷ 8 ∷ []); unit = u6 } ∷ record { digest = dg (21 ∷ 0 ∷ 2 ∷ 9 ∷ []); unit = u7 } ∷ record { digest = dg (37 ∷ 2 ∷ 2 ∷ 12 ∷ []); unit = u4 } ∷ record { digest = dg (40 ∷ 0 ∷ 0 ∷ 8 ∷ []); unit = u0 } ∷ record { digest = dg (63 ∷ 0 ∷ 1 ∷ 13 ∷ []); unit = u5 } ∷ record { digest = dg (72 ∷ 2 ∷ 1 ∷ 4 ∷ []); unit = u1 } ∷ record { digest = dg (84 ∷ 2 ∷ 0 ∷ 4 ∷ []); unit = u3 } ∷ []) ≡ (([] ∷ [] ∷ [] ∷ [] ∷ (need.Unit (dg (37 ∷ 2 ∷ 2 ∷ 12 ∷ [])) ∷ []) ∷ [] ∷ [] ∷ []))
  pub rules : map (state_rule c units) (record { digest = dg (5 ∷ 0 ∷ 1 ∷ 8 ∷ []); unit = u6 } ∷ record { digest = dg (21 ∷ 0 ∷ 2 ∷ 9 ∷ []); unit = u7 } ∷ record { digest = dg (37 ∷ 2 ∷ 2 ∷ 12 ∷ []); unit = u4 } ∷ record { digest = dg (40 ∷ 0 ∷ 0 ∷ 8 ∷ []); unit = u0 } ∷ record { digest = dg (72 ∷ 2 ∷ 1 ∷ 4 ∷ []); unit = u1 } ∷ record { digest = dg (84 ∷ 2 ∷ 0 ∷ 4 ∷ []); unit = u3 } ∷ []) ≡ (None ∷ Some (rule.Inconsistent) ∷ Some (rule.AfterTerminal) ∷ None ∷ None ∷ None ∷ [])
  pub naive : (has_naive_fork (past units (Correct (dg (5 ∷ 0 ∷ 1 ∷ 8 ∷ [])) ∷ Absent ∷ Correct (dg (72 ∷ 2 ∷ 1 ∷ 4 ∷ [])) ∷ [])) [] ∷ has_naive_fork (past units (Correct (dg (40 ∷ 0 ∷ 0 ∷ 8 ∷ [])) ∷ Faulty ∷ Faulty ∷ [])) [] ∷ has_naive_fork (past units (Correct (dg (5 ∷ 0 ∷ 1 ∷ 8 ∷ [])) ∷ Faulty ∷ Correct (dg (84 ∷ 2 ∷ 0 ∷ 4 ∷ [])) ∷ [])) [] ∷ has_naive_fork (past units (Correct (dg (5 ∷ 0 ∷ 1 ∷ 8 ∷ [])) ∷ Absent ∷ Correct (dg (72 ∷ 2 ∷ 1 ∷ 4 ∷ [])) ∷ [])) [] ∷ []) ≡ (false ∷ false ∷ false ∷ false ∷ [])
  pub steps : (step s k 0 14 (118 ∷ []) ∷ step s k 0 8 (118 ∷ []) ∷ step s k 1 10 (118 ∷ []) ∷ step s k 1 4 (118 ∷ []) ∷ step s k 2 3 (118 ∷ []) ∷ step s k 2 8 (118 ∷ []) ∷ []) ≡ plans
  pub culprits : culprits_of s j j2 ≡ (0 ∷ [])
  pub pair0 : pair_of (shown_in_either s j j2) 0 ≡ Some (record { digest = dg (5 ∷ 0 ∷ 1 ∷ 8 ∷ []); unit = u6 }, record { digest = dg (63 ∷ 0 ∷ 1 ∷ 13 ∷ []); unit = u5 })
  pub summits : (committee_test c.weights units (Correct (dg (5 ∷ 0 ∷ 1 ∷ 8 ∷ [])) ∷ Absent ∷ Correct (dg (72 ∷ 2 ∷ 1 ∷ 4 ∷ [])) ∷ []) (record { digest = dg (40 ∷ 0 ∷ 0 ∷ 8 ∷ []); unit = record { instance = dg (0 ∷ 0 ∷ 0 ∷ 0 ∷ []); creator = 0; seq = 0; time = 8; exponent = 2; panorama = (Absent ∷ Absent ∷ Correct (dg (72 ∷ 2 ∷ 1 ∷ 4 ∷ [])) ∷ []); value = Some ((120 ∷ [])); endorsed = [] } }) 1 1 (((0, 0) ∷ []) ∷ ((0, 1) ∷ []) ∷ []) ∷ committee_test c.weights units (Correct (dg (5 ∷ 0 ∷ 1 ∷ 8 ∷ [])) ∷ Absent ∷ Correct (dg (72 ∷ 2 ∷ 1 ∷ 4 ∷ [])) ∷ []) (record { digest = dg (40 ∷ 0 ∷ 0 ∷ 8 ∷ []); unit = record { instance = dg (0 ∷ 0 ∷ 0 ∷ 0 ∷ []); creator = 0; seq = 0; time = 8; exponent = 2; panorama = (Absent ∷ Absent ∷ Correct (dg (72 ∷ 2 ∷ 1 ∷ 4 ∷ [])) ∷ []); value = Some ((120 ∷ [])); endorsed = [] } }) 1 1 (((0, 0) ∷ []) ∷ ((0, 1) ∷ []) ∷ []) ∷ committee_test c.weights units (Correct (dg (5 ∷ 0 ∷ 1 ∷ 8 ∷ [])) ∷ Absent ∷ Correct (dg (72 ∷ 2 ∷ 1 ∷ 4 ∷ [])) ∷ []) (record { digest = dg (40 ∷ 0 ∷ 0 ∷ 8 ∷ []); unit = record { instance = dg (0 ∷ 0 ∷ 0 ∷ 0 ∷ []); creator = 0; seq = 0; time = 8; exponent = 2; panorama = (Absent ∷ Absent ∷ Correct (dg (72 ∷ 2 ∷ 1 ∷ 4 ∷ [])) ∷ []); value = Some ((120 ∷ [])); endorsed = [] } }) 1 1 (((0, 0) ∷ []) ∷ ((0, 2) ∷ []) ∷ []) ∷ committee_test c.weights units (Correct (dg (5 ∷ 0 ∷ 1 ∷ 8 ∷ [])) ∷ Absent ∷ Correct (dg (72 ∷ 2 ∷ 1 ∷ 4 ∷ [])) ∷ []) (record { digest = dg (40 ∷ 0 ∷ 0 ∷ 8 ∷ []); unit = record { instance = dg (0 ∷ 0 ∷ 0 ∷ 0 ∷ []); creator = 0; seq = 0; time = 8; exponent = 2; panorama = (Absent ∷ Absent ∷ Correct (dg (72 ∷ 2 ∷ 1 ∷ 4 ∷ [])) ∷ []); value = Some ((120 ∷ [])); endorsed = [] } }) 1 1 (((2, 0) ∷ []) ∷ ((2, 1) ∷ []) ∷ []) ∷ committee_test c.weights units (Correct (dg (5 ∷ 0 ∷ 1 ∷ 8 ∷ [])) ∷ Absent ∷ Correct (dg (72 ∷ 2 ∷ 1 ∷ 4 ∷ [])) ∷ []) (record { digest = dg (40 ∷ 0 ∷ 0 ∷ 8 ∷ []); unit = record { instance = dg (0 ∷ 0 ∷ 0 ∷ 0 ∷ []); creator = 0; seq = 0; time = 8; exponent = 2; panorama = (Absent ∷ Absent ∷ Correct (dg (72 ∷ 2 ∷ 1 ∷ 4 ∷ [])) ∷ []); value = Some ((120 ∷ [])); endorsed = [] } }) 1 1 (((0, 1) ∷ (2, 0) ∷ []) ∷ ((0, 1) ∷ (2, 0) ∷ []) ∷ []) ∷ committee_test c.weights units (Correct (dg (5 ∷ 0 ∷ 1 ∷ 8 ∷ [])) ∷ Absent ∷ Correct (dg (72 ∷ 2 ∷ 1 ∷ 4 ∷ [])) ∷ []) (record { digest = dg (40 ∷ 0 ∷ 0 ∷ 8 ∷ []); unit = record { instance = dg (0 ∷ 0 ∷ 0 ∷ 0 ∷ []); creator = 0; seq = 0; time = 8; exponent = 2; panorama = (Absent ∷ Absent ∷ Correct (dg (72 ∷ 2 ∷ 1 ∷ 4 ∷ [])) ∷ []); value = Some ((120 ∷ [])); endorsed = [] } }) 2 2 (((2, 1) ∷ []) ∷ ((2, 1) ∷ []) ∷ ((2, 1) ∷ []) ∷ []) ∷ committee_test c.weights units (Correct (dg (5 ∷ 0 ∷ 1 ∷ 8 ∷ [])) ∷ Absent ∷ Correct (dg (72 ∷ 2 ∷ 1 ∷ 4 ∷ [])) ∷ []) (record { digest = dg (40 ∷ 0 ∷ 0 ∷ 8 ∷ []); unit = record { instance = dg (0 ∷ 0 ∷ 0 ∷ 0 ∷ []); creator = 0; seq = 0; time = 8; exponent = 2; panorama = (Absent ∷ Absent ∷ Correct (dg (72 ∷ 2 ∷ 1 ∷ 4 ∷ [])) ∷ []); value = Some ((120 ∷ [])); endorsed = [] } }) 2 2 (((0, 1) ∷ (2, 1) ∷ []) ∷ ((0, 1) ∷ []) ∷ ((0, 1) ∷ []) ∷ []) ∷ committee_test c.weights units (Correct (dg (5 ∷ 0 ∷ 1 ∷ 8 ∷ [])) ∷ Absent ∷ Correct (dg (72 ∷ 2 ∷ 1 ∷ 4 ∷ [])) ∷ []) (record { digest = dg (84 ∷ 2 ∷ 0 ∷ 4 ∷ []); unit = record { instance = dg (0 ∷ 0 ∷ 0 ∷ 0 ∷ []); creator = 2; seq = 0; time = 4; exponent = 2; panorama = (Absent ∷ Absent ∷ Absent ∷ []); value = Some ([]); endorsed = [] } }) 1 3 ([] ∷ [] ∷ []) ∷ committee_test c.weights units (Correct (dg (5 ∷ 0 ∷ 1 ∷ 8 ∷ [])) ∷ Absent ∷ Correct (dg (72 ∷ 2 ∷ 1 ∷ 4 ∷ [])) ∷ []) (record { digest = dg (84 ∷ 2 ∷ 0 ∷ 4 ∷ []); unit = record { instance = dg (0 ∷ 0 ∷ 0 ∷ 0 ∷ []); creator = 2; seq = 0; time = 4; exponent = 2; panorama = (Absent ∷ Absent ∷ Absent ∷ []); value = Some ([]); endorsed = [] } }) 1 3 (((0, 1) ∷ []) ∷ ((0, 1) ∷ []) ∷ []) ∷ committee_test c.weights units (Correct (dg (5 ∷ 0 ∷ 1 ∷ 8 ∷ [])) ∷ Absent ∷ Correct (dg (72 ∷ 2 ∷ 1 ∷ 4 ∷ [])) ∷ []) (record { digest = dg (84 ∷ 2 ∷ 0 ∷ 4 ∷ []); unit = record { instance = dg (0 ∷ 0 ∷ 0 ∷ 0 ∷ []); creator = 2; seq = 0; time = 4; exponent = 2; panorama = (Absent ∷ Absent ∷ Absent ∷ []); value = Some ([]); endorsed = [] } }) 2 2 (((0, 1) ∷ (2, 0) ∷ []) ∷ ((0, 1) ∷ (2, 1) ∷ []) ∷ ((0, 1) ∷ (2, 1) ∷ []) ∷ []) ∷ committee_test c.weights units (Correct (dg (5 ∷ 0 ∷ 1 ∷ 8 ∷ [])) ∷ Absent ∷ Correct (dg (72 ∷ 2 ∷ 1 ∷ 4 ∷ [])) ∷ []) (record { digest = dg (84 ∷ 2 ∷ 0 ∷ 4 ∷ []); unit = record { instance = dg (0 ∷ 0 ∷ 0 ∷ 0 ∷ []); creator = 2; seq = 0; time = 4; exponent = 2; panorama = (Absent ∷ Absent ∷ Absent ∷ []); value = Some ([]); endorsed = [] } }) 2 2 (((0, 0) ∷ (2, 0) ∷ []) ∷ ((0, 0) ∷ (2, 0) ∷ []) ∷ ((0, 0) ∷ (2, 1) ∷ []) ∷ []) ∷ committee_test c.weights units (Absent ∷ Absent ∷ Correct (dg (72 ∷ 2 ∷ 1 ∷ 4 ∷ [])) ∷ []) (record { digest = dg (84 ∷ 2 ∷ 0 ∷ 4 ∷ []); unit = record { instance = dg (0 ∷ 0 ∷ 0 ∷ 0 ∷ []); creator = 2; seq = 0; time = 4; exponent = 2; panorama = (Absent ∷ Absent ∷ Absent ∷ []); value = Some ([]); endorsed = [] } }) 1 3 (((2, 1) ∷ []) ∷ [] ∷ []) ∷ committee_test c.weights units (Absent ∷ Absent ∷ Correct (dg (72 ∷ 2 ∷ 1 ∷ 4 ∷ [])) ∷ []) (record { digest = dg (84 ∷ 2 ∷ 0 ∷ 4 ∷ []); unit = record { instance = dg (0 ∷ 0 ∷ 0 ∷ 0 ∷ []); creator = 2; seq = 0; time = 4; exponent = 2; panorama = (Absent ∷ Absent ∷ Absent ∷ []); value = Some ([]); endorsed = [] } }) 1 3 ([] ∷ [] ∷ []) ∷ committee_test c.weights units (Absent ∷ Absent ∷ Correct (dg (72 ∷ 2 ∷ 1 ∷ 4 ∷ [])) ∷ []) (record { digest = dg (84 ∷ 2 ∷ 0 ∷ 4 ∷ []); unit = record { instance = dg (0 ∷ 0 ∷ 0 ∷ 0 ∷ []); creator = 2; seq = 0; time = 4; exponent = 2; panorama = (Absent ∷ Absent ∷ Absent ∷ []); value = Some ([]); endorsed = [] } }) 2 1 ([] ∷ [] ∷ [] ∷ []) ∷ committee_test c.weights units (Absent ∷ Absent ∷ Correct (dg (72 ∷ 2 ∷ 1 ∷ 4 ∷ [])) ∷ []) (record { digest = dg (84 ∷ 2 ∷ 0 ∷ 4 ∷ []); unit = record { instance = dg (0 ∷ 0 ∷ 0 ∷ 0 ∷ []); creator = 2; seq = 0; time = 4; exponent = 2; panorama = (Absent ∷ Absent ∷ Absent ∷ []); value = Some ([]); endorsed = [] } }) 2 1 (((2, 1) ∷ []) ∷ ((2, 1) ∷ []) ∷ ((2, 1) ∷ []) ∷ []) ∷ committee_test c.weights units (Absent ∷ Absent ∷ Correct (dg (72 ∷ 2 ∷ 1 ∷ 4 ∷ [])) ∷ []) (record { digest = dg (40 ∷ 0 ∷ 0 ∷ 8 ∷ []); unit = record { instance = dg (0 ∷ 0 ∷ 0 ∷ 0 ∷ []); creator = 0; seq = 0; time = 8; exponent = 2; panorama = (Absent ∷ Absent ∷ Correct (dg (72 ∷ 2 ∷ 1 ∷ 4 ∷ [])) ∷ []); value = Some ((120 ∷ [])); endorsed = [] } }) 1 4 (((2, 1) ∷ []) ∷ [] ∷ []) ∷ committee_test c.weights units (Absent ∷ Absent ∷ Correct (dg (72 ∷ 2 ∷ 1 ∷ 4 ∷ [])) ∷ []) (record { digest = dg (40 ∷ 0 ∷ 0 ∷ 8 ∷ []); unit = record { instance = dg (0 ∷ 0 ∷ 0 ∷ 0 ∷ []); creator = 0; seq = 0; time = 8; exponent = 2; panorama = (Absent ∷ Absent ∷ Correct (dg (72 ∷ 2 ∷ 1 ∷ 4 ∷ [])) ∷ []); value = Some ((120 ∷ [])); endorsed = [] } }) 1 4 (((2, 1) ∷ []) ∷ ((2, 1) ∷ []) ∷ []) ∷ committee_test c.weights units (Absent ∷ Absent ∷ Correct (dg (72 ∷ 2 ∷ 1 ∷ 4 ∷ [])) ∷ []) (record { digest = dg (40 ∷ 0 ∷ 0 ∷ 8 ∷ []); unit = record { instance = dg (0 ∷ 0 ∷ 0 ∷ 0 ∷ []); creator = 0; seq = 0; time = 8; exponent = 2; panorama = (Absent ∷ Absent ∷ Correct (dg (72 ∷ 2 ∷ 1 ∷ 4 ∷ [])) ∷ []); value = Some ((120 ∷ [])); endorsed = [] } }) 2 3 ([] ∷ [] ∷ [] ∷ []) ∷ committee_test c.weights units (Absent ∷ Absent ∷ Correct (dg (72 ∷ 2 ∷ 1 ∷ 4 ∷ [])) ∷ []) (record { digest = dg (40 ∷ 0 ∷ 0 ∷ 8 ∷ []); unit = record { instance = dg (0 ∷ 0 ∷ 0 ∷ 0 ∷ []); creator = 0; seq = 0; time = 8; exponent = 2; panorama = (Absent ∷ Absent ∷ Correct (dg (72 ∷ 2 ∷ 1 ∷ 4 ∷ [])) ∷ []); value = Some ((120 ∷ [])); endorsed = [] } }) 2 3 (((2, 1) ∷ []) ∷ ((2, 1) ∷ []) ∷ ((2, 1) ∷ []) ∷ []) ∷ []) ≡ (true ∷ true ∷ false ∷ false ∷ false ∷ false ∷ false ∷ false ∷ false ∷ false ∷ false ∷ false ∷ false ∷ false ∷ false ∷ false ∷ false ∷ false ∷ false ∷ [])
