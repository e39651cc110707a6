-- A random journal with short names, so that different units often have one name: deliveries clash.
-- The values are those of a second reading of the definitions, written apart from them; the two agree.
use Rattle.std.specs.Prelude.{◌≡◌, true, List, [], ◌∷◌, map, Option, Some, None, Ok, Err}
use Rattle.hw_types.specs.declared.unit.Obs.TheVariants.{Absent, Correct, Faulty}
use Rattle.hw_types.specs.declared.unit.WireUnit.{WireUnit}
use Rattle.hw_types.specs.declared.unit.Need.TheVariants as need
use Rattle.hw_types.specs.declared.unit.Vertex.{Vertex}
use Rattle.hw_types.specs.declared.config.Config.{Config}
use Rattle.hw_types.specs.declared.answers.Plan.{Plan}
use Rattle.hw_types.specs.declared.answers.PlanKind.TheVariants as kind
use Rattle.hw_types.specs.declared.config.Leaders.TheVariants.{Table}
use Rattle.hw_types.specs.declared.answers.Rule.TheVariants as rule
use Rattle.hw_types.specs.declared.answers.PairFault.TheVariants as fault
use Rattle.hw_types.specs.declared.answers.Receipt.TheVariants as receipt
use Rattle.hw_types.specs.declared.answers.Cause.TheVariants as cause
use Rattle.hw_types.specs.Graph.{Node}
use Rattle.hw_types.specs.Rules.{state_rule}
use Rattle.hw_types.specs.Settled.{Received, settled_of, parked_of, dropped_of, missing_of, panorama_of, faulty_weight, fork_choice}
use Rattle.hw_types.specs.Journal.{Setting, received_of, answers_from}
use Rattle.hw_types.specs.Step.{step}
use Rattle.hw_types.specs.Culprits.{culprits_of, pair_of, shown_in_either}
use Rattle.hw_samples.specs.Words.{names_of, name_of}
use Rattle.hw_samples.specs.JournalWords.{dg, sent_as, both_as, narrow, named_by}

abbrev c : Config
c = record { weights = (1 ∷ 1 ∷ 1 ∷ []); ftt = 0; levels = 2; min_exponent = 2; max_exponent = 4; leaders = Table (2 ∷ 0 ∷ []); max_records = 7; max_parked = 1; end = Some (1) }

abbrev s : Setting
s = named_by narrow c

abbrev u0 : WireUnit
u0 = record { instance = dg (0 ∷ 0 ∷ 0 ∷ 0 ∷ []); creator = 0; seq = 0; time = 4; exponent = 4; panorama = (Absent ∷ Absent ∷ Absent ∷ []); value = Some ([]); endorsed = [] }

abbrev u1 : WireUnit
u1 = record { instance = dg (0 ∷ 0 ∷ 0 ∷ 0 ∷ []); creator = 0; seq = 1; time = 5; exponent = 2; panorama = (Correct (dg (1 ∷ 0 ∷ 0 ∷ 0 ∷ [])) ∷ Absent ∷ Absent ∷ []); value = None; endorsed = [] }

abbrev u2 : WireUnit
u2 = record { instance = dg (0 ∷ 0 ∷ 0 ∷ 0 ∷ []); creator = 0; seq = 2; time = 8; exponent = 2; panorama = (Correct (dg (3 ∷ 0 ∷ 0 ∷ 0 ∷ [])) ∷ Absent ∷ Absent ∷ []); value = None; endorsed = [] }

abbrev u3 : WireUnit
u3 = record { instance = dg (0 ∷ 0 ∷ 0 ∷ 0 ∷ []); creator = 0; seq = 2; time = 5; exponent = 2; panorama = (Correct (dg (3 ∷ 0 ∷ 0 ∷ 0 ∷ [])) ∷ Absent ∷ Absent ∷ []); value = None; endorsed = [] }

abbrev u4 : WireUnit
u4 = record { instance = dg (0 ∷ 0 ∷ 0 ∷ 0 ∷ []); creator = 2; seq = 1; time = 8; exponent = 2; panorama = (Correct (dg (4 ∷ 0 ∷ 0 ∷ 0 ∷ [])) ∷ Absent ∷ Correct (dg (4 ∷ 2 ∷ 0 ∷ 0 ∷ [])) ∷ []); value = Some ([]); endorsed = [] }

abbrev u5 : WireUnit
u5 = record { instance = dg (0 ∷ 0 ∷ 0 ∷ 0 ∷ []); creator = 2; seq = 2; time = 15; exponent = 255; panorama = (Correct (dg (2 ∷ 0 ∷ 0 ∷ 0 ∷ [])) ∷ Absent ∷ Correct (dg (3 ∷ 2 ∷ 0 ∷ 0 ∷ [])) ∷ []); value = None; endorsed = [] }

abbrev u6 : WireUnit
u6 = record { instance = dg (0 ∷ 0 ∷ 0 ∷ 0 ∷ []); creator = 0; seq = 4; time = 18; exponent = 4; panorama = (Correct (dg (2 ∷ 0 ∷ 0 ∷ 0 ∷ [])) ∷ Absent ∷ Correct (dg (1 ∷ 2 ∷ 0 ∷ 0 ∷ [])) ∷ []); value = None; endorsed = [] }

abbrev j : List Vertex
j = (sent_as (1 ∷ []) u0 ∷ sent_as [] u1 ∷ both_as [] u3 [] u2 ∷ [])

abbrev k : Received
k = received_of s j

abbrev units : List Node
units = []

abbrev plans : List (Option Plan)
plans = (None ∷ None ∷ None ∷ None ∷ Some (record { kind = kind.Propose; unit = record { instance = dg (0 ∷ 0 ∷ 0 ∷ 0 ∷ []); creator = 2; seq = 0; time = 0; exponent = 2; panorama = (Faulty ∷ Absent ∷ Absent ∷ []); value = Some ((118 ∷ [])); endorsed = [] } }) ∷ None ∷ [])

abbrev j2 : List Vertex
j2 = (both_as [] u2 [] u3 ∷ sent_as (1 ∷ []) u4 ∷ sent_as [] u0 ∷ [])

pub record RandomCollisions2 : Type 0 where
  pub answers : answers_from s [] ((sent_as (1 ∷ []) u0, true) ∷ (sent_as [] u1, true) ∷ (sent_as [] u2, true) ∷ (both_as [] u0 (3 ∷ []) u3, true) ∷ (both_as [] u3 [] u2, true) ∷ (sent_as (1 ∷ []) u4, true) ∷ (both_as (2 ∷ []) u3 [] u2, true) ∷ (sent_as (1 ∷ []) u5, true) ∷ (sent_as [] u6, true) ∷ []) ≡ ((Ok (receipt.Dropped rule.NotLeader) ∷ Ok (receipt.Parked 1) ∷ Err cause.ParkFull ∷ Err (cause.Pair fault.Sequence) ∷ Ok (receipt.Admitted 0) ∷ Err cause.ParkFull ∷ Ok receipt.Repeat ∷ Err (cause.Local rule.RoundExponent) ∷ Err cause.ParkFull ∷ []))
  pub settled : settled_of c k ≡ units
  pub parked : names_of (parked_of c k) ≡ (dg (3 ∷ 0 ∷ 0 ∷ 0 ∷ []) ∷ [])
  pub dropped : names_of (dropped_of c k) ≡ (dg (1 ∷ 0 ∷ 0 ∷ 0 ∷ []) ∷ [])
  pub panorama : panorama_of c k ≡ (Faulty ∷ Absent ∷ Absent ∷ [])
  pub weight : faulty_weight c k ≡ 1
  pub fork : name_of (fork_choice c k) ≡ None
  pub missing : map (missing_of c k units) (record { digest = dg (1 ∷ 0 ∷ 0 ∷ 0 ∷ []); unit = u0 } ∷ record { digest = dg (3 ∷ 0 ∷ 0 ∷ 0 ∷ []); unit = u1 } ∷ []) ≡ (([] ∷ (need.Unit (dg (1 ∷ 0 ∷ 0 ∷ 0 ∷ [])) ∷ []) ∷ []))
  pub rules : map (state_rule c units) (record { digest = dg (1 ∷ 0 ∷ 0 ∷ 0 ∷ []); unit = u0 } ∷ []) ≡ (Some (rule.NotLeader) ∷ [])
  pub steps : (step s k 0 8 (118 ∷ []) ∷ step s k 0 1 (118 ∷ []) ∷ step s k 1 5 (118 ∷ []) ∷ step s k 1 4 (118 ∷ []) ∷ step s k 2 1 (118 ∷ []) ∷ step s k 2 5 (118 ∷ []) ∷ []) ≡ plans
  pub culprits : culprits_of s j j2 ≡ (0 ∷ [])
  pub pair0 : pair_of (shown_in_either s j j2) 0 ≡ Some (record { digest = dg (1 ∷ 0 ∷ 0 ∷ 0 ∷ []); unit = u3 }, record { digest = dg (4 ∷ 0 ∷ 0 ∷ 0 ∷ []); unit = u2 })
