-- What validators make, and when.
use Rattle.std.specs.Prelude.{ℕ, ◌≡◌, ◌∷◌, [], List, Option, Some, None}
use Rattle.hw_types.specs.declared.unit.Obs.{Obs}
use Rattle.hw_types.specs.declared.unit.Obs.TheVariants.{Absent}
use Rattle.hw_types.specs.declared.unit.WireUnit.{WireUnit}
use Rattle.hw_types.specs.declared.unit.Vertex.{Vertex}
use Rattle.hw_types.specs.declared.answers.Plan.{Plan}
use Rattle.hw_types.specs.declared.answers.PlanKind.{PlanKind}
use Rattle.hw_types.specs.declared.answers.PlanKind.TheVariants.{Propose, Confirm, Witness}
use Rattle.hw_types.specs.Journal.{Setting, received_of}
use Rattle.hw_types.specs.Step.{step}
use Rattle.hw_samples.specs.Words.{three, unit, at, sent}
use Rattle.hw_samples.specs.FourUnits.{nothing, a0, b0, second}
use Rattle.hw_samples.specs.Forks.{fork}
use Rattle.hw_samples.specs.Chains.{ends_at}

abbrev pub x : List ℕ
x = 120 ∷ []

abbrev pub made : Setting → List Vertex → ℕ → ℕ → Option Plan
made s journal me now = step s (received_of s journal) me now x

abbrev pub plan_of : PlanKind → WireUnit → Option Plan
plan_of kind u = Some (record { kind = kind; unit = u })

abbrev pub over_a0 : List Obs
over_a0 = at a0 ∷ Absent ∷ Absent ∷ []

-- The leader proposes up to the witness time, at the round's begin; without a block nobody confirms or witnesses
pub record StepsAtTheBeginning : Type 0 where
  pub leader : made three [] 0 16 ≡ plan_of Propose (unit 0 0 16 nothing (Some x))
  pub leader_later : made three [] 0 20 ≡ plan_of Propose (unit 0 0 16 nothing (Some x))
  pub other : made three [] 1 20 ≡ None
  pub other_at_witness_time : made three [] 1 26 ≡ None

-- the others confirm the leader's block, and all of them witness at last
pub record StepsAfterABlock : Type 0 where
  pub other : made three (sent a0 ∷ []) 1 20 ≡ plan_of Confirm (unit 1 0 20 over_a0 None)
  pub other_at_witness_time : made three (sent a0 ∷ []) 1 26 ≡ plan_of Witness (unit 1 0 26 over_a0 None)
  pub leader : made three (sent a0 ∷ []) 0 20 ≡ None
  pub leader_at_witness_time : made three (sent a0 ∷ []) 0 26 ≡ plan_of Witness (unit 0 1 26 over_a0 None)

-- nobody proposes on the last block, and it is witnessed
pub record StepsAtTheEnd : Type 0 where
  pub after_it : made (ends_at 0) (sent a0 ∷ []) 2 32 ≡ None
  pub after_it_at_witness_time : made (ends_at 0) (sent a0 ∷ []) 2 42 ≡ plan_of Witness (unit 2 0 42 over_a0 None)
  pub before_it : made (ends_at 1) (sent a0 ∷ []) 2 32 ≡ plan_of Propose (unit 2 0 32 over_a0 (Some x))
  pub before_it_at_witness_time : made (ends_at 1) (sent a0 ∷ []) 2 42 ≡ plan_of Witness (unit 2 0 42 over_a0 None)

-- who is marked makes nothing, and neither does who has two units in the round
pub record NoStep : Type 0 where
  pub marked : made three (sent a0 ∷ sent b0 ∷ sent fork ∷ []) 1 26 ≡ None
  pub two_in_round : made three (sent a0 ∷ sent second ∷ []) 0 26 ≡ None
