-- The next unit of a validator.
-- Source: ours.
use Rattle.std.specs.Prelude.{◌≡◌, ◌⊎◌, ℕ, ◌^◌, ◌<◌, ◌≤◌, List, length, Option, Some, None, Result, Ok, Err}
use Rattle.hw_types.specs.declared.answers.Plan.{Plan}
use Rattle.hw_types.specs.Real.{CoreState, setting_of, received_in}
use Rattle.hw_types.specs.Spelling.{Fits, SpellsUnit, digest_of}
use Rattle.hw_types.specs.Step.{step}
use Rattle.hw_c.specs.declared.codes.Fault.{Fault}
use Rattle.hw_c.specs.declared.codes.Fault.TheVariants as fault
use Rattle.hw_c.specs.declared.put.WithBytes.{WithBytes}
use Rattle.hw_c.specs.declared.steps.Planned.{Planned}
use Rattle.hw_c.specs.Answers.{plan_number}
use Rattle.hw_c.specs.Calls.{IsWant}

-- what the planned unit is for, how many bytes it has, and the digest that its creator signs
abbrev pub planned_of : Plan → ℕ → Planned
planned_of plan count = record { kind = plan_number plan.kind; length = count; digest = (digest_of plan.unit).0 }

-- the fields of the plan, and the spelling of its unit
pub record IsSpelledStep (plan : Plan) (s : WithBytes Planned) : Type 0 where
  pub spelled : SpellsUnit s.bytes plan.unit
  pub planned : s.value ≡ planned_of plan (length s.bytes)

-- what the definitions plan for the validator at this moment
abbrev pub step_in : CoreState → ℕ → ℕ → List ℕ → Option Plan
step_in c me now value = step (setting_of c.config) (received_in c) me now value

-- there is no such validator, the moment is after the end of time, or the value is too long
abbrev pub IsOutOfRange : CoreState → ℕ → ℕ → List ℕ → Type 0
IsOutOfRange c me now value = (length c.config.weights ≤ me) ⊎ ((2 ^ 63 ≤ now) ⊎ (4096 < length value))

-- the unit that the validator may make, or why there is none
abbrev pub IsStep : CoreState → ℕ → ℕ → List ℕ → Result (WithBytes Planned) Fault → Type 0
IsStep c me now value (Ok s) = (plan : Plan) × (step_in c me now value ≡ Some plan) × IsSpelledStep plan s
IsStep c me now value (Err fault.Nothing) = step_in c me now value ≡ None
IsStep c me now value (Err fault.OutOfRange) = IsOutOfRange c me now value
IsStep c me now value (Err fault.TooLong) = (plan : Plan) × (step_in c me now value ≡ Some plan) × (Fits plan.unit → ⊥)
IsStep c me now value (Err f) = IsWant f
