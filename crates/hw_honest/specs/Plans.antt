-- What the validator's step promises.
-- Source: ours.
use Rattle.std.specs.Prelude.{◌⊎◌, ◌≡◌, ◌≢◌, ℕ, ◌^◌, ◌<◌, ◌≤◌, ◌==◌, Bool, true, false, List, [], length, filter, Option, Some, None, Result, Ok, Err, IsSomeAnd}
use Rattle.hw_types.specs.declared.unit.Obs.{Obs}
use Rattle.hw_types.specs.declared.unit.Signature.{Signature}
use Rattle.hw_types.specs.declared.unit.SignedUnit.{SignedUnit}
use Rattle.hw_types.specs.declared.unit.Vertex.{Vertex}
use Rattle.hw_types.specs.declared.unit.Vertex.TheVariants as vertex
use Rattle.hw_types.specs.declared.answers.Plan.{Plan}
use Rattle.hw_types.specs.declared.answers.Receipt.{Receipt}
use Rattle.hw_types.specs.declared.answers.Receipt.TheVariants as receipt
use Rattle.hw_types.specs.declared.answers.Cause.{Cause}
use Rattle.hw_types.specs.declared.answers.Cause.TheVariants as cause
use Rattle.hw_types.specs.Graph.{Node, latest, previous, slot, is_on_lane}
use Rattle.hw_types.specs.Below.{Among}
use Rattle.hw_types.specs.Limits.{config_fault}
use Rattle.hw_types.specs.Rules.{local_rule, state_rule}
use Rattle.hw_types.specs.Settled.{Received, settled_of, panorama_over, missing_of, is_faulty}
use Rattle.hw_types.specs.Spelling.{Fits, VertexFits}
use Rattle.hw_types.specs.Journal.{Setting, named, received_of, journal_of, answer}
use Rattle.hw_types.specs.Step.{step, step_in, next_seq}
use Rattle.hw_honest.specs.Kept.{IsKept}

-- what a node observes over these units
abbrev pub observed_over : Setting → Received → List Node → List Obs
observed_over s received units = panorama_over s.config (is_faulty received units) units

-- in a sound configuration, this is what the validator makes now over these units
pub record IsPlannedOver (s : Setting) (received : Received) (units : List Node) (me now : ℕ) (value : List ℕ) (p : Plan) : Type 0 where
  pub sound : config_fault s.config ≡ None
  pub validator : me < length s.config.weights
  pub is : step_in s received units (observed_over s received units) me now value ≡ Some p

-- and this is what it makes after this journal
pub record IsPlanned (s : Setting) (journal : List Vertex) (me now : ℕ) (value : List ℕ) (p : Plan) : Type 0 where
  pub sound : config_fault s.config ≡ None
  pub validator : me < length s.config.weights
  pub is : step s (received_of s journal) me now value ≡ Some p

-- the settled units of a journal
abbrev pub settled_in : Setting → List Vertex → List Node
settled_in s journal = settled_of s.config (received_of s journal)

-- What is planned after a journal is planned over its settled units, and these are kept. So all that is said here
-- of plans over kept units is said of plans after journals.
abbrev pub PlannedIsOverSettled : Type 0
PlannedIsOverSettled = (s : Setting) (journal : List Vertex) (me now : ℕ) (value : List ℕ) (p : Plan) → IsPlanned s journal me now value p
    → IsKept s (received_of s journal) (settled_in s journal) × IsPlannedOver s (received_of s journal) (settled_in s journal) me now value p

-- ---- its rules

-- the unit keeps the rules of the unit alone, its needs are met, and it keeps the rules over the units below it
pub record KeepsRules (s : Setting) (received : Received) (units : List Node) (p : Plan) : Type 0 where
  pub alone : local_rule s.config s.instance p.unit ≡ None
  pub needs : missing_of s.config received units (named s p.unit) ≡ []
  pub rules : state_rule s.config units (named s p.unit) ≡ None

-- Over kept units the unit of a plan keeps all rules,
abbrev pub StepKeepsRules : Type 0
StepKeepsRules = (s : Setting) (received : Received) (units : List Node) (me now : ℕ) (value : List ℕ) (p : Plan)
    → IsKept s received units → IsPlannedOver s received units me now value p → KeepsRules s received units p

-- and so it does after a journal, whatever that is.
abbrev pub PlanKeepsRules : Type 0
PlanKeepsRules = (s : Setting) (journal : List Vertex) (me now : ℕ) (value : List ℕ) (p : Plan) → IsPlanned s journal me now value p
    → KeepsRules s (received_of s journal) (settled_in s journal) p

-- ---- its limits

-- the validator's own last unit, as it is observed over these units
abbrev pub own_unit : Setting → Received → List Node → ℕ → Option Node
own_unit s received units me = latest units (observed_over s received units) me

-- the validator's last unit, if there is one, has no more endorsed digests than its format allows
abbrev pub OwnListFits : Setting → Received → List Node → ℕ → Type 0
OwnListFits s received units me = (last : Node) → own_unit s received units me ≡ Some last → length last.unit.endorsed ≤ 256

-- Then the unit of a plan keeps all limits of its format: no unit's list can make it longer but the own last one's.
abbrev pub StepFits : Type 0
StepFits = (s : Setting) (received : Received) (units : List Node) (me now : ℕ) (value : List ℕ) (p : Plan)
    → IsKept s received units → IsPlannedOver s received units me now value p → OwnListFits s received units me → now < 2 ^ 63 → length value ≤ 4096 → Fits p.unit

-- each vertex of the journal keeps the limits of its format
abbrev pub JournalFits : List Vertex → Type 0
JournalFits journal = (v : Vertex) → Among v journal → VertexFits v

-- And so it does after a journal whose vertices keep the limits of their format.
abbrev pub PlanFits : Type 0
PlanFits = (s : Setting) (journal : List Vertex) (me now : ℕ) (value : List ℕ) (p : Plan) → IsPlanned s journal me now value p
    → JournalFits journal → now < 2 ^ 63 → length value ≤ 4096 → Fits p.unit

-- ---- its place

-- the units of one validator
abbrev pub units_by : ℕ → List Node → List Node
units_by v units = filter (λ x. x.unit.creator == v) units

-- the unit comes after the validator's own last one, on whose lane are all its units
pub record FollowsOwn (s : Setting) (received : Received) (units : List Node) (me : ℕ) (p : Plan) : Type 0 where
  pub honest : is_faulty received units me ≡ false
  pub creator : p.unit.creator ≡ me
  pub number : p.unit.seq ≡ next_seq (own_unit s received units me)
  -- which is the count of the validator's units
  pub count : p.unit.seq ≡ length (units_by me units)
  pub small : p.unit.seq ≤ length units
  pub observes : slot p.unit.panorama me ≡ slot (observed_over s received units) me
  pub previous : previous units (named s p.unit) ≡ own_unit s received units me
  pub lane : (x : Node) → Among x units → x.unit.creator ≡ me → IsSomeAnd (own_unit s received units me) (λ last. is_on_lane units x last ≡ true)

-- Over kept units the unit of a plan comes after the validator's own last one,
abbrev pub StepFollowsOwn : Type 0
StepFollowsOwn = (s : Setting) (received : Received) (units : List Node) (me now : ℕ) (value : List ℕ) (p : Plan)
    → IsKept s received units → IsPlannedOver s received units me now value p → FollowsOwn s received units me p

-- and so it does after a journal, and its number is no more than the journal is long.
abbrev pub PlanFollowsOwn : Type 0
PlanFollowsOwn = (s : Setting) (journal : List Vertex) (me now : ℕ) (value : List ℕ) (p : Plan) → IsPlanned s journal me now value p
    → FollowsOwn s (received_of s journal) (settled_in s journal) me p × (p.unit.seq ≤ length journal)

-- ---- its delivery

-- No unit of the journal is the unit of a plan.
abbrev pub PlanIsNew : Type 0
PlanIsNew = (s : Setting) (deliveries : List (Vertex × Bool)) (me now : ℕ) (value : List ℕ) (p : Plan) → IsPlanned s (journal_of s deliveries) me now value p
    → (u : SignedUnit) → Among (vertex.Unit u) (journal_of s deliveries) → u.unit ≢ p.unit

-- another unit of the journal has that name
abbrev pub HasNamesake : Setting → List Vertex → Plan → Type 0
HasNamesake s journal p = (u : SignedUnit) × Among (vertex.Unit u) journal × (s.name u.unit ≡ s.name p.unit) × (u.unit ≢ p.unit)

-- what the delivery of the unit is answered
abbrev pub delivered : Setting → List Vertex → Plan → Signature → Result Receipt Cause
delivered s journal p signature = answer s journal (vertex.Unit (record { unit = p.unit; signature = signature })) true

-- a clash exactly where another unit has its name; then no room where the journal is full; and it is admitted in all other cases
pub record IsAnswered (s : Setting) (journal : List Vertex) (p : Plan) (signature : Signature) : Type 0 where
  pub decided : HasNamesake s journal p ⊎ (HasNamesake s journal p → ⊥)
  pub clash : HasNamesake s journal p → delivered s journal p signature ≡ Err (cause.Clash (s.name p.unit))
  pub full : (HasNamesake s journal p → ⊥) → s.config.max_records ≤ length journal → delivered s journal p signature ≡ Err cause.RecordsFull
  pub admitted : (HasNamesake s journal p → ⊥) → length journal < s.config.max_records → (n : ℕ) × (1 ≤ n) × (delivered s journal p signature ≡ Ok (receipt.Admitted n))

-- The delivery of a plan's unit, under whatever signature, is answered so.
abbrev pub PlanIsAnswered : Type 0
PlanIsAnswered = (s : Setting) (deliveries : List (Vertex × Bool)) (me now : ℕ) (value : List ℕ) (p : Plan) (signature : Signature)
    → IsPlanned s (journal_of s deliveries) me now value p → IsAnswered s (journal_of s deliveries) p signature

-- So below the limit of records it is admitted, or clashes with another unit of its name.
abbrev pub PlanIsAdmitted : Type 0
PlanIsAdmitted = (s : Setting) (deliveries : List (Vertex × Bool)) (me now : ℕ) (value : List ℕ) (p : Plan) (signature : Signature)
    → IsPlanned s (journal_of s deliveries) me now value p → length (journal_of s deliveries) < s.config.max_records
    → ((n : ℕ) × (1 ≤ n) × (delivered s (journal_of s deliveries) p signature ≡ Ok (receipt.Admitted n)))
    ⊎ (HasNamesake s (journal_of s deliveries) p × (delivered s (journal_of s deliveries) p signature ≡ Err (cause.Clash (s.name p.unit))))
