-- What a certificate with verdicts is answered, and what a yes shows.
-- Source: ours.
use Rattle.std.specs.Prelude.{◌≡◌, ◌≢◌, ℕ, ◌+◌, Bool, List, [], ◌∷◌, Option, Some, None, Result, Ok, Err}
use Rattle.std.specs.List.{zip}
use Rattle.hw_types.specs.declared.unit.Vertex.{Vertex}
use Rattle.hw_types.specs.declared.unit.Digest.{Digest}
use Rattle.hw_types.specs.declared.config.Config.{Config}
use Rattle.hw_types.specs.declared.config.ConfigFault.{ConfigFault}
use Rattle.hw_types.specs.declared.answers.Cause.{Cause}
use Rattle.hw_types.specs.declared.answers.Cause.TheVariants as want
use Rattle.hw_types.specs.Limits.{config_fault}
use Rattle.hw_types.specs.Journal.{Setting, answer, journal_after}
use Rattle.hw_types.specs.Real.{CoreState, setting_of}
use Rattle.hw_core.specs.Readers.{exceeded_in}
use Rattle.hw_agree.specs.Certificates.{journal_from, Certifies}
use Rattle.hw_light.specs.declared.certificate.Certificate.{Certificate}
use Rattle.hw_light.specs.declared.answers.Checked.{Checked}
use Rattle.hw_light.specs.declared.answers.Checked.TheVariants.{Yes, No}
use Rattle.hw_light.specs.declared.answers.CheckFault.{CheckFault}
use Rattle.hw_light.specs.declared.answers.CheckFault.TheVariants.{Config as BadConfig, Refused, Exceeded, Unstood}
use Rattle.hw_light.specs.Standing.{BlockStands}

-- ---- deliveries in turn

-- a vertex that is refused: which one in turn, and why
pub record RefusedAt : Type 0 where
  pub place : ℕ
  pub cause : Cause

-- the journal after these deliveries, or the first that is refused, counted from this number
unfoldable pub taken_from : Setting → ℕ → List Vertex → List (Vertex × Bool) → Result (List Vertex) RefusedAt
taken_from s i journal [] = Ok journal
taken_from s i journal (d ∷ ds) = elim (answer s journal d.0 d.1) [
  | Err cause ↦ Err (record { place = i; cause = cause })
  | Ok receipt ↦ taken_from s (i + 1) (journal_after s journal d) ds
]

-- the journal that the certificate's vertices make with these verdicts, or the first that is refused
abbrev pub taken_of : Certificate → List Bool → Result (List Vertex) RefusedAt
taken_of c verdicts = taken_from (setting_of c.config) 0 [] (zip c.vertices verdicts)

-- the node of the certificate's configuration with this journal
abbrev pub node_with : Certificate → List Vertex → CoreState
node_with c journal = record { config = c.config; journal = journal; asked = None }

-- ---- the answer

-- the configuration keeps its limits, and no vertex is refused, so that there is this node, of which nothing was asked
pub record IsTaken (c : Certificate) (verdicts : List Bool) (core : CoreState) : Type 0 where
  pub lawful : config_fault c.config ≡ None
  pub config : core.config ≡ c.config
  pub journal : taken_of c verdicts ≡ Ok core.journal
  pub asked : core.asked ≡ None

-- it does, and the faulty weigh too much there
pub record IsExceeded (c : Certificate) (verdicts : List Bool) (weight : ℕ) : Type 0 where
  pub core : CoreState
  pub taken : IsTaken c verdicts core
  pub weight_is : exceeded_in core ≡ Some weight

-- they don't, and the block has no summit there at any level
pub record IsUnstood (c : Certificate) (verdicts : List Bool) : Type 0 where
  pub core : CoreState
  pub taken : IsTaken c verdicts core
  pub few_faulty : exceeded_in core ≡ None
  pub unstood : BlockStands core c.block → ⊥

-- it has one
pub record IsStanding (c : Certificate) (verdicts : List Bool) (core : CoreState) : Type 0 where
  pub taken : IsTaken c verdicts core
  pub few_faulty : exceeded_in core ≡ None
  pub stands : BlockStands core c.block

-- When each answer is given. Each excludes those above it.
abbrev pub IsAnswer : Certificate → List Bool → Checked → Type 0
IsAnswer c verdicts (No (BadConfig fault)) = config_fault c.config ≡ Some fault
IsAnswer c verdicts (No (Refused i cause)) = (config_fault c.config ≡ None) × (taken_of c verdicts ≡ Err (record { place = i; cause = cause }))
IsAnswer c verdicts (No (Exceeded weight)) = IsExceeded c verdicts weight
IsAnswer c verdicts (No Unstood) = IsUnstood c verdicts
IsAnswer c verdicts (Yes core) = IsStanding c verdicts core

-- ---- what a yes shows

-- the node has the journal of the certificate's vertices, and they certify its block
pub record IsCertified (c : Certificate) (core : CoreState) : Type 0 where
  pub config : core.config ≡ c.config
  pub journal : core.journal ≡ journal_from (setting_of c.config) c.vertices
  pub certifies : Certifies (setting_of c.config) c.vertices c.block

-- where the answer is yes
abbrev pub IfYes : (CoreState → Type 0) → Checked → Type 0
IfYes P (Yes core) = P core
IfYes P (No fault) = Unit {0}

-- ---- in the making of the answer

-- a list of one new node with this configuration, which keeps its limits, or the first limit that it breaks
abbrev pub IsBegun : Config → List CoreState → Option ConfigFault → Type 0
IsBegun config nodes None = (config_fault config ≡ None) × (nodes ≡ record { config = config; journal = []; asked = None } ∷ [])
IsBegun config nodes (Some fault) = config_fault config ≡ Some fault

-- what a node after deliveries is answered: none of them was refused, or the first that was
abbrev pub IsTakenAs : Result (List Vertex) RefusedAt → CoreState → Option CheckFault → Type 0
IsTakenAs taken core None = taken ≡ Ok core.journal
IsTakenAs taken core (Some (Refused i cause)) = taken ≡ Err (record { place = i; cause = cause })
IsTakenAs taken core (Some (BadConfig fault)) = ⊥
IsTakenAs taken core (Some (Exceeded weight)) = ⊥
IsTakenAs taken core (Some Unstood) = ⊥

-- what a node that took all vertices is answered: the faulty weigh too much, or else the block has a summit or it
-- doesn't
abbrev pub IsNodeFault : CoreState → Digest → Option CheckFault → Type 0
IsNodeFault core block None = (exceeded_in core ≡ None) × BlockStands core block
IsNodeFault core block (Some (Exceeded weight)) = exceeded_in core ≡ Some weight
IsNodeFault core block (Some Unstood) = (exceeded_in core ≡ None) × (BlockStands core block → ⊥)
IsNodeFault core block (Some (BadConfig fault)) = ⊥
IsNodeFault core block (Some (Refused i cause)) = ⊥

-- the answer for a fault, or for none with this node
abbrev pub with_node : CoreState → Option CheckFault → Checked
with_node core None = Yes core
with_node core (Some fault) = No fault

-- a vertex of this number that is refused for this cause
abbrev pub IsRefusalOf : ℕ → Cause → CheckFault → Type 0
IsRefusalOf i cause fault = (fault ≡ Refused i cause) × (cause ≢ want.OutOfMemory)
