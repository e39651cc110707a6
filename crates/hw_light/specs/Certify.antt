-- What is answered where a certificate is asked for, and what a certificate that was made shows.
-- Source: ours.
use Rattle.std.specs.Prelude.{◌≡◌, ◌≢◌, ◌⊎◌, true, ℕ, ◌<◌, ◌≤◌, List, length, map, filter, None}
use Rattle.hw_types.specs.declared.unit.Digest.{Digest}
use Rattle.hw_types.specs.declared.unit.Vertex.{Vertex}
use Rattle.hw_types.specs.declared.config.Config.{Config}
use Rattle.hw_types.specs.declared.answers.Decision.{Decision}
use Rattle.hw_types.specs.Graph.{Node}
use Rattle.hw_types.specs.Summit.{Committees, IsGreatest}
use Rattle.hw_types.specs.Real.{CoreState, settled_in, panorama_in}
use Rattle.hw_core.specs.Readers.{exceeded_in}
use Rattle.hw_core.specs.Shown.{IsDecidedBlock, HasSummitNow}
use Rattle.hw_light.specs.declared.certificate.Certificate.{Certificate}
use Rattle.hw_light.specs.declared.answers.Certified.{Certified}
use Rattle.hw_light.specs.declared.answers.Certified.TheVariants.{Made, NotNow, TooLong}
use Rattle.hw_light.specs.declared.answers.Checked.{Checked}
use Rattle.hw_light.specs.declared.answers.Checked.TheVariants.{Yes, No}
use Rattle.hw_light.specs.Checked.{IsAnswer}
use Rattle.hw_light.specs.Extract.{is_under, IsSettlingOrder, vertices_for}

-- these are the committees of the greatest summit that the decided block of that place has now
pub record IsGreatestNow (core : CoreState) (index : ℕ) (decision : Decision) (c : Committees) : Type 0 where
  pub block : Node
  pub is : IsDecidedBlock core index decision block
  pub greatest : IsGreatest core.config.weights (settled_in core) (panorama_in core) block decision.level decision.quorum c

-- the vertices for the units at or below the latest units of its first committee
pub record AreVerticesOf (core : CoreState) (index : ℕ) (decision : Decision) (vertices : List Vertex) : Type 0 where
  pub few_faulty : exceeded_in core ≡ None
  pub committees : Committees
  pub greatest : IsGreatestNow core index decision committees
  pub order : List Node
  pub order_is : IsSettlingOrder core order
  pub vertices_are : vertices ≡ vertices_for core (filter (is_under (settled_in core) (panorama_in core) committees) order)

-- there are this many of them, more than a journal may have
pub record IsTooLong (core : CoreState) (index count : ℕ) : Type 0 where
  pub decision : Decision
  pub vertices : List Vertex
  pub are : AreVerticesOf core index decision vertices
  pub count_is : length vertices ≡ count
  pub more : core.config.max_records < count

-- the certificate has them, no more than a journal may have
pub record IsMade (core : CoreState) (index : ℕ) (made : Certificate) : Type 0 where
  pub decision : Decision
  pub config : made.config ≡ core.config
  pub block : made.block ≡ decision.block
  pub are : AreVerticesOf core index decision made.vertices
  pub room : length made.vertices ≤ core.config.max_records

-- When each answer is given. NotNow is: the faulty weigh more than the threshold, or the decided block of that place
-- has no summit now. Each excludes the others.
abbrev pub IsCertifiedAs : CoreState → ℕ → Certified → Type 0
IsCertifiedAs core index NotNow = (exceeded_in core ≢ None) ⊎ (HasSummitNow core index → ⊥)
IsCertifiedAs core index (TooLong count) = IsTooLong core index count
IsCertifiedAs core index (Made made) = IsMade core index made

-- a certificate of these vertices, or how many they are where they are more than a journal may have
abbrev pub IsCounted : Config → Digest → List Vertex → Certified → Type 0
IsCounted config block vertices NotNow = ⊥
IsCounted config block vertices (TooLong count) = (length vertices ≡ count) × (config.max_records < count)
IsCounted config block vertices (Made made) = (made ≡ record { config = config; block = block; vertices = vertices }) × (length vertices ≤ config.max_records)

-- where a certificate was made
abbrev pub IfMade : (Certificate → Type 0) → Certified → Type 0
IfMade P (Made made) = P made
IfMade P NotNow = Unit {0}
IfMade P (TooLong count) = Unit {0}

-- the answer is yes
abbrev pub IsYes : Checked → Type 0
IsYes (Yes core) = Unit {0}
IsYes (No fault) = ⊥

-- with true verdicts the certificate is answered yes
abbrev pub IsYesFor : Certificate → Type 0
IsYesFor made = (answer : Checked) → IsAnswer made (map (λ v. true) made.vertices) answer → IsYes answer
