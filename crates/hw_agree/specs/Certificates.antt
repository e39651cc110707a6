-- Certificates.
use Rattle.std.specs.Prelude.{◌≡◌, ℕ, ◌≤◌, Bool, true, List, [], ◌∷◌, ◌++◌, length, map, filter_map, Some, None, All, IsOk}
use Rattle.hw_types.specs.declared.unit.Digest.{Digest}
use Rattle.hw_types.specs.declared.unit.Vertex.{Vertex}
use Rattle.hw_types.specs.declared.unit.Vertex.TheVariants as vertex
use Rattle.hw_types.specs.declared.config.Config.{Config}
use Rattle.hw_types.specs.Graph.{Node, slot, latest, cites, is_faulty_mark}
use Rattle.hw_types.specs.Below.{Among}
use Rattle.hw_types.specs.Settled.{Received, settled_of, panorama_of, has_evidence, is_faulty, is_endorsed, faulty_weight}
use Rattle.hw_types.specs.Summit.{Committees, Stands}
use Rattle.hw_types.specs.Journal.{Setting, named, evidence_in, received_of, refusal, answers_from, journal_of}
use Rattle.hw_types.specs.laws.StateLaws.{units_in}

-- ---- what a certificate is made of

-- What one journal says is a part of what another says: settled units with all that they cite, evidence for each mark in them and the
-- endorsements that they rely on; and nobody is faulty by it alone.
pub record IsClosedPart (config : Config) (whole part : Received) : Type 0 where
  pub within : (x : Node) → Among x part.units → Among x (settled_of config whole)
  pub below : (x y : Node) → Among y part.units → Among x (settled_of config whole) → cites y.unit.panorama x ≡ true → Among x part.units
  pub marks : (x : Node) (v : ℕ) → Among x part.units → is_faulty_mark (slot x.unit.panorama v) ≡ true → has_evidence part.with_evidence v ≡ true
  pub endorsed : (x : Node) (d : Digest) → Among x part.units → Among d x.unit.endorsed → is_endorsed config part d ≡ true
  pub no_other : (v : ℕ) → has_evidence part.with_evidence v ≡ true → is_faulty whole (settled_of config whole) v ≡ true

-- Such a part that has the latest units of a summit's first committee is enough for the summit.
pub record IsEnough (config : Config) (whole part : Received) (c : Committees) : Type 0 where
  pub closed : IsClosedPart config whole part
  pub latest_in : (v : ℕ) (u : Node) → c.member 0 v ≡ true → latest (settled_of config whole) (panorama_of config whole) v ≡ Some u → Among u part.units

-- a settled unit comes after all that it cites, evidence for its marks, and the endorsements of its list
pub record HasItsNeeds (s : Setting) (whole before : List Vertex) (x : Node) : Type 0 where
  pub settled : Among x (settled_of s.config (received_of s whole))
  pub cited : (y : Node) → Among y (settled_of s.config (received_of s whole)) → cites x.unit.panorama y ≡ true → Among y (units_in s before)
  pub marks : (v : ℕ) → is_faulty_mark (slot x.unit.panorama v) ≡ true → Among v (filter_map evidence_in before)
  pub endorsed : (d : Digest) → Among d x.unit.endorsed → is_endorsed s.config (received_of s before) d ≡ true

-- the vertex may come after these: a unit after its needs, evidence that isn't refused against one who is faulty, or an endorsement that isn't refused
abbrev pub ComesNext : Setting → List Vertex → List Vertex → Vertex → Type 0
ComesNext s whole before (vertex.Unit u) = HasItsNeeds s whole before (named s u.unit)
ComesNext s whole before (vertex.Evidence e) = (refusal s [] (vertex.Evidence e) ≡ None) × (is_faulty (received_of s whole) (settled_of s.config (received_of s whole)) e.left.unit.creator ≡ true)
ComesNext s whole before (vertex.Endorsement e) = refusal s [] (vertex.Endorsement e) ≡ None

-- each of these may come after those before it
abbrev pub ComeInTurn : Setting → List Vertex → List Vertex → List Vertex → Type 0
ComeInTurn s whole before [] = Unit {0}
ComeInTurn s whole before (v ∷ vs) = ComesNext s whole before v × ComeInTurn s whole (before ++ v ∷ []) vs

-- vertices of a journal, in turn, with the latest units of a summit's first committee, no more than a journal may have
pub record IsExtract (s : Setting) (whole : List Vertex) (c : Committees) (vertices : List Vertex) : Type 0 where
  pub in_turn : ComeInTurn s whole [] vertices
  pub latest_in : (v : ℕ) (u : Node) → c.member 0 v ≡ true → latest (settled_of s.config (received_of s whole)) (panorama_of s.config (received_of s whole)) v ≡ Some u → Among u (units_in s vertices)
  pub room : length vertices ≤ s.config.max_records

-- ---- what a certificate shows

-- vertices delivered one after the other, each with a true verdict
abbrev pub delivered : List Vertex → List (Vertex × Bool)
delivered vertices = map (λ v. (v, true)) vertices

-- the journal that they make
abbrev pub journal_from : Setting → List Vertex → List Vertex
journal_from s vertices = journal_of s (delivered vertices)

-- The vertices certify the block: none of them is refused, and then it stands, and the faulty weigh no more than the threshold.
pub record Certifies (s : Setting) (vertices : List Vertex) (block : Digest) : Type 0 where
  pub taken : All (λ answer. IsOk answer) (answers_from s [] (delivered vertices))
  pub few_faulty : faulty_weight s.config (received_of s (journal_from s vertices)) ≤ s.config.ftt
  pub unit : Node
  pub inside : Among unit (settled_of s.config (received_of s (journal_from s vertices)))
  pub named : unit.digest ≡ block
  pub level : ℕ
  pub quorum : ℕ
  pub stands : Stands s.config (received_of s (journal_from s vertices)) unit level quorum
