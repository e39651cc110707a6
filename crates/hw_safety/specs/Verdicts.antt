-- What two nodes' journals say of each other.
use Rattle.std.specs.Prelude.{◌≡◌, ℕ, ◌<◌, ◌⊎◌, Bool, false, List, [], ◌∷◌, ◌++◌, length, min, map, take, flat_map, slice_get, Some, ◌==◌}
use Rattle.std.specs.List.{list_any}
use Rattle.hw_types.specs.declared.unit.Digest.{Digest}
use Rattle.hw_types.specs.declared.unit.SignedUnit.{SignedUnit}
use Rattle.hw_types.specs.declared.unit.Vertex.{Vertex}
use Rattle.hw_types.specs.declared.answers.Decision.{Decision}
use Rattle.hw_types.specs.declared.answers.Culprit.{Culprit}
use Rattle.hw_types.specs.Graph.{Node}
use Rattle.hw_types.specs.Below.{Among}
use Rattle.hw_types.specs.Same.{unit_eq}
use Rattle.hw_types.specs.Spelling.{unit_bytes}
use Rattle.hw_types.specs.Votes.{weight_of}
use Rattle.hw_types.specs.Journal.{Setting, named, clashes}
use Rattle.hw_types.specs.Culprits.{signed_in, culprits_of, SignedAs, AreCulprits}
use Rattle.hw_safety.specs.Chain.{Begins}
use Rattle.hw_safety.specs.declared.verdict.Verdict.{Verdict}
use Rattle.hw_safety.specs.declared.verdict.Verdict.TheVariants as verdict

-- ---- clashes

-- the signed units that stand in a journal, those of its evidence included
abbrev pub held_in : List Vertex → List SignedUnit
held_in journal = flat_map signed_in journal

-- some unit of the one journal and some unit of the other differ and have one digest
unfoldable pub journals_clash : Setting → List Vertex → List Vertex → Bool
journals_clash s left right = list_any (λ (u : SignedUnit). list_any (λ (w : SignedUnit). clashes s u.unit (named s w.unit)) (held_in right)) (held_in left)

-- these are spellings of a unit of the one journal and of a unit of the other, which differ and have one digest
pub record IsClash (s : Setting) (left right : List Vertex) (first second : List ℕ) : Type 0 where
  pub first_unit : SignedUnit
  pub second_unit : SignedUnit
  pub in_left : Among first_unit (held_in left)
  pub in_right : Among second_unit (held_in right)
  pub one_name : s.name first_unit.unit ≡ s.name second_unit.unit
  pub differ : unit_eq first_unit.unit second_unit.unit ≡ false
  pub first_bytes : first ≡ unit_bytes first_unit.unit
  pub second_bytes : second ≡ unit_bytes second_unit.unit

-- ---- the decided chains

-- the decided blocks in the order of their heights
abbrev pub chain_of : List Decision → List Digest
chain_of ds = map (λ (d : Decision). d.block) ds

-- one of the two chains begins the other, and the shorter one has so many blocks
pub record AreInAgreement (dl dr : List Decision) (common : ℕ) : Type 0 where
  pub begins : Begins (chain_of dl) (chain_of dr) ⊎ Begins (chain_of dr) (chain_of dl)
  pub shorter : common ≡ min (length dl) (length dr)

-- below the height the chains are the same, and there they have these two different blocks
pub record DifferAt (dl dr : List Decision) (height : ℕ) (left right : Digest) : Type 0 where
  pub below : take height (chain_of dl) ≡ take height (chain_of dr)
  pub left_is : slice_get (chain_of dl) height ≡ Some left
  pub right_is : slice_get (chain_of dr) height ≡ Some right
  pub differ : left ≡ right → ⊥

-- ---- the verdict

-- the weight of the culprits
unfoldable pub culprit_weight : Setting → List Vertex → List Vertex → ℕ
culprit_weight s left right = weight_of s.config.weights (λ v. list_any (λ w. w == v) (culprits_of s left right))

-- what is said of a conflict: the height and the two blocks, and the culprits with their weight
pub record ShownConflict : Type 0 where
  pub height : ℕ
  pub left_block : Digest
  pub right_block : Digest
  pub culprits : List Culprit
  pub weight : ℕ

-- the two journals decided different blocks of this height first, and these are the culprits
pub record AreInConflict (s : Setting) (left right : List Vertex) (dl dr : List Decision) (c : ShownConflict) : Type 0 where
  pub blocks : DifferAt dl dr c.height c.left_block c.right_block
  pub culprits_are : AreCulprits s left right c.culprits
  pub weight_is : c.weight ≡ culprit_weight s left right

-- The verdict on two journals and their decisions.
abbrev pub IsVerdict : Setting → List Vertex → List Vertex → List Decision → List Decision → Verdict → Type 0
IsVerdict s left right dl dr (verdict.Clash first second) = IsClash s left right first second
IsVerdict s left right dl dr (verdict.Agree common) = (journals_clash s left right ≡ false) × AreInAgreement dl dr common
IsVerdict s left right dl dr (verdict.Conflict height left_block right_block culprits weight) = (journals_clash s left right ≡ false) × AreInConflict s left right dl dr (record { height = height; left_block = left_block; right_block = right_block; culprits = culprits; weight = weight })

-- the verdict is a conflict whose culprits weigh more than the threshold, or a clash
abbrev pub IsAccountable : ℕ → Verdict → Type 0
IsAccountable ftt (verdict.Agree common) = ⊥
IsAccountable ftt (verdict.Conflict height left right culprits weight) = ftt < weight
IsAccountable ftt (verdict.Clash first second) = Unit {0}

-- ---- verdicts that say the same

-- the two show one validator by one pair of units
pub record ShowTheSame (s : Setting) (left right : List Vertex) (c d : Culprit) : Type 0 where
  pub first : Node
  pub second : Node
  pub validator_is : c.validator ≡ d.validator
  pub first_bytes : SignedAs (left ++ right) first c.first × SignedAs (left ++ right) first d.first
  pub second_bytes : SignedAs (left ++ right) second c.second × SignedAs (left ++ right) second d.second

-- the two lists show the same validators in one order, each by one pair
abbrev pub ShowAllTheSame : Setting → List Vertex → List Vertex → List Culprit → List Culprit → Type 0
ShowAllTheSame s left right [] [] = Unit {0}
ShowAllTheSame s left right (c ∷ cs) [] = ⊥
ShowAllTheSame s left right [] (d ∷ ds) = ⊥
ShowAllTheSame s left right (c ∷ cs) (d ∷ ds) = ShowTheSame s left right c d × ShowAllTheSame s left right cs ds

-- The two verdicts say the same, whatever signatures they show, and whichever clash.
abbrev pub SayTheSame : Setting → List Vertex → List Vertex → Verdict → Verdict → Type 0
SayTheSame s left right (verdict.Agree m) (verdict.Agree n) = m ≡ n
SayTheSame s left right (verdict.Conflict h a b cs m) (verdict.Conflict k c d ds n) = (h ≡ k) × (a ≡ c) × (b ≡ d) × ShowAllTheSame s left right cs ds × (m ≡ n)
SayTheSame s left right (verdict.Clash a b) (verdict.Clash c d) = Unit {0}
SayTheSame s left right _ _ = ⊥
