-- What is joined for a chosen panorama, and its endorsed list.
-- Source: ours.
use Rattle.std.specs.Prelude.{◌≡◌, ◌⊎◌, ℕ, Bool, true, List}
use Rattle.std.specs.List.{list_all}
use Rattle.hw_types.specs.declared.unit.Digest.{Digest}
use Rattle.hw_types.specs.declared.unit.Obs.{Obs}
use Rattle.hw_types.specs.declared.unit.Obs.TheVariants.{Correct}
use Rattle.hw_types.specs.Graph.{Node, slot, cites, past, is_consistent}
use Rattle.hw_types.specs.Below.{Among}
use Rattle.hw_types.specs.Lawful.{IsLawful}
use Rattle.hw_types.specs.Rules.{is_rising, has_digest}
use Rattle.hw_types.specs.Settled.{Received, is_endorsed}
use Rattle.hw_types.specs.laws.StateLaws.{HasSame}
use Rattle.hw_types.specs.Journal.{Setting}
use Rattle.hw_types.specs.Step.{with_own, list_of}

-- ---- consistency

-- In a lawful graph a unit's panorama with the unit in its slot is consistent,
abbrev pub WithOwnIsConsistent : Type 0
WithOwnIsConsistent = (weights : List ℕ) (faulty : ℕ → Bool) (units : List Node) → IsLawful weights faulty units → (u : Node) → Among u units → is_consistent units (with_own u) ≡ true

-- and so is a panorama that names no unit.
abbrev pub NoCitationIsConsistent : Type 0
NoCitationIsConsistent = (units : List Node) (panorama : List Obs) → ((v : ℕ) (d : Digest) → slot panorama v ≡ Correct d → ⊥) → is_consistent units panorama ≡ true

-- ---- endorsed lists

-- what the list of a panorama has
pub record IsListOf (s : Setting) (received : Received) (units : List Node) (panorama : List Obs) (list : List Digest) : Type 0 where
  pub in_order : is_rising list ≡ true
  -- the lists of the cited units
  pub keeps : (w : Node) → Among w units → cites panorama w ≡ true → list_all (has_digest list) w.unit.endorsed ≡ true
  -- and no digest but theirs and those of endorsed units below
  pub no_other : (d : Digest) → Among d list
      → ((w : Node) × Among w units × (cites panorama w ≡ true) × Among d w.unit.endorsed) ⊎ ((x : Node) × Among x (past units panorama) × (x.digest ≡ d) × (is_endorsed s.config received d ≡ true))

-- The list of a panorama has this.
abbrev pub ListsAreKept : Type 0
ListsAreKept = (s : Setting) (received : Received) (units : List Node) (panorama : List Obs) → IsListOf s received units panorama (list_of s received units panorama)

-- Two rising lists with the same digests are one.
abbrev pub RisingListIsOne : Type 0
RisingListIsOne = (ds es : List Digest) → is_rising ds ≡ true → is_rising es ≡ true → HasSame ds es → ds ≡ es
