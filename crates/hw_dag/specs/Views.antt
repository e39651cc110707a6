-- Slots in numbers.
use Rattle.std.specs.Prelude.{◌≡◌, ℕ, ◌<◌, Bool, true, List}
use Rattle.hw_types.specs.Graph.{obs_at_most, is_at_most}
use Rattle.hw_dag.specs.declared.numbers.UnitNo.{UnitNo}
use Rattle.hw_dag.specs.declared.numbers.View.{View}
use Rattle.hw_dag.specs.declared.numbers.View.TheVariants as view
use Rattle.hw_dag.specs.Dag.{UnitGraph, unit_at, count_of, creator_of, graph, obs_of, observations, view_at}

-- a number in the slot is a unit of the graph
abbrev pub IsKnownView : UnitGraph → View → Type 0
IsKnownView dag view.Absent = Unit {0}
IsKnownView dag (view.Correct number) = number.0 < count_of dag
IsKnownView dag view.Faulty = Unit {0}

-- a number in the slot is a unit of the validator
abbrev pub IsViewOf : UnitGraph → ℕ → View → Type 0
IsViewOf dag v view.Absent = Unit {0}
IsViewOf dag v (view.Correct number) = (number.0 < count_of dag) × (creator_of (unit_at dag number.0) ≡ v)
IsViewOf dag v view.Faulty = Unit {0}

-- the one slot is at most the other
abbrev pub is_met : UnitGraph → View → View → Bool
is_met dag low high = obs_at_most (graph dag) (obs_of dag low) (obs_of dag high)

-- the slot has a unit that observes the same of the validator
abbrev pub HasSeen : UnitGraph → View → ℕ → View → Type 0
HasSeen dag view.Absent v seen = ⊥
HasSeen dag (view.Correct number) v seen = view_at (unit_at dag number.0).panorama v ≡ seen
HasSeen dag view.Faulty v seen = ⊥

-- what the units before the first one observe of the validator is at most the high slot where it is at most the known one
abbrev pub HaveSeenNoMore : UnitGraph → ℕ → View → View → ℕ → Type 0
HaveSeenNoMore dag of known high first = (n : ℕ) → n < first → is_met dag (view_at (unit_at dag n).panorama of) known ≡ true → is_met dag (view_at (unit_at dag n).panorama of) high ≡ true

-- both panoramas have the unit in the slot of the validator
pub record IsShared (known panorama : List View) (v : ℕ) (number : UnitNo) : Type 0 where
  pub here : view_at panorama v ≡ view.Correct number
  pub there : view_at known v ≡ view.Correct number

-- what the units that both have observe of one validator is at most what the panorama does
abbrev pub IsColumnMet : UnitGraph → List View → List View → ℕ → Type 0
IsColumnMet dag known panorama of = (v : ℕ) (number : UnitNo) → IsShared known panorama v number → is_met dag (view_at (unit_at dag number.0).panorama of) (view_at panorama of) ≡ true

-- what the units that both have observe is at most the panorama
abbrev pub AreSharedMet : UnitGraph → List View → List View → Type 0
AreSharedMet dag known panorama = (of : ℕ) → of < dag.validators → IsColumnMet dag known panorama of

-- and so is what the others observe
abbrev pub AreOthersMet : UnitGraph → List View → List View → Type 0
AreOthersMet dag known panorama = (v : ℕ) (number : UnitNo) → view_at panorama v ≡ view.Correct number → (view_at known v ≡ view.Correct number → ⊥)
    → is_at_most (graph dag) (observations dag (unit_at dag number.0).panorama) (observations dag panorama) ≡ true
