-- Naive units by number, and the tip that stands for all of one creator.
use Rattle.std.specs.Prelude.{◌≡◌, ◌⊎◌, ℕ, zero, suc, ◌+◌, ◌-◌, ◌*◌, ◌<◌, ◌≤◌, true, List, [], length, Option, Some, None, slice_index_or, slice_set}
use Rattle.hw_types.specs.declared.unit.Digest.{Digest}
use Rattle.hw_types.specs.Below.{Among}
use Rattle.hw_dag.specs.declared.numbers.UnitNo.{UnitNo}
use Rattle.hw_dag.specs.declared.numbers.View.{View}
use Rattle.hw_dag.specs.declared.numbers.View.TheVariants as view
use Rattle.hw_dag.specs.Dag.{UnitGraph, unit_at, count_of, creator_of, view_at, IsPanorama}
use Rattle.hw_dag.specs.Admission.{IsGraph}
use Rattle.hw_dag.specs.Lanes.{is_lane_below, is_seen}
use Rattle.hw_naivety.specs.Rows.{TipRows, IsLonger, row_slot}
pub use Rattle.hw_dag.specs.Lanes.{IsBelow}
pub use Rattle.hw_dag.specs.Walks.{HasRoom}

-- ---- naive units, by number

-- the unit of this name is there below, and is the unit or has it below it
pub record IsBelowNamed (dag : UnitGraph) (panorama : List View) (name : Digest) (n : ℕ) : Type 0 where
  pub named : ℕ
  pub known : named < count_of dag
  pub name_is : (unit_at dag named).digest ≡ name
  pub found : IsBelow dag panorama named
  pub seen : is_seen dag n named ≡ true

-- it is below a unit of the endorsed list
pub record IsBelowEndorsed (dag : UnitGraph) (panorama : List View) (endorsed : List Digest) (n : ℕ) : Type 0 where
  pub name : Digest
  pub among : Among name endorsed
  pub below : IsBelowNamed dag panorama name n

-- a unit of the creator that is naive for one with this panorama and this endorsed list
pub record IsNaive (dag : UnitGraph) (panorama : List View) (endorsed : List Digest) (creator n : ℕ) : Type 0 where
  pub known : n < count_of dag
  pub creator_is : creator_of (unit_at dag n) ≡ creator
  pub below : IsBelow dag panorama n
  pub free : IsBelowEndorsed dag panorama endorsed n → ⊥

-- ---- the tip

-- the unit is on the tip's lane
abbrev pub IsUnder : UnitGraph → ℕ → Option UnitNo → Type 0
IsUnder dag n None = ⊥
IsUnder dag n (Some tip) = is_lane_below dag n tip.0 ≡ true

-- a tip is naive itself
abbrev pub IsNaiveTip : UnitGraph → List View → List Digest → ℕ → Option UnitNo → Type 0
IsNaiveTip dag panorama endorsed creator tip = (t : UnitNo) → tip ≡ Some t → IsNaive dag panorama endorsed creator t.0

-- the naive unit on whose lane all naive units of the creator are, or none where there are none
pub record IsTip (dag : UnitGraph) (panorama : List View) (endorsed : List Digest) (creator : ℕ) (tip : Option UnitNo) : Type 0 where
  pub naive : IsNaiveTip dag panorama endorsed creator tip
  pub all : (n : ℕ) → IsNaive dag panorama endorsed creator n → IsUnder dag n tip

-- what is kept of units: of each the place of its row, which is 0 where its tips are its slots, else one more than the number of a row, which may be that of other units too; so many rows are taken
pub record TipTable : Type 0 where
  pub places : List ℕ
  pub taken : ℕ
  pub rows : TipRows

-- a slot as a tip
abbrev pub slot_tip : View → Option UnitNo
slot_tip view.Absent = None
slot_tip (view.Correct last) = Some last
slot_tip view.Faulty = None

-- the tip of a creator of whom the unit observes this and a row says that
abbrev pub said_tip : View → View → Option UnitNo
said_tip slot view.Absent = slot_tip slot
said_tip slot (view.Correct tip) = Some tip
said_tip slot view.Faulty = None

-- what the row of this place says of a creator; where there is no row, nothing
abbrev pub placed_slot : TipRows → ℕ → ℕ → View
placed_slot rows creator zero = view.Absent
placed_slot rows creator (suc row) = row_slot rows row creator

-- the tip of a creator: from the row of this place, or from the slot where the row says nothing
abbrev pub placed_tip : TipRows → View → ℕ → ℕ → Option UnitNo
placed_tip rows slot creator place = said_tip slot (placed_slot rows creator place)

-- the tip that is kept of a unit and a creator
abbrev pub tip_at : UnitGraph → TipTable → ℕ → ℕ → Option UnitNo
tip_at dag tips n creator = placed_tip tips.rows (view_at (unit_at dag n).panorama creator) creator (slice_index_or tips.places n 0)

-- what is kept of the first units is right
abbrev pub TipsAre : UnitGraph → ℕ → TipTable → Type 0
TipsAre dag count tips = (n creator : ℕ) → n < count → creator < dag.validators
    → IsTip dag (unit_at dag n).panorama (unit_at dag n).signed.unit.endorsed creator (tip_at dag tips n creator)

-- a unit on the lane that its creator is known by; Faulty is for a creator whose units aren't known to be on one lane
abbrev pub IsOnLaneOf : UnitGraph → ℕ → View → Type 0
IsOnLaneOf dag n view.Absent = ⊥
IsOnLaneOf dag n (view.Correct last) = is_lane_below dag n last.0 ≡ true
IsOnLaneOf dag n view.Faulty = Unit {0}

-- the first units are on the lanes that their creators are known by
pub record LanesAre (dag : UnitGraph) (count : ℕ) (lanes : List View) : Type 0 where
  pub known : (v : ℕ) (last : UnitNo) → view_at lanes v ≡ view.Correct last → last.0 < count_of dag
  pub on_lane : (n : ℕ) → n < count → IsOnLaneOf dag n (view_at lanes (creator_of (unit_at dag n)))

-- ---- how tips are found

-- the panorama of a unit over a graph of so many validators
pub record IsSight (dag : UnitGraph) (panorama : List View) (validators : ℕ) : Type 0 where
  pub graph_is : IsGraph dag
  pub panorama_is : IsPanorama dag panorama
  pub validators_are : validators ≡ dag.validators

-- each unit of the endorsed list has a lesser number
abbrev pub IsEndOfList : UnitGraph → List Digest → ℕ → Type 0
IsEndOfList dag endorsed end = (name : Digest) → Among name endorsed → (n : ℕ) → n < count_of dag → (unit_at dag n).digest ≡ name → n < end

-- the endorsed list has those of the observed units
abbrev pub HasLists : UnitGraph → List View → List Digest → Type 0
HasLists dag panorama endorsed = (slot : ℕ) (cited : UnitNo) → view_at panorama slot ≡ view.Correct cited
    → (name : Digest) → Among name (unit_at dag cited.0).signed.unit.endorsed → Among name endorsed

-- a tip that stands for what the earlier one stands for, and for the naive units on the candidate's lane
pub record IsRaised (dag : UnitGraph) (panorama : List View) (endorsed : List Digest) (creator : ℕ) (tip candidate raised : Option UnitNo) : Type 0 where
  pub naive : IsNaiveTip dag panorama endorsed creator raised
  pub kept : (n : ℕ) → n < count_of dag → IsUnder dag n tip → IsUnder dag n raised
  pub more : (n : ℕ) → IsNaive dag panorama endorsed creator n → IsUnder dag n candidate → IsUnder dag n raised

-- a tip that stands for what the earlier one stands for, and for the naive units that the slot's unit is or has below it
pub record IsRaisedOver (dag : UnitGraph) (panorama : List View) (endorsed : List Digest) (creator slot : ℕ) (tip raised : Option UnitNo) : Type 0 where
  pub naive : IsNaiveTip dag panorama endorsed creator raised
  pub kept : (n : ℕ) → n < count_of dag → IsUnder dag n tip → IsUnder dag n raised
  pub more : (cited : UnitNo) (n : ℕ) → view_at panorama slot ≡ view.Correct cited → IsNaive dag panorama endorsed creator n → is_seen dag n cited.0 ≡ true → IsUnder dag n raised

-- the tips that are kept of the observed units are right
pub record HasTips (dag : UnitGraph) (panorama : List View) (tips : TipTable) : Type 0 where
  pub kept : (slot : ℕ) (cited : UnitNo) → view_at panorama slot ≡ view.Correct cited → cited.0 < length tips.places
  pub right : (slot : ℕ) (cited : UnitNo) (creator : ℕ) → view_at panorama slot ≡ view.Correct cited → creator < dag.validators
      → IsTip dag (unit_at dag cited.0).panorama (unit_at dag cited.0).signed.unit.endorsed creator (tip_at dag tips cited.0 creator)

-- the panorama and the endorsed list are those of this unit
pub record IsSightOf (dag : UnitGraph) (n : ℕ) (panorama : List View) (endorsed : List Digest) : Type 0 where
  pub known : n < count_of dag
  pub panorama_is : panorama ≡ (unit_at dag n).panorama
  pub endorsed_is : endorsed ≡ (unit_at dag n).signed.unit.endorsed

-- ---- what is kept

-- rows have a slot for each validator, those that are taken are there, and each unit's row is one of them
pub record AreRows (validators : ℕ) (tips : TipTable) : Type 0 where
  pub validators_are : tips.rows.validators ≡ validators
  pub placed : (n : ℕ) → slice_index_or tips.places n 0 ≤ tips.taken
  pub there : tips.taken * tips.rows.validators ≤ length tips.rows.slots

-- so many units were noted, and there is a row for each one more that has a place
pub record IsRoomy (tips : TipTable) (count : ℕ) : Type 0 where
  pub taken_within : tips.taken ≤ count
  pub count_within : count ≤ length tips.places
  pub rows_left : (tips.taken + (length tips.places - count)) * tips.rows.validators ≤ length tips.rows.slots

-- the places and rows so far stay, and there are no more places than are wanted
pub record IsGrown (wanted : ℕ) (old new : TipTable) : Type 0 where
  pub taken_is : new.taken ≡ old.taken
  pub rows_longer : IsLonger old.rows new.rows
  pub longer : length old.places ≤ length new.places
  pub kept : (n : ℕ) → n < length old.places → slice_index_or new.places n 0 ≡ slice_index_or old.places n 0
  pub bounded : (room : ℕ) → length old.places ≤ room → wanted ≤ room → length new.places ≤ room

-- the tips that are in rows stay, and there are as many rows
pub record AreKept (old new : TipTable) : Type 0 where
  pub places_are : new.places ≡ old.places
  pub taken_is : new.taken ≡ old.taken
  pub validators_are : new.rows.validators ≡ old.rows.validators
  pub length_is : length new.rows.slots ≡ length old.rows.slots
  pub kept : (row creator : ℕ) → row < old.taken → creator < old.rows.validators → row_slot new.rows row creator ≡ row_slot old.rows row creator

-- the unit has a row that says what the first row says that wasn't taken, and that row may be taken now
pub record IsRowKept (old : TipTable) (unit : ℕ) (new : TipTable) : Type 0 where
  pub place : ℕ
  pub places_are : new.places ≡ slice_set old.places unit place
  pub rows_are : new.rows ≡ old.rows
  pub within : place ≤ new.taken
  pub taken_is : (new.taken ≡ old.taken) ⊎ (new.taken ≡ old.taken + 1)
  pub says : (creator : ℕ) → creator < old.rows.validators → placed_slot old.rows creator place ≡ row_slot old.rows old.taken creator

-- the unit marks nobody and endorses nothing: of each creator all that it has below it is naive and on one lane
pub record IsPlain (panorama : List View) (endorsed : List Digest) : Type 0 where
  pub unmarked : (v : ℕ) → view_at panorama v ≡ view.Faulty → ⊥
  pub unlisted : endorsed ≡ []
