-- Rows that observed units have in common.
use Rattle.std.specs.Prelude.{◌≡◌, ◌⊎◌, ℕ, ◌<◌, ◌≤◌, List, slice_index_or}
use Rattle.hw_dag.specs.declared.numbers.UnitNo.{UnitNo}
use Rattle.hw_dag.specs.declared.numbers.View.{View}
use Rattle.hw_dag.specs.declared.numbers.View.TheVariants as view
use Rattle.hw_dag.specs.Dag.{UnitGraph, view_at}
use Rattle.hw_naivety.specs.declared.shared.Source.{Source}
use Rattle.hw_naivety.specs.declared.shared.Span.{Span}
use Rattle.hw_naivety.specs.declared.shared.Shared.{Shared}
use Rattle.hw_naivety.specs.Tips.{TipTable, tip_at}

-- the place of the row of what is observed; 0 where it is no unit
abbrev pub place_seen : TipTable → View → ℕ
place_seen tips view.Absent = 0
place_seen tips (view.Correct cited) = slice_index_or tips.places cited.0 0
place_seen tips view.Faulty = 0

-- the unit that is observed in the slot, if there is one, has the row of this place
abbrev pub HasPlace : List View → TipTable → ℕ → ℕ → Type 0
HasPlace panorama tips place slot = (cited : UnitNo) → view_at panorama slot ≡ view.Correct cited → slice_index_or tips.places cited.0 0 ≡ place

-- the slot is outside of the span
abbrev pub IsBeside : Span → ℕ → Type 0
IsBeside span slot = (slot < span.first) ⊎ (span.end ≤ slot)

-- the units that are observed beside the span have the row of this place
pub record HavePlace (validators : ℕ) (panorama : List View) (tips : TipTable) (place : ℕ) (span : Span) : Type 0 where
  pub within : span.end ≤ validators
  pub beside : (slot : ℕ) → slot < validators → IsBeside span slot → HasPlace panorama tips place slot

-- the unit of the slot has the row of the place, where that is one
pub record IsSource (validators : ℕ) (panorama : List View) (tips : TipTable) (source : Source) : Type 0 where
  pub small : 0 < validators → source.slot < validators
  pub within : source.place ≤ tips.taken
  pub place_is : (source.place ≡ 0) ⊎ (place_seen tips (view_at panorama source.slot) ≡ source.place)

-- the units of the source and of all slots beside the span have the source's row
pub record IsShared (validators : ℕ) (panorama : List View) (tips : TipTable) (shared : Shared) : Type 0 where
  pub source_is : IsSource validators panorama tips shared.source
  pub places_are : HavePlace validators panorama tips shared.source.place shared.span

-- the source's unit has the same tip of the creator as another one
pub record HasTipOf (dag : UnitGraph) (panorama : List View) (tips : TipTable) (creator source : ℕ) (cited : UnitNo) : Type 0 where
  pub from : UnitNo
  pub observed : view_at panorama source ≡ view.Correct from
  pub tip_is : tip_at dag tips cited.0 creator ≡ tip_at dag tips from.0 creator

-- for the creator's tip the source's unit stands for those that are observed beside the span, and none of them is the creator's
pub record StandsFor (validators : ℕ) (dag : UnitGraph) (panorama : List View) (tips : TipTable) (creator source : ℕ) (span : Span) : Type 0 where
  pub within : span.end ≤ validators
  pub beside : (slot : ℕ) (cited : UnitNo) → slot < validators → IsBeside span slot → view_at panorama slot ≡ view.Correct cited → (slot ≡ creator → ⊥) × HasTipOf dag panorama tips creator source cited
