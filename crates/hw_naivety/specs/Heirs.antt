-- What is taken over from the creator's previous unit.
use Rattle.std.specs.Prelude.{◌≡◌, ℕ, ◌<◌, true, List, [], ◌∷◌, Some}
use Rattle.hw_types.specs.declared.unit.Digest.{Digest}
use Rattle.hw_types.specs.Below.{Among}
use Rattle.hw_dag.specs.declared.numbers.UnitNo.{UnitNo}
use Rattle.hw_dag.specs.declared.numbers.View.{View}
use Rattle.hw_dag.specs.declared.numbers.View.TheVariants as view
use Rattle.hw_dag.specs.Dag.{UnitGraph, unit_at, count_of, view_at}
use Rattle.hw_naivety.specs.declared.heir.Listed.{Listed}
use Rattle.hw_naivety.specs.Tips.{IsBelow, IsEndOfList}

-- if there is a unit of this name, it is below
abbrev pub HasNamed : UnitGraph → List View → Digest → Type 0
HasNamed dag panorama name = (n : ℕ) → n < count_of dag → (unit_at dag n).digest ≡ name → IsBelow dag panorama n

-- each unit of the endorsed list that is there is below
abbrev pub HasListBelow : UnitGraph → List View → List Digest → Type 0
HasListBelow dag panorama endorsed = (name : Digest) → Among name endorsed → HasNamed dag panorama name

-- an observed unit with this very list, which has all of it below: whatever is below both of them is naive for both or for none ("ours")
pub record IsBequeathed (dag : UnitGraph) (panorama : List View) (endorsed : List Digest) (before : UnitNo) : Type 0 where
  pub slot : ℕ
  pub observed : view_at panorama slot ≡ view.Correct before
  pub list_is : (unit_at dag before.0).signed.unit.endorsed ≡ endorsed
  pub list_below : HasListBelow dag (unit_at dag before.0).panorama endorsed

-- the list has the name of this unit alone
pub record IsOnly (dag : UnitGraph) (endorsed : List Digest) (no : UnitNo) : Type 0 where
  pub known : no.0 < count_of dag
  pub list_is : endorsed ≡ (unit_at dag no.0).digest ∷ []

-- what is known of a list is right
pub record IsListed (dag : UnitGraph) (panorama : List View) (endorsed : List Digest) (listed : Listed) : Type 0 where
  pub end : IsEndOfList dag endorsed listed.end
  pub only : (no : UnitNo) → listed.only ≡ Some no → IsOnly dag endorsed no
  pub heir : (before : UnitNo) → listed.heir ≡ Some before → IsBequeathed dag panorama endorsed before
  pub below : listed.is_below ≡ true → HasListBelow dag panorama endorsed
