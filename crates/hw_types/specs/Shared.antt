-- A list that several owners can have together.
-- Source: ours.
use Rattle.std.specs.Prelude.{List}
use Rattle.hw_types.specs.declared.shared.Held.{Held}
use Rattle.hw_types.specs.declared.shared.Held.TheVariants.{Alone, Together}

module _ {X : Type 0} where
  -- its items, whoever owns them
  abbrev pub items_of : Held X → List X
  items_of (Alone items) = items.items
  items_of (Together items) = items.value.items
