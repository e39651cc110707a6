-- Units of one creator and one sequence number that differ.
use Rattle.std.specs.Prelude.{◌≡◌, ℕ, ◌≤◌, ◌<◌, ◌⊎◌, ◌≢◌, Bool, true, false, ◌&&◌, ◌==◌, List, length, filter, slice_index_or, Option, Some, None}
use Rattle.std.specs.Option.{option_map}
use Rattle.std.specs.Map.{lookup}
use Rattle.hw_types.specs.Graph.{Node}
use Rattle.hw_types.specs.Below.{Among}
use Rattle.hw_types.specs.Same.{unit_eq}
use Rattle.hw_types.specs.Culprits.{stands_before, pair_of}
use Rattle.hw_safety.specs.Pairs.{is_culprit, lower_of}
use Rattle.hw_audit.specs.declared.twins.LanePlace.{LanePlace}
use Rattle.hw_audit.specs.Held.{HeldUnit, node_held}

-- the place of a unit
abbrev pub place_of : HeldUnit → LanePlace
place_of h = record { creator = h.signed.unit.creator; seq = h.signed.unit.seq }

-- the two places are one
abbrev pub place_eq : LanePlace → LanePlace → Bool
place_eq p q = (p.creator == q.creator) && (p.seq == q.seq)

-- a unit that is shown at this place
abbrev pub stands_at : LanePlace → HeldUnit → Bool
stands_at p h = h.is_shown && place_eq (place_of h) p

-- the one comes before the other, by name and then by spelling
abbrev pub Precedes : HeldUnit → HeldUnit → Type 0
Precedes x y = stands_before (node_held x) (node_held y) ≡ true

-- the two are one unit of one name
abbrev pub AreOne : HeldUnit → HeldUnit → Type 0
AreOne x y = node_held x ≡ node_held y

-- the two are different units
abbrev pub Differ : HeldUnit → HeldUnit → Type 0
Differ x y = unit_eq x.signed.unit y.signed.unit ≡ false

-- this is the one of the two that comes first, or the known one where they are one
abbrev pub IsLesser : HeldUnit → HeldUnit → HeldUnit → Type 0
IsLesser known unit h = ((h ≡ unit) × Precedes unit known) ⊎ ((h ≡ known) × (AreOne unit known ⊎ Precedes known unit))

-- two units of one place, or one
pub record TwinUnits : Type 0 where
  pub first : HeldUnit
  pub second : Option HeldUnit

-- no other unit but the first, or this is the first of the others
abbrev pub IsSecond : List HeldUnit → HeldUnit → Option HeldUnit → Type 0
IsSecond ys a None = (y : HeldUnit) → Among y ys → AreOne y a
IsSecond ys a (Some b) = Among b ys × Differ a b × ((y : HeldUnit) → Among y ys → AreOne y a ⊎ (AreOne y b ⊎ Precedes b y))

-- the first of these units, and the first of the others
pub record AreTwins (ys : List HeldUnit) (f : TwinUnits) : Type 0 where
  pub first_in : Among f.first ys
  pub first_is : (y : HeldUnit) → Among y ys → AreOne y f.first ⊎ Precedes f.first y
  pub second_is : IsSecond ys f.first f.second

-- the twins of these units, or there are none
abbrev pub AreTwinsAt : List HeldUnit → Option TwinUnits → Type 0
AreTwinsAt ys None = (y : HeldUnit) → Among y ys → ⊥
AreTwinsAt ys (Some f) = AreTwins ys f

-- the shown units of a place
abbrev pub shown_at : LanePlace → List HeldUnit → List HeldUnit
shown_at p hs = filter (stands_at p) hs

-- the table has the twins of each place
abbrev pub AreTwinsOfEach : List (LanePlace × TwinUnits) → List HeldUnit → Type 0
AreTwinsOfEach entries hs = (p : LanePlace) → AreTwinsAt (shown_at p hs) (lookup (place_eq p) entries)

-- two different units are shown at this place
abbrev pub HasTwins : List HeldUnit → LanePlace → Type 0
HasTwins hs p = (x : HeldUnit) × (y : HeldUnit) × Among x (shown_at p hs) × Among y (shown_at p hs) × Differ x y

-- the least number at which the validator has two different units, or it has none
abbrev pub IsLeast : List HeldUnit → ℕ → Option ℕ → Type 0
IsLeast hs v None = (n : ℕ) → HasTwins hs (record { creator = v; seq = n }) → ⊥
IsLeast hs v (Some n) = HasTwins hs (record { creator = v; seq = n }) × ((m : ℕ) → HasTwins hs (record { creator = v; seq = m }) → n ≤ m)

-- the least numbers of all validators
abbrev pub AreLeast : List (Option ℕ) → List HeldUnit → Type 0
AreLeast least hs = (v : ℕ) → v < length least → IsLeast hs v (slice_index_or least v None)

-- the validator's number is lowered to this one, and the others stay
pub record IsLowered (old new : List (Option ℕ)) (creator seq : ℕ) : Type 0 where
  pub length_is : length new ≡ length old
  pub own : creator < length old → slice_index_or new creator None ≡ Some (lower_of (slice_index_or old creator None) seq)
  pub others : (v : ℕ) → v ≢ creator → slice_index_or new v None ≡ slice_index_or old v None

-- what is kept of these units
pub record AreNoted (entries : List (LanePlace × TwinUnits)) (least : List (Option ℕ)) (hs : List HeldUnit) : Type 0 where
  pub twins : AreTwinsOfEach entries hs
  pub least_are : AreLeast least hs

-- ---- pairs

-- two units that show that their creator equivocated
pub record PairUnits : Type 0 where
  pub first : HeldUnit
  pub second : HeldUnit

-- both units of a place, where there are two
abbrev pub pair_in : Option TwinUnits → Option PairUnits
pair_in None = None
pair_in (Some f) = option_map (λ b. record { first = f.first; second = b }) f.second

-- these nodes are the shown units
pub record AreShown (hs : List HeldUnit) (xs : List Node) : Type 0 where
  pub each : (h : HeldUnit) → Among h hs → h.is_shown ≡ true → Among (node_held h) xs
  pub back : (x : Node) → Among x xs → (h : HeldUnit) × Among h hs × (h.is_shown ≡ true) × (node_held h ≡ x)

-- the pair that shows the validator, which is among these units, or it is no culprit
abbrev pub IsPairOf : List HeldUnit → List Node → ℕ → Option PairUnits → Type 0
IsPairOf hs xs v None = is_culprit xs v ≡ false
IsPairOf hs xs v (Some p) = (is_culprit xs v ≡ true) × (pair_of xs v ≡ Some (node_held p.first, node_held p.second)) × Among p.first hs × Among p.second hs
