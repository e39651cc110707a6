-- Needs as the keys of an ordered table.
use Rattle.std.specs.Prelude.{Bool, List}
use Rattle.std.specs.List.{list_any}
use Rattle.std.specs.Ordering.{is_eq}
use Rattle.hw_types.specs.declared.unit.Need.{Need}
use Rattle.hw_types.specs.declared.unit.Need.TheVariants as need
use Rattle.hw_park.specs.declared.key.NeedKey.{NeedKey}
use Rattle.hw_park.specs.declared.key.NeedKey.TheVariants as key
use Rattle.hw_park.specs.contracts.key.NeedKeyOrd.TheImpl as order

-- the key of a need
abbrev pub key_of : Need → NeedKey
key_of (need.Unit d) = key.Unit d
key_of (need.Evidence v) = key.Evidence v
key_of (need.Endorsed d) = key.Endorsed d

-- the two keys stand at one place of the order
abbrev pub ties : NeedKey → NeedKey → Bool
ties k j = is_eq (order.cmp-value.it k j)

-- the need's key is among these
abbrev pub has_key : List NeedKey → Need → Bool
has_key keys n = list_any (ties (key_of n)) keys
