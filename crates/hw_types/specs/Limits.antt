-- The limits of a configuration.
-- Source: ours.
use Rattle.std.specs.Prelude.{ℕ, ◌-◌, ◌^◌, Bool, false, ◌&&◌, ◌||◌, not, nat_le, ◌==◌, List, [], ◌∷◌, length, position, unwrap_or, Option, is_some, sum, if◌then◌else◌}
use Rattle.std.specs.List.{list_any}
use Rattle.std.specs.Option.{option_or}
use Rattle.hw_types.specs.declared.config.Config.{Config}
use Rattle.hw_types.specs.declared.config.Leaders.{Leaders}
use Rattle.hw_types.specs.declared.config.Leaders.TheVariants.{Table, Drawn}
use Rattle.hw_types.specs.declared.config.ConfigFault.{ConfigFault}
use Rattle.hw_types.specs.declared.config.ConfigFault.TheVariants.{Validators, ZeroWeight, Total, Threshold, Levels, Exponents, LeaderTable, Records, Parked}
use Rattle.hw_types.specs.Tests.{Tests, first_broken}

-- the number is neither below the one nor above the other
abbrev pub is_within : ℕ → ℕ → ℕ → Bool
is_within low high n = nat_le low n && nat_le n high

-- an entry of a log, a frame and a part of a certificate have at most so many bytes
abbrev pub most_bytes : ℕ
most_bytes = 1048576

-- the number is 0
abbrev pub is_zero : ℕ → Bool
is_zero w = w == 0

-- the first validator without weight
abbrev pub first_zero : List ℕ → ℕ
first_zero weights = unwrap_or (position is_zero weights) 0

-- a table has 1 to 4,096 entries, each a validator
abbrev pub is_bad_table : ℕ → Leaders → Bool
is_bad_table validators (Table entries) = not (is_within 1 4096 (length entries)) || list_any (λ v. nat_le validators v) entries
is_bad_table validators (Drawn key) = false

-- ---- the limits in their order, each true where it is broken (ours)

-- the limits on validators and weights
abbrev pub weight_tests : Config → Tests ConfigFault
weight_tests c =
    (Validators, not (is_within 1 1024 (length c.weights)))
    ∷ (ZeroWeight (first_zero c.weights), is_some (position is_zero c.weights))
    ∷ (Total, not (nat_le (sum c.weights) (2 ^ 62 - 1)))
    ∷ (Threshold, nat_le (sum c.weights) c.ftt)
    ∷ []

-- the limits on levels, rounds and their leaders
abbrev pub round_tests : Config → Tests ConfigFault
round_tests c =
    (Levels, not (is_within 1 30 c.levels))
    ∷ (Exponents, not (nat_le 2 c.min_exponent && nat_le c.min_exponent c.max_exponent && nat_le c.max_exponent 40))
    ∷ (LeaderTable, is_bad_table (length c.weights) c.leaders)
    ∷ []

-- the most vertices that a journal may be allowed to have: a quarter where there are more than 256 validators
abbrev pub most_records : ℕ → ℕ
most_records validators = if nat_le validators 256 then 131072 else 32768

-- the limits on what is kept
abbrev pub room_tests : Config → Tests ConfigFault
room_tests c =
    (Records, not (is_within 1 (most_records (length c.weights)) c.max_records))
    ∷ (Parked, not (is_within 1 16384 c.max_parked))
    ∷ []

-- the first limit that the configuration breaks, or none
unfoldable pub config_fault : Config → Option ConfigFault
config_fault c = option_or (first_broken (weight_tests c)) (option_or (first_broken (round_tests c)) (first_broken (room_tests c)))
