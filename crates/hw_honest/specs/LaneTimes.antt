-- What the last units of a lane say of its times.
-- Source: ours.
use Rattle.std.specs.Prelude.{◌≡◌, ◌≢◌, ℕ, ◌<◌, ◌≤◌, ◌==◌, ◌&&◌, nat_le, Bool, true, List}
use Rattle.hw_types.specs.Graph.{Node, is_some_and, lane_of, previous}
use Rattle.hw_types.specs.Below.{Among}
use Rattle.hw_types.specs.Votes.{is_block}
use Rattle.hw_types.specs.Rounds.{round_id}
use Rattle.hw_types.specs.Settled.{Received}
use Rattle.hw_types.specs.Journal.{Setting}
use Rattle.hw_types.specs.Step.{lane_units_in}
use Rattle.hw_honest.specs.Kept.{IsKept}

-- On a lane of kept units no unit is later than one above it, and a block is later than all below it.
abbrev pub TimesRiseOnLanes : Type 0
TimesRiseOnLanes = (s : Setting) (received : Received) (units : List Node) → IsKept s received units → (x u : Node) → Among u units → Among x (lane_of units u)
    → (x.unit.time ≤ u.unit.time) × (is_block u ≡ true → x ≢ u → x.unit.time < u.unit.time)

-- the unit is in this round
abbrev pub is_in_round : ℕ → ℕ → Node → Bool
is_in_round round exponent u = (round_id u.unit.time exponent == round)

-- So two units of a lane are in the round of a moment that isn't before its last one exactly where the last two are.
abbrev pub TwoInRoundAreTheLast : Type 0
TwoInRoundAreTheLast = (s : Setting) (received : Received) (units : List Node) → IsKept s received units → (last : Node) (moment exponent : ℕ) → Among last units → last.unit.time ≤ moment
    → nat_le 2 (lane_units_in units last (round_id moment exponent) exponent)
    ≡ (is_in_round (round_id moment exponent) exponent last && is_some_and (is_in_round (round_id moment exponent) exponent) (previous units last))
