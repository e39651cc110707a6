-- Laws of what is told.
use Rattle.std.specs.Prelude.{◌≡◌, ℕ, List, [], ◌∷◌, ◌++◌}
use Rattle.hw_types.specs.declared.unit.Digest.{Digest}
use Rattle.hw_types.specs.declared.config.Config.{Config}
use Rattle.hw_types.specs.Settled.{Received, is_endorsed}
use Rattle.hw_endorse.specs.Told.{in_order, with_pair, has_majority}

-- a unit is endorsed in a state exactly where it has a majority of the pairs that were received
abbrev pub MajorityIsEndorsed : Type 0
MajorityIsEndorsed = (config : Config) (received : Received) (d : Digest)
    → is_endorsed config received d ≡ has_majority (record { weights = config.weights; pairs = received.endorsements }) d

-- pairs that are told one after the other are the pairs that were told
abbrev pub ToldInTurn : Type 0
ToldInTurn = (pairs : List (Digest × ℕ)) (d : Digest) (v : ℕ) → with_pair (in_order pairs) d v ≡ in_order (pairs ++ (d, v) ∷ [])
