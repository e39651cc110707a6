-- What is explained of a log.
use Rattle.std.specs.Prelude.{◌≡◌, ℕ, List, Option, Some, None, Result, Ok, Err, MatchResult}
use Rattle.hw_replay.specs.declared.fault.StartFault.{StartFault}
use Rattle.hw_replay.specs.Taken.{Taken}
use Rattle.hw_replay.specs.Replay.{replay_of, IsOutside, Stops}
use Rattle.hw_explain.specs.Explain.{explained_in}

-- what is explained of the node that a replay leaves, or why it stops
abbrev pub explained_of : Result Taken StartFault → Result (List ℕ) StartFault
explained_of (Ok t) = Ok (explained_in t.core)
explained_of (Err fault) = Err fault

-- the text is that of all that was ahead, or it stops there
abbrev pub ExplainsAll : Result Taken StartFault → Result (List ℕ) StartFault → Type 0
ExplainsAll ahead (Ok text) = explained_of ahead ≡ Ok text
ExplainsAll ahead (Err e) = Stops e ahead

-- The text is that of the node that the file's bytes leave, or the replay stops where they say so.
abbrev pub Explains : Option (List ℕ) → Result (List ℕ) StartFault → Type 0
Explains (Some bytes) result = ExplainsAll (replay_of None bytes) result
Explains None result = MatchResult result (λ _. ⊥) IsOutside
