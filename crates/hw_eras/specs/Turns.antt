-- Which log's turn it is, where logs are replayed one after the other.
-- Source: ours.
use Rattle.std.specs.Prelude.{◌≡◌, ◌⊎◌, List, [], ◌∷◌, Option, Some, None, Result, Ok, Err, ℕ}
use Rattle.hw_types.specs.declared.config.Config.{Config}
use Rattle.hw_eras.specs.Nodes.{next_of, first_config}
use Rattle.hw_replay.specs.Taken.{Taken}
use Rattle.hw_eras.specs.Logs.{Held, log_left, eras_of, nodes_of}
use Rattle.hw_eras.specs.declared.filled.Filled.{Filled}
use Rattle.hw_eras.specs.declared.stop.EraFault.{EraFault}
use Rattle.hw_eras.specs.declared.stop.EraFault.TheVariants as stop
use Rattle.hw_eras.specs.Filled.{next_in}

-- The turn of a log comes where the next era, which has this configuration, is there: at once if it is the first, or else once
-- the first one was replayed and left the era of the next one.
abbrev pub HasTurnFrom : Held → Option Config → List (List ℕ) → List ℕ → Type 0
HasTurnFrom held next [] name = ⊥
HasTurnFrom held None (log ∷ logs) name = ⊥
HasTurnFrom held (Some config) (log ∷ logs) name = (log ≡ name) ⊎ ((t : Taken) × (log_left held (Some config) log ≡ Ok t) × HasTurnFrom held (next_of t.core) logs name)

-- The same of the logs of a node, of which the first is of the wanted configuration, if one is wanted: its turn comes at once.
abbrev pub HasTurnOf : Held → Option Config → List (List ℕ) → List ℕ → Type 0
HasTurnOf held wanted [] name = ⊥
HasTurnOf held wanted (log ∷ logs) name = (log ≡ name) ⊎ ((t : Taken) × (log_left held wanted log ≡ Ok t) × HasTurnFrom held (next_of t.core) logs name)

-- The same of the logs of two nodes: the turn of a right log comes once all the left ones were replayed.
abbrev pub HasTurnIn : Held → List (List ℕ) → List (List ℕ) → List ℕ → Type 0
HasTurnIn held left right name = HasTurnOf held None left name ⊎ ((ls : List Taken) × (eras_of held None left ≡ Ok ls) × HasTurnOf held (first_config (nodes_of ls)) right name)

-- the log whose replay stopped is such a one
abbrev pub StopsAt : (List ℕ → Type 0) → EraFault → Type 0
StopsAt is_such (stop.NoEra log) = Unit {0}
StopsAt is_such (stop.Stopped log e) = is_such log.now
StopsAt is_such stop.OutOfMemory = Unit {0}

-- the turns of the logs behind this one come once it was taken; or its replay stops in its turn
abbrev pub TakesTurn : Held → Filled → List ℕ → Filled → Result (Unit {0}) EraFault → Type 0
TakesTurn held old log new (Ok x) = (logs : List (List ℕ)) (name : List ℕ) → HasTurnFrom held (next_in new) logs name → HasTurnFrom held (next_in old) (log ∷ logs) name
TakesTurn held old log new (Err e) = (logs : List (List ℕ)) → StopsAt (HasTurnFrom held (next_in old) (log ∷ logs)) e
