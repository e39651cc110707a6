-- Logs that are replayed into the eras of a node, one log into each.
-- Source: ours, over Highway's instances one after another.
use Rattle.std.specs.Prelude.{ℕ, List, [], ◌∷◌, take, map, Option, Some, None, Result, Ok, Err}
use Rattle.hw_types.specs.declared.config.Config.{Config}
use Rattle.hw_types.specs.Real.{CoreState}
use Rattle.hw_log.specs.declared.error.LogError.TheVariants as log
use Rattle.hw_replay.specs.declared.fault.StartFault.{StartFault}
use Rattle.hw_replay.specs.declared.fault.StartFault.TheVariants as fault
use Rattle.hw_replay.specs.Taken.{Taken, nothing_taken}
use Rattle.hw_replay.specs.Replay.{replay_of}
use Rattle.hw_eras.specs.Nodes.{next_of}

-- the bytes held under each name, where there is a file
abbrev pub Held : Type 0
Held = List ℕ → Option (List ℕ)

-- why logs leave no eras: the era of this log isn't there, or its replay stops
pub data LogStop : Type 0 where
  NoEra : List ℕ → LogStop
  Stopped : List ℕ → StartFault → LogStop

-- go on with what there is, or stop
infixl 10 ◌>>=◌
abbrev pub ◌>>=◌ : {A B : Type 0} → Result A LogStop → (A → Result B LogStop) → Result B LogStop
(Ok x) >>= f = f x
(Err e) >>= f = Err e

-- what a file's log leaves, where this configuration is wanted; where there is no file, a read fails
abbrev pub file_left : Option Config → Option (List ℕ) → Result Taken StartFault
file_left wanted None = Err (fault.Log log.ReadFault)
file_left wanted (Some bytes) = replay_of wanted bytes

-- a replay, or what stopped that of this log
abbrev pub or_stopped : List ℕ → Result Taken StartFault → Result Taken LogStop
or_stopped log (Ok t) = Ok t
or_stopped log (Err e) = Err (Stopped log e)

-- what the log of this name leaves, where this configuration is wanted
abbrev pub log_left : Held → Option Config → List ℕ → Result Taken LogStop
log_left held wanted log = or_stopped log (file_left wanted (held log))

-- an era that has no log, if it is there
abbrev pub without_log : Option Config → List Taken
without_log None = []
without_log (Some config) = nothing_taken config ∷ []

-- The eras from the next one on, which has this configuration, if it is there. Each log is replayed into the next era, which is
-- there once the one before has decided its last block, and must be of its configuration. Behind the last log an era may be there that has none.
unfoldable pub eras_from : Held → Option Config → List (List ℕ) → Result (List Taken) LogStop
eras_from held next [] = Ok (without_log next)
eras_from held None (log ∷ logs) = Err (NoEra log)
eras_from held (Some config) (log ∷ logs) = log_left held (Some config) log >>= λ t. eras_from held (next_of t.core) logs >>= λ ts. Ok (t ∷ ts)

-- The eras of a node that has these logs, 64 at most, with what was counted in each. The first log is of the wanted configuration,
-- if one is wanted.
unfoldable pub eras_of : Held → Option Config → List (List ℕ) → Result (List Taken) LogStop
eras_of held wanted [] = Ok []
eras_of held wanted (log ∷ logs) = log_left held wanted log >>= λ t. eras_from held (next_of t.core) logs >>= λ ts. Ok (take 64 (t ∷ ts))

-- the nodes of eras
abbrev pub nodes_of : List Taken → List CoreState
nodes_of ts = map (λ (t : Taken). t.core) ts
