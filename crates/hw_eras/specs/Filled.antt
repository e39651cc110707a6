-- The eras of a node while its logs are replayed.
-- Source: ours.
use Rattle.std.specs.Prelude.{◌≡◌, ℕ, ◌+◌, ◌≤◌, ◌==◌, List, [], ◌∷◌, ◌++◌, length, take, slice_get, unwrap_or, Option, Some, None, Result, Ok, Err, if◌then◌else◌}
use Rattle.std.specs.Option.{option_map}
use Rattle.hw_types.specs.declared.config.Config.{Config}
use Rattle.hw_types.specs.Real.{CoreState}
use Rattle.hw_core.specs.Promises.{begun}
use Rattle.hw_eras.specs.Nodes.{next_of}
use Rattle.hw_replay.specs.declared.replay.Replay.{Replay}
use Rattle.hw_replay.specs.Taken.{Taken}
use Rattle.hw_replay.specs.Replay.{taken_in}
use Rattle.hw_eras.specs.Logs.{Held, LogStop, ◌>>=◌, eras_from}
use Rattle.hw_eras.specs.declared.filled.EraCounts.{EraCounts}
use Rattle.hw_eras.specs.declared.filled.Filled.{Filled}
use Rattle.hw_eras.specs.declared.stop.EraFault.{EraFault}
use Rattle.hw_eras.specs.Stops.{StopsSo}

-- each node with what was counted in its era, and with nothing where nothing was
abbrev pub counted : List CoreState → List EraCounts → List Taken
counted [] counts = []
counted (n ∷ ns) [] = record { core = n; refused = 0; repeats = 0 } ∷ counted ns []
counted (n ∷ ns) (c ∷ cs) = record { core = n; refused = c.refused; repeats = c.repeats } ∷ counted ns cs

-- what was counted in an era, if anything was
abbrev pub counts_at : List EraCounts → ℕ → EraCounts
counts_at counts era = unwrap_or (slice_get counts era) (record { refused = 0; repeats = 0 })

-- the eras that are there
abbrev pub eras_in : Filled → List Taken
eras_in f = counted f.eras f.counts.items

-- how many of them got their logs
abbrev pub logs_in : Filled → ℕ
logs_in f = length f.counts.items

-- the configuration of the era of the next log, if it is there
abbrev pub next_in : Filled → Option Config
next_in f = option_map (λ (c : CoreState). c.config) (slice_get f.eras (logs_in f))

-- the eras that will be there once these logs came too
abbrev pub ahead_in : Held → Filled → List (List ℕ) → Result (List Taken) LogStop
ahead_in held f logs = eras_from held (next_in f) logs >>= λ ts. Ok (take 64 (take (logs_in f) (eras_in f) ++ ts))

-- Each era but the last one got its log, and where that one didn't, nothing came in it.
pub record IsFilled (f : Filled) : Type 0 where
  pub few : logs_in f ≤ 64
  pub few_eras : length f.eras ≤ 64
  pub there : logs_in f ≤ length f.eras
  pub no_more : length f.eras ≤ logs_in f + 1
  pub empty : (c : CoreState) → slice_get f.eras (logs_in f) ≡ Some c → c ≡ begun c.config

-- the node of the next era, if there is one
abbrev pub opened : Option Config → List CoreState
opened None = []
opened (Some config) = begun config ∷ []

-- the eras once a log left this of the last one: the next one is opened, but behind the 64th log
pub record HasTaken (old new : Filled) (t : Taken) : Type 0 where
  pub eras : new.eras ≡ take (logs_in old) old.eras ++ t.core ∷ (if logs_in new == 64 then [] else opened (next_of t.core))
  pub counts : new.counts.items ≡ old.counts.items ++ record { refused = t.refused; repeats = t.repeats } ∷ []

-- era 0 has what the first log left, and the next one is opened
pub record HasFirst (f : Filled) (t : Taken) : Type 0 where
  pub eras : f.eras ≡ t.core ∷ opened (next_of t.core)
  pub counts : f.counts.items ≡ record { refused = t.refused; repeats = t.repeats } ∷ []

-- the replay took what the log left, or it stops there
abbrev pub Leaves : Result Taken LogStop → Result Replay EraFault → Type 0
Leaves left (Ok replay) = left ≡ Ok (taken_in replay)
Leaves left (Err e) = StopsSo e left

-- the first log was taken, or it stops there
abbrev pub HasBegun : Result Taken LogStop → Result Filled EraFault → Type 0
HasBegun left (Ok f) = (t : Taken) × (left ≡ Ok t) × HasFirst f t
HasBegun left (Err e) = StopsSo e left

-- The log was taken, and what will be there is the same; or it stops there.
abbrev pub TakesLog : Held → Filled → List ℕ → Filled → Result (Unit {0}) EraFault → Type 0
TakesLog held old log new (Ok x) = (logs : List (List ℕ)) → logs_in old + 1 + length logs ≤ 64 → ahead_in held old (log ∷ logs) ≡ ahead_in held new logs
TakesLog held old log new (Err e) = (logs : List (List ℕ)) → StopsSo e (ahead_in held old (log ∷ logs))

-- all that was ahead is there, or it stops there
abbrev pub TakesAll : Result (List Taken) LogStop → Filled → Result (Unit {0}) EraFault → Type 0
TakesAll ahead new (Ok x) = ahead ≡ Ok (eras_in new)
TakesAll ahead new (Err e) = StopsSo e ahead

-- these eras are there, or the logs stop there
abbrev pub Fills : Result (List Taken) LogStop → Result Filled EraFault → Type 0
Fills eras (Ok f) = eras ≡ Ok (eras_in f)
Fills eras (Err e) = StopsSo e eras
