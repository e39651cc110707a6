-- What becomes of the consumers of a list in one call.
-- Source: ours.
use Rattle.std.specs.Prelude.{◌≡◌, ℕ, Bool, List, ◌++◌, map, filter, filter_map, All, Option, Some, None, is_none, Result, Ok, Err}
use Rattle.std.specs.Option.{option_map}
use Rattle.hw_io.specs.declared.outside.IoFault.{IoFault}
use Rattle.hw_io.specs.Consumers.{Consumed}
use Rattle.hw_replay.specs.declared.ending.Ending.{Ending}
use Rattle.hw_replay.specs.declared.ending.Dropped.{Dropped}
use Rattle.hw_replay.specs.State.{FanoutState}

-- what contracts see of a consumer: what it took, where it tells that, its counts of faults and of want of memory, and of
-- which type it is
pub record Sight (B K : Type 0) : Type 0 where
  pub consumed : B → Option Consumed
  pub faults : B → ℕ
  pub wants : B → ℕ
  pub kind : B → K

-- the four together
abbrev pub seen : {B K : Type 0} → (B → Option Consumed) → (B → ℕ) → (B → ℕ) → (B → K) → Sight B K
seen consumed faults wants kind = record { consumed = consumed; faults = faults; wants = wants; kind = kind }

-- a consumer in one call: its place in the first list, how it was before, how the last call of it left it, and where it
-- failed, if it did
pub record Fate (B : Type 0) : Type 0 where
  pub place : ℕ
  pub before : B
  pub after : B
  pub ended : Option Ending

-- it didn't fail
abbrev pub is_left : {B : Type 0} → Fate B → Bool
is_left fate = is_none fate.ended

-- what is told of it as dropped
abbrev pub dropped_as : {B : Type 0} → Fate B → Option Dropped
dropped_as fate = option_map (λ ending. record { place = fate.place; ending = ending }) fate.ended

-- as what it is kept, if it failed
abbrev pub gone_as : {B : Type 0} → Fate B → Option B
gone_as fate = option_map (λ ending. fate.after) fate.ended

-- the answer that ended it, or the last one
abbrev pub answer_of : Option Ending → Result Unit IoFault
answer_of None = Ok tt
answer_of (Some ending) = Err ending.fault

-- where it failed, by the answer of the call
abbrev pub ending_of : Result Unit Ending → Option Ending
ending_of (Ok done) = None
ending_of (Err ending) = Some ending

-- Each consumer of the list met its fate, in the list's order. Those that didn't fail are left, as their last call left them;
-- the others are out of the list and told as dropped. They are kept as the call that failed left them, behind those that were
-- dropped before, which are as they were: no call of a dropped one comes.
pub record AreServed {B : Type 0} (meets : Fate B → Type 0) (old new : List B) (before after : FanoutState B) : Type 0 where
  pub fates : List (Fate B)
  pub each : All meets fates
  pub whole : old ≡ map (λ fate. fate.before) fates
  pub left : new ≡ map (λ fate. fate.after) (filter is_left fates)
  -- the places that no consumer has
  pub spare : List ℕ
  pub numbered : before.places ≡ map (λ fate. fate.place) fates ++ spare
  pub places : after.places ≡ map (λ fate. fate.place) (filter is_left fates) ++ spare
  pub drops : after.drops ≡ before.drops ++ filter_map dropped_as fates
  pub gone : after.gone ≡ before.gone ++ filter_map gone_as fates
