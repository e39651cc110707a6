-- Consumers that are told the decided blocks while a log is replayed.
-- Source: ours.
use Rattle.std.specs.Prelude.{◌≡◌, ℕ, ◌⊎◌, Bool, IsTrue, List, [], ◌∷◌, length, Option, Some, None, Result, Err}
use Rattle.hw_types.specs.declared.config.Config.{Config}
use Rattle.hw_types.specs.Real.{CoreState}
use Rattle.hw_safety.specs.Chain.{Begins}
use Rattle.hw_log.specs.declared.error.LogError.TheVariants as log
use Rattle.hw_log.specs.Log.{Entries}
use Rattle.hw_replay.specs.declared.fault.StartFault.{StartFault}
use Rattle.hw_replay.specs.declared.fault.StartFault.TheVariants as fault
use Rattle.hw_replay.specs.Taken.{Taken, nothing_taken, rest_taken}
use Rattle.hw_replay.specs.Replay.{replay_of, IsOutside, Stops}
use Rattle.hw_replay.specs.Midway.{Midway, midway, next_taken, ComesTo}
use Rattle.hw_replay.specs.State.{FanoutState}
use Rattle.hw_replay.specs.Chain.{told_chain}
use Rattle.hw_replay.specs.Fates.{Sight, AreServed}
use Rattle.hw_replay.specs.Told.{IsTold}

-- a node at a moment, the consumers that are left then, and what is kept of them
pub record Moment (B : Type 0) : Type 0 where
  pub core : CoreState
  pub consumers : List B
  pub kept : FanoutState B

-- the three together
abbrev pub moment : {B : Type 0} → CoreState → List B → FanoutState B → Moment B
moment core consumers kept = record { core = core; consumers = consumers; kept = kept }

-- a node that has received nothing, and the consumers as they were handed in
abbrev pub first_moment : {B : Type 0} → Config → List B → FanoutState B → Moment B
first_moment config consumers kept = moment (nothing_taken config).core consumers kept

-- The node went on, and its consumers were passed the blocks that are decided now and that they hadn't been passed.
pub record IsPassed {B K : Type 0} (sight : Sight B K) (old new : Moment B) : Type 0 where
  pub config : new.core.config ≡ old.core.config
  pub grown : Begins old.core.journal new.core.journal
  pub told : AreServed (IsTold sight (told_chain new.core) old.kept.passed) old.consumers new.consumers old.kept new.kept
  pub passed : new.kept.passed ≡ length (told_chain new.core)

-- so it was at each of these moments, one after the other
unfoldable pub ArePassed : {B K : Type 0} → Sight B K → Moment B → List (Moment B) → Moment B → Type 0
ArePassed sight first [] last = last ≡ first
ArePassed sight first (m ∷ ms) last = IsPassed sight first m × ArePassed sight m ms last

-- from the first moment to the last
pub record AreFed {B K : Type 0} (sight : Sight B K) (first last : Moment B) : Type 0 where
  pub moments : List (Moment B)
  pub passed : ArePassed sight first moments last

-- ---- a replay that stops

-- what a file's bytes leave of a node; a read fails where there is none
abbrev pub file_replayed : Option Config → Option (List ℕ) → Result Taken StartFault
file_replayed wanted (Some bytes) = replay_of wanted bytes
file_replayed wanted None = Err (fault.Log log.ReadFault)

-- The consumers were fed up to a node over which the replay leads: its entries so far left that node, and the rest was still to come.
pub record AreFedUntil {B K : Type 0} (sight : Sight B K) (tells : Bool) (whole : Result Taken StartFault) (first : CoreState → Moment B) (consumers : List B) (kept : FanoutState B) : Type 0 where
  pub taken : Taken
  pub rest : Entries
  pub leads : IsTrue tells → whole ≡ rest_taken taken rest
  pub fed : AreFed sight (first taken.core) (moment taken.core consumers kept)

-- It stopped before the first entry, and they were passed nothing; or it stopped behind some entries.
abbrev pub AreFedSome : {B K : Type 0} → Sight B K → Bool → Result Taken StartFault → List B → List B → FanoutState B → FanoutState B → Type 0
AreFedSome sight tells whole old new before after =
    ((new ≡ old) × (after ≡ before))
    ⊎ AreFedUntil sight tells whole (λ (core : CoreState). first_moment core.config old before) new after

-- ---- and which of the log's entries were read by then

-- The consumers were fed up to the node that the first of the log's entries left, which is where the replay came to. The rest was still to
-- come, and its first entry is what stopped the replay so, or the log's error in its place, unless it was the outside.
pub record AreFedTo {B K : Type 0} (sight : Sight B K) (tells : Bool) (begun : Option Midway) (e : StartFault) (first : CoreState → Moment B) (consumers : List B) (kept : FanoutState B) : Type 0 where
  pub taken : Taken
  pub rest : Entries
  pub came : IsTrue tells → ComesTo begun (midway taken rest)
  pub stops : IsTrue tells → Stops e (next_taken (midway taken rest))
  pub fed : AreFed sight (first taken.core) (moment taken.core consumers kept)

-- They were passed nothing. No replay began, unless it was the outside that stopped it.
pub record AreFedNone {B : Type 0} (tells : Bool) (begun : Option Midway) (e : StartFault) (old new : List B) (before after : FanoutState B) : Type 0 where
  pub none : IsTrue tells → IsOutside e ⊎ (begun ≡ None)
  pub consumers : new ≡ old
  pub kept : after ≡ before

-- It stopped before the first entry, or behind the first entries.
abbrev pub AreFedPart : {B K : Type 0} → Sight B K → Bool → Option Midway → StartFault → List B → List B → FanoutState B → FanoutState B → Type 0
AreFedPart sight tells begun e old new before after =
    AreFedNone tells begun e old new before after
    ⊎ AreFedTo sight tells begun e (λ (core : CoreState). first_moment core.config old before) new after
