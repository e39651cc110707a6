-- What the consumers of a run received, and which of them its text names.
-- Source: ours.
use Rattle.std.specs.Prelude.{◌≡◌, ◌⊎◌, ℕ, Bool, IsTrue, List, [], ◌++◌, length, All, Option, Some, None, Result, Ok}
use Rattle.std.specs.List.{range_with_len}
use Rattle.hw_types.specs.Real.{CoreState}
use Rattle.hw_io.specs.Consumers.{Consumed}
use Rattle.hw_replay.specs.declared.fault.StartFault.{StartFault}
use Rattle.hw_replay.specs.Taken.{Taken, rest_taken}
use Rattle.hw_replay.specs.Replay.{IsOutside}
use Rattle.hw_replay.specs.Midway.{file_begun}
use Rattle.hw_replay.specs.declared.ending.Dropped.{Dropped}
use Rattle.hw_replay.specs.State.{FanoutState}
use Rattle.hw_replay.specs.Chain.{told_chain}
use Rattle.hw_replay.specs.Fates.{Sight, AreServed}
use Rattle.hw_replay.specs.Told.{IsFinished}
use Rattle.hw_replay.specs.Feed.{moment, first_moment, AreFed, AreFedTo, file_replayed}
use Rattle.hw_replay.specs.Lines.{drop_lines}
use Rattle.hw_commands.specs.declared.ended.Ended.{Ended}
use Rattle.hw_commands.specs.Commands.{Word, Request, Replay, request_of}
use Rattle.hw_commands.specs.Program.{Held, run_of}

-- as they were handed in: numbered from 0 on in the list's order, and nothing was passed to them
abbrev pub first_kept : {B : Type 0} → List B → FanoutState B
first_kept consumers = record { passed = 0; places = range_with_len 0 (length consumers); drops = []; gone = [] }

-- it took these blocks and was finished so often, where it reports that
abbrev pub HasGot : List (ℕ × List ℕ) → ℕ → Option Consumed → Type 0
HasGot blocks finishes None = Unit {0}
HasGot blocks finishes (Some consumed) = consumed ≡ record { pairs = blocks; finishes = finishes }

-- each of them did
abbrev pub HaveGot : {B K : Type 0} → Sight B K → List (ℕ × List ℕ) → ℕ → List B → Type 0
HaveGot sight blocks finishes consumers = All (λ b. HasGot blocks finishes (sight.consumed b)) consumers

-- From a node that had received nothing up to this one, the consumers received the decided blocks as they came. Then
-- those that were left were called once to say that no block follows. The dropped ones are those that answered an
-- error, in the order of dropping.
pub record AreToldAll {B K : Type 0} (sight : Sight B K) (core : CoreState) (old new : List B) (drops : List Dropped) : Type 0 where
  pub fed : List B
  pub kept : FanoutState B
  pub last : FanoutState B
  pub told : AreFed sight (first_moment core.config old (first_kept old)) (moment core fed kept)
  pub finished : AreServed (IsFinished sight) fed new kept last
  pub dropped : drops ≡ last.drops
  -- handed in with nothing taken, each one left took the whole decided chain and was finished once
  pub took : HaveGot sight [] 0 old → HaveGot sight (told_chain core) 1 new

-- The log's entries before the one that stopped it so left a node. The consumers received the blocks up to that node.
-- No call told them that none follows.
pub record AreToldSome {B K : Type 0} (sight : Sight B K) (tells : Bool) (log : Option (List ℕ)) (e : StartFault) (old new : List B) : Type 0 where
  pub kept : FanoutState B
  pub part : AreFedTo sight tells (file_begun None log) e (λ (core : CoreState). first_moment core.config old (first_kept old)) new kept
  -- the entries that were still to come would leave of it what the whole log leaves
  pub leads : IsTrue tells → file_replayed None log ≡ rest_taken part.taken part.rest
  -- handed in with nothing taken, each one left took what that node had decided, and wasn't finished
  pub took : HaveGot sight [] 0 old → HaveGot sight (told_chain part.taken.core) 0 new

-- ---- a replay, by what the file's bytes leave of a node

-- it came to its report: they received all that this node decided
pub record AreToldOf {B K : Type 0} (sight : Sight B K) (tells : Bool) (whole : Result Taken StartFault) (old new : List B) (drops : List Dropped) : Type 0 where
  pub taken : Taken
  pub leaves : IsTrue tells → whole ≡ Ok taken
  pub told : AreToldAll sight taken.core old new drops

-- they are as they were handed in, since the log has no header, unless it was the outside that stopped it so
pub record AreToldNone {B : Type 0} (tells : Bool) (log : Option (List ℕ)) (e : StartFault) (old new : List B) : Type 0 where
  pub none : IsTrue tells → IsOutside e ⊎ (file_begun None log ≡ None)
  pub same : new ≡ old

-- it stopped so before its report: they received no block, or some
abbrev pub AreCutOff : {B K : Type 0} → Sight B K → Bool → Option (List ℕ) → StartFault → List B → List B → Type 0
AreCutOff sight tells log e old new = AreToldNone tells log e old new ⊎ AreToldSome sight tells log e old new

-- By the status: 0 and 5 come only after the report, and 2, 4, 8 and 9 only before it. Out of memory comes at any
-- moment. With 2, 8 and 9 it is the log that stopped it, and not the outside.
pub record IsReplayTold {B K : Type 0} (sight : Sight B K) (tells : Bool) (log : Option (List ℕ)) (status : ℕ) (old new : List B) : Type 0 where
  pub all : (status ≡ 0) ⊎ (status ≡ 5) → (drops : List Dropped) × AreToldOf sight tells (file_replayed None log) old new drops
  pub some : (status ≡ 2) ⊎ (status ≡ 4) ⊎ (status ≡ 8) ⊎ (status ≡ 9) → (e : StartFault) × (IsOutside e → status ≡ 4) × AreCutOff sight tells log e old new
  pub any : ((e : StartFault) × AreCutOff sight tells log e old new) ⊎ ((drops : List Dropped) × AreToldOf sight tells (file_replayed None log) old new drops)

-- a report, and then the lines of the consumers that were dropped
pub record IsReport {B K : Type 0} (sight : Sight B K) (tells : Bool) (whole : Result Taken StartFault) (report : List ℕ) (old new : List B) (text : List ℕ) : Type 0 where
  pub drops : List Dropped
  pub told : AreToldOf sight tells whole old new drops
  pub text_is : text ≡ report ++ drop_lines drops

-- with status 0 the text is a report, and with each other it names no consumer
pub record IsReplayText {B K : Type 0} (sight : Sight B K) (tells : Bool) (whole : Result Taken StartFault) (said : Ended) (old new : List B) (text : List ℕ) : Type 0 where
  pub done : said.status ≡ 0 → IsReport sight tells whole said.text old new text
  pub other : (said.status ≡ 0 → ⊥) → text ≡ said.text

-- ---- each command

-- no consumer is called
abbrev pub CallsNone : Option Request → Type 0
CallsNone (Some (Replay log)) = ⊥
CallsNone request = Unit {0}

-- what a run that ends with this status leaves of the consumers
abbrev pub ConsumersAfter : {B K : Type 0} → Sight B K → Bool → Option Request → Held → ℕ → List B → List B → Type 0
ConsumersAfter sight tells (Some (Replay log)) held status old new = IsReplayTold sight tells (held log) status old new
ConsumersAfter sight tells request held status old new = new ≡ old

-- the text of a run, of which the bytes say this much
abbrev pub IsTextFor : {B K : Type 0} → Sight B K → Bool → Option Request → Held → Ended → List B → List B → List ℕ → Type 0
IsTextFor sight tells (Some (Replay log)) held said old new text = IsReplayText sight tells (file_replayed None (held log)) said old new text
IsTextFor sight tells request held said old new text = text ≡ said.text

-- The text of a run: what words and bytes say, and after a report the lines of the consumers that were dropped.
abbrev pub IsTextOf : {B K : Type 0} → Sight B K → Bool → List Word → Held → List B → List B → List ℕ → Type 0
IsTextOf sight tells words held old new text = IsTextFor sight tells (request_of words) held (run_of words held) old new text
