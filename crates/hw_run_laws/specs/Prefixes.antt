-- What the consumers that are left took of a replay or a run that was cut short: the statements.
-- Source: ours.
use Rattle.std.specs.Prelude.{◌≡◌, ◌⊎◌, ℕ, Bool, IsTrue, List, [], All, Option, Some, None, Result}
use Rattle.hw_types.specs.Real.{CoreState}
use Rattle.hw_replay.specs.State.{FanoutState}
use Rattle.hw_replay.specs.Fates.{Sight}
use Rattle.hw_replay.specs.Told.{HasTaken}
use Rattle.hw_replay.specs.declared.fault.StartFault.{StartFault}
use Rattle.hw_replay.specs.Taken.{Taken}
use Rattle.hw_replay.specs.Replay.{IsOutside}
use Rattle.hw_replay.specs.Midway.{Midway}
use Rattle.hw_replay.specs.Feed.{first_moment, AreFedUntil, AreFedSome, AreFedTo, AreFedPart}
use Rattle.hw_service.specs.declared.fault.ServiceFault.{ServiceFault}
use Rattle.hw_service.specs.Scene.{Outside, Scene, none_told}
use Rattle.hw_service.specs.Begin.{Names}
use Rattle.hw_service.specs.Run.{StepOver, HaveTaken, StopsAtStep, StopsAtReport, RunsPart, Course, course, runner}
use Rattle.hw_service.specs.Serve.{serves_session}
use Rattle.hw_service.specs.Turns.{TakesTurn}
use Rattle.hw_service.specs.Runs.{hosts_session, calls_peer}

-- these consumers have taken nothing
abbrev pub HaveNothing : {B K : Type 0} → Sight B K → List B → Type 0
HaveNothing sight consumers = All (λ b. HasTaken [] 0 (sight.consumed b)) consumers

-- Of a replay that stopped, each consumer that is left has taken nothing, or else first blocks, in order and each once.
-- These are of what the node had decided by then.
abbrev pub StoppedReplays : {B K : Type 0} → Sight B K → Type 0
StoppedReplays {B} sight = (tells : Bool) (whole : Result Taken StartFault) (old new : List B) (after : FanoutState B) → AreFedSome sight tells whole old new (none_told old) after → HaveNothing sight old
    → HaveNothing sight new
    ⊎ ((until : AreFedUntil sight tells whole (λ (core : CoreState). first_moment core.config old (none_told old)) new after) × HaveTaken sight until.taken.core after.passed new)

-- Of a replay that its log stopped, each consumer that is left has taken nothing, since the log has no header. Or else
-- it took the first blocks of what its entries before the bad one decide, and nothing of what is after them.
abbrev pub StoppedParts : {B K : Type 0} → Sight B K → Type 0
StoppedParts {B} sight = (tells : Bool) (begun : Option Midway) (e : StartFault) (old new : List B) (after : FanoutState B) → AreFedPart sight tells begun e old new (none_told old) after → HaveNothing sight old
    → ((IsTrue tells → IsOutside e ⊎ (begun ≡ None)) × HaveNothing sight new)
    ⊎ ((part : AreFedTo sight tells begun e (λ (core : CoreState). first_moment core.config old (none_told old)) new after) × HaveTaken sight part.taken.core after.passed new)

-- A run began and was cut short. Each consumer that is left has taken the first blocks of what the node had decided
-- where it stopped.
abbrev pub TookUntil : {B K X : Type 0} → Sight B K → Course B X → Scene B × X → Outside B × X → ServiceFault → Type 0
TookUntil sight steps first after e =
    ((stop : StopsAtStep steps first after e) × HaveTaken sight stop.last.node.core stop.last.kept.passed after.0.consumers)
    ⊎ ((stop : StopsAtReport sight steps first after e) × HaveTaken sight stop.last.node.core stop.last.kept.passed after.0.consumers)

-- So it is of each run of this step that was cut short, where no consumer had taken anything before it.
abbrev pub CutRuns : {B K X : Type 0} → Sight B K → Option ℕ → StepOver B X → Type 0
CutRuns {B} {K} {X} sight me step = (tells : Bool) (names : Names) (number count : ℕ) (before after : Outside B) (x y : X) (e : ServiceFault) → (run : RunsPart (runner sight tells names me) (course step number count) (before, x) (after, y) e)
    → HaveNothing sight before.consumers → TookUntil sight (course step number count) (run.first, x) (after, y) e

-- the same where a node serves
abbrev pub CutServices : {B K : Type 0} → Sight B K → Type 0
CutServices sight = (tells : Bool) → CutRuns sight None (serves_session sight tells)

-- the same where a validator takes turns
abbrev pub CutTurns : {B K : Type 0} → Sight B K → Type 0
CutTurns sight = (tells : Bool) (me : ℕ) → CutRuns sight (Some me) (TakesTurn sight tells me)

-- the same where a node is dialled by others, and meets them
abbrev pub CutHosts : {B K : Type 0} → Sight B K → Type 0
CutHosts sight = (tells : Bool) → CutRuns sight None (hosts_session sight tells)

-- the same where a node dials another, and meets it
abbrev pub CutCalls : {B K : Type 0} → Sight B K → Type 0
CutCalls sight = (tells : Bool) (address : List ℕ) → CutRuns sight None (calls_peer sight tells address)
