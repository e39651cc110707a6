-- A run: a node begins, takes steps, and reports.
-- Source: ours.
use Rattle.std.specs.Prelude.{◌≡◌, ◌⊎◌, ℕ, Bool, List, [], length, All, Option, Result, Ok, Err}
use Rattle.std.specs.Io.KnownBytes.{Appends}
use Rattle.hw_io.specs.Sinks.{AppendsPrefix}
use Rattle.hw_types.specs.Real.{CoreState}
use Rattle.hw_replay.specs.State.{FanoutState}
use Rattle.hw_replay.specs.Fates.{Sight, AreServed}
use Rattle.hw_replay.specs.Chain.{told_chain}
use Rattle.hw_replay.specs.Told.{HasTaken, IsFinished}
use Rattle.hw_service.specs.declared.fault.ServiceFault.{ServiceFault}
use Rattle.hw_service.specs.declared.fault.ServiceFault.TheVariants as fault
use Rattle.hw_service.specs.declared.ended.Served.{Served}
use Rattle.hw_service.specs.Scene.{Outside, Scene}
use Rattle.hw_service.specs.Lines.{closing_text}
use Rattle.hw_service.specs.Begin.{Names, HasBegun, BeginsNot}
use Rattle.hw_service.specs.Steps.{Step, TakesAll, TakesUntil}

-- ---- the end

-- the `finish` of each consumer was called, and nothing else outside changed but the output
pub record Closes {B K : Type 0} (sight : Sight B K) (last : Scene B) (kept : FanoutState B) (after : Outside B) : Type 0 where
  pub finished : AreServed (IsFinished sight) last.around.consumers after.consumers last.kept kept
  pub files : after.files ≡ last.around.files
  pub door : after.door ≡ last.around.door

-- then the report was written
pub record Reports {B K : Type 0} (sight : Sight B K) (last : Scene B) (after : Outside B) : Type 0 where
  pub kept : FanoutState B
  pub closes : Closes sight last kept after
  pub written : Appends last.around.written after.written (closing_text last.node kept)

-- or a first part of it
pub record ReportsPart {B K : Type 0} (sight : Sight B K) (last : Scene B) (after : Outside B) : Type 0 where
  pub kept : FanoutState B
  pub closes : Closes sight last kept after
  pub written : AppendsPrefix last.around.written after.written (closing_text last.node kept)

-- only a failed write or running out of memory cuts it short
abbrev pub ReportsNot : {B K : Type 0} → Sight B K → Scene B → Outside B → ServiceFault → Type 0
ReportsNot sight last after fault.Write = ReportsPart sight last after
ReportsNot sight last after fault.OutOfMemory = ReportsPart sight last after
ReportsNot sight last after e = ⊥

-- the report was written, or not whole
abbrev pub ReportsAs : {B K T : Type 0} → Sight B K → Scene B → Outside B → Result T ServiceFault → Type 0
ReportsAs sight last after (Ok x) = Reports sight last after
ReportsAs sight last after (Err e) = ReportsNot sight last after e

-- ---- from a node that has begun

-- a step from one scene to another, which moves something else too
abbrev pub StepOver : Type 0 → Type 0 → Type 1
StepOver B X = Step (Scene B × X)

-- the consumers have taken what they were passed so far
abbrev pub HaveTaken : {B K : Type 0} → Sight B K → CoreState → ℕ → List B → Type 0
HaveTaken sight core count consumers = All (λ b. HasTaken (told_chain core) count (sight.consumed b)) consumers

-- this number of steps of a kind, numbered from this one on
pub record Course (B X : Type 0) : Type 1 where
  pub step : StepOver B X
  pub number : ℕ
  pub count : ℕ

-- these together
abbrev pub course : {B X : Type 0} → StepOver B X → ℕ → ℕ → Course B X
course step number count = record { step = step; number = number; count = count }

-- All steps were taken, and the report was written. The answer is the number of vertices and own units that met a
-- limit, and whether the door failed in a session. The consumers that are left have taken all decided blocks.
pub record Completes {B K X : Type 0} (sight : Sight B K) (stages : Course B X) (first : Scene B × X) (after : Outside B × X) (served : Served) : Type 0 where
  pub last : Scene B
  pub steps : TakesAll stages.step stages.number stages.count first (last, after.1) served.link_failed
  pub reports : Reports sight last after.0
  pub limits : served.limits ≡ last.node.limited
  pub whole : HaveTaken sight first.0.node.core first.0.kept.passed first.0.around.consumers → HaveTaken sight last.node.core (length (told_chain last.node.core)) after.0.consumers

-- A step ended the run.
pub record StopsAtStep {B X : Type 0} (stages : Course B X) (first : Scene B × X) (after : Outside B × X) (e : ServiceFault) : Type 0 where
  pub last : Scene B
  pub steps : TakesUntil stages.step stages.number stages.count first (last, after.1) e
  pub left : after.0 ≡ last.around

-- All steps were taken, and the report was cut short.
pub record StopsAtReport {B K X : Type 0} (sight : Sight B K) (stages : Course B X) (first : Scene B × X) (after : Outside B × X) (e : ServiceFault) : Type 0 where
  pub last : Scene B
  pub failed : Bool
  pub steps : TakesAll stages.step stages.number stages.count first (last, after.1) failed
  pub reports : ReportsNot sight last after.0 e

-- the outcome for a node that has begun
abbrev pub Proceeds : {B K X : Type 0} → Sight B K → Course B X → Scene B × X → Outside B × X → Result Served ServiceFault → Type 0
Proceeds sight stages first after (Ok served) = Completes sight stages first after served
Proceeds sight stages first after (Err e) = StopsAtStep stages first after e ⊎ StopsAtReport sight stages first after e

-- ---- the whole run

-- Whose run it is: how consumers are seen, and whether the contents of its files are known. Then the names of its
-- files, and its validator, if it has one.
pub record Runner (B K : Type 0) : Type 0 where
  pub sight : Sight B K
  pub tells : Bool
  pub names : Names
  pub me : Option ℕ

-- these together
abbrev pub runner : {B K : Type 0} → Sight B K → Bool → Names → Option ℕ → Runner B K
runner sight tells names me = record { sight = sight; tells = tells; names = names; me = me }

-- The node began, took all steps and reported.
pub record RunsWhole {B K X : Type 0} (run : Runner B K) (stages : Course B X) (before after : Outside B × X) (served : Served) : Type 0 where
  pub first : Scene B
  pub begins : HasBegun run.sight run.tells run.names run.me before.0 first
  pub completes : Completes run.sight stages (first, before.1) after served
  pub whole : All (λ b. HasTaken [] 0 (run.sight.consumed b)) before.0.consumers → HaveTaken run.sight completes.last.node.core (length (told_chain completes.last.node.core)) after.0.consumers

-- It began, and was cut short.
pub record RunsPart {B K X : Type 0} (run : Runner B K) (stages : Course B X) (before after : Outside B × X) (e : ServiceFault) : Type 0 where
  pub first : Scene B
  pub begins : HasBegun run.sight run.tells run.names run.me before.0 first
  pub stops : StopsAtStep stages (first, before.1) after e ⊎ StopsAtReport run.sight stages (first, before.1) after e

-- It hasn't begun.
pub record RunsNot {B K X : Type 0} (run : Runner B K) (before after : Outside B × X) (e : ServiceFault) : Type 0 where
  pub begins_not : BeginsNot run.sight run.tells run.names run.me before.0 after.0 e
  pub same : after.1 ≡ before.1

-- the outcome of a run of these steps
abbrev pub Runs : {B K X : Type 0} → Runner B K → Course B X → Outside B × X → Outside B × X → Result Served ServiceFault → Type 0
Runs run stages before after (Ok served) = RunsWhole run stages before after served
Runs run stages before after (Err e) = RunsNot run before after e ⊎ RunsPart run stages before after e
