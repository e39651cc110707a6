-- A node that holds sessions with peers, one after the other, and then reports.
-- Source: ours.
use Rattle.std.specs.Prelude.{ℕ, Bool, List, None, Result}
use Rattle.hw_replay.specs.Fates.{Sight}
use Rattle.hw_service.specs.declared.fault.ServiceFault.{ServiceFault}
use Rattle.hw_service.specs.declared.ended.Served.{Served}
use Rattle.hw_service.specs.Scene.{Outside}
use Rattle.hw_service.specs.Begin.{Names}
use Rattle.hw_service.specs.Talk.{Talks}
use Rattle.hw_service.specs.Told.{HoldsSession}
use Rattle.hw_service.specs.Run.{StepOver, Course, course, Runner, Runs}

-- each step is a session, and moves nothing else
abbrev pub holds_session : {B K : Type 0} → Sight B K → Talks → List ℕ → StepOver B (Unit {0})
holds_session sight talks who number old new result = HoldsSession sight talks who number old.0 new.0 result

-- The outcome of a run that holds this number of sessions, numbered from this one on. No validator makes units in it.
abbrev pub Holds : {B K : Type 0} → Runner B K → Talks → List ℕ → ℕ → ℕ → Outside B → Outside B → Result Served ServiceFault → Type 0
Holds run talks who first count before after result = Runs run (course (holds_session run.sight talks who) first count) (before, tt) (after, tt) result
