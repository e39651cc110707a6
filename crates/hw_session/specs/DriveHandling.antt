-- What a node that drives did at a frame.
-- Source: ours.
use Rattle.std.specs.Prelude.{◌≡◌, ℕ, ◌+◌, ◌<◌, ◌≤◌, Bool, false, List, [], length, Option, Result, IfOk}
use Rattle.hw_types.specs.declared.answers.Frame.{Frame}
use Rattle.hw_io.specs.Doors.{Session}
use Rattle.hw_link.specs.declared.end.SessionEnd.{SessionEnd}
use Rattle.hw_link.specs.Frames.{byte_limit}
use Rattle.hw_link.specs.Talk.{Reaction}
use Rattle.hw_link.specs.Links.{after_part}
use Rattle.hw_link.specs.UnderWay.{HasFrame}
use Rattle.hw_link.specs.Told.{DoorTold}
use Rattle.hw_session.specs.declared.stage.PeerMark.{PeerMark}
use Rattle.hw_session.specs.declared.stage.Onward.{Onward}
use Rattle.hw_session.specs.declared.stage.Stage.{Stage}
use Rattle.hw_session.specs.declared.stage.Stage.TheVariants as stage
use Rattle.hw_session.specs.Node.{NodeState}
use Rattle.hw_session.specs.Driving.{Driver, drive_step}
use Rattle.hw_session.specs.Handling.{Reacts, Answers}
use Rattle.hw_session.specs.Standing.{Standing, standing, DriverStanding}

-- what a reaction leaves of the node alone
abbrev pub node_part : Reaction Driver → Reaction NodeState
node_part r = record { state = r.state.node; says = r.says; end = r.end }

-- a vertex that was pushed is one of the journal
abbrev pub IsDue : Stage → NodeState → PeerMark → Type 0
IsDue (stage.Pushing left) n mark = mark.pushed < length n.core.journal
IsDue s n mark = Unit {0}

-- It reacted so. Its node did, and its marks are those of the reaction. Where it goes on it waits for what the reaction
-- says.
pub record ReactsAs (tells : Bool) (before : Standing) (f : Frame) (r : Reaction Driver) (after : DriverStanding) (old new : Option (List Session)) (result : Result Stage SessionEnd) : Type 0 where
  pub node : Reacts tells before f (node_part r) (standing after.node after.held) old new result
  pub marks : after.mark ≡ r.state.mark
  pub waits : IfOk result (λ s. s ≡ r.state.stage)
  pub due : IfOk result (λ s. IsDue s after.node after.mark)

-- The same of a reaction that leaves the node as it is.
pub record AnswersAs (n : NodeState) (mark : PeerMark) (r : Reaction Driver) (old new : Option (List Session)) (result : Result Stage SessionEnd) : Type 0 where
  pub node : Answers (node_part r) old new result
  pub waits : IfOk result (λ s. s ≡ r.state.stage)
  pub due : IfOk result (λ s. IsDue s n mark)

-- there was a frame, and it reacted as a node that drives
pub record HandlesAs (tells : Bool) (d : Driver) (held : List ℕ → Option (List ℕ)) (place : ℕ) (after : DriverStanding) (old new : DoorTold) (result : Result Onward SessionEnd) : Type 0 where
  pub part : List ℕ
  pub frame : Frame
  pub has : HasFrame place part frame
  pub within : place + length part ≤ byte_limit
  pub ends : new.ends ≡ old.ends
  pub next : IfOk result (λ (o : Onward). o.place ≡ place + length part)
  pub marks : after.mark ≡ (drive_step d (record { at = place; frame = frame })).state.mark
  pub waits : IfOk result (λ (o : Onward). o.stage ≡ (drive_step d (record { at = place; frame = frame })).state.stage)
  pub due : IfOk result (λ (o : Onward). IsDue o.stage after.node after.mark)
  pub reacts : Reacts tells (standing d.node held) frame (node_part (drive_step d (record { at = place; frame = frame }))) (standing after.node after.held) (after_part part [] false old.sessions) new.sessions result
