-- What a node says to a peer that it has dialled.
-- Source: ours.
use Rattle.std.specs.Prelude.{ℕ, zero, suc, ◌+◌, ◌-◌, ◌==◌, List, [], ◌∷◌, length, take, drop, min, Result, Ok, Err, if◌then◌else◌}
use Rattle.hw_types.specs.declared.unit.Vertex.{Vertex}
use Rattle.hw_types.specs.declared.unit.Need.{Need}
use Rattle.hw_types.specs.declared.answers.Frame.{Frame}
use Rattle.hw_types.specs.declared.answers.Frame.TheVariants as frame
use Rattle.hw_types.specs.declared.answers.Receipt.{Receipt}
use Rattle.hw_types.specs.declared.answers.Cause.{Cause}
use Rattle.hw_types.specs.declared.answers.Cause.TheVariants as cause
use Rattle.hw_types.specs.Graph.{digest_eq}
use Rattle.hw_types.specs.Spelling.{instance_of}
use Rattle.hw_core.specs.Readers.{unmet_in}
use Rattle.hw_link.specs.declared.end.SessionEnd.TheVariants as end
use Rattle.hw_link.specs.Frames.{Placed, frames_of}
use Rattle.hw_link.specs.Talk.{Reaction, Talk, goes_on, ends, talk_over, said_bytes}
use Rattle.hw_session.specs.declared.stage.PeerMark.{PeerMark}
use Rattle.hw_session.specs.declared.stage.Stage.{Stage}
use Rattle.hw_session.specs.declared.stage.Stage.TheVariants as stage
use Rattle.hw_session.specs.Node.{NodeState}
use Rattle.hw_session.specs.Accept.{given_to, taken_by}

-- a node that drives a session: what it waits for, the node itself, and its marks of the peer
pub record Driver : Type 0 where
  pub stage : Stage
  pub node : NodeState
  pub mark : PeerMark

-- it waits for this
abbrev pub waiting : Driver → Stage → Driver
waiting d s = record d { stage = s }

-- ---- the five steps, each with what the node says first

-- the last: Done
abbrev pub leave : Driver → Reaction Driver
leave d = goes_on (waiting d stage.Leaving) (frame.Done ∷ [])

-- a Want of these needs, if there are some
abbrev pub want_some : Driver → List Need → Reaction Driver
want_some d [] = leave d
want_some d (n ∷ ns) = goes_on (waiting d stage.Wanting) (frame.Want (n ∷ ns) ∷ [])

-- the fourth: a Want of the first 64 needs that parked units miss
abbrev pub want : Driver → Reaction Driver
want d = want_some d (take 64 (unmet_in d.node.core))

-- the third: a Have of the place up to which the peer sent its journal; it may be asked this many times more
abbrev pub pull : Driver → ℕ → Reaction Driver
pull d again = goes_on (waiting d (stage.Pulling again)) (frame.Have d.mark.pulled ∷ [])

-- the first of these vertices, after which this many are to be pushed
abbrev pub push_first : Driver → ℕ → List Vertex → Reaction Driver
push_first d left [] = pull d 64
push_first d left (v ∷ vs) = goes_on (waiting d (stage.Pushing left)) (frame.Vertex v ∷ [])

-- the second: the next vertex that wasn't pushed to the peer, if this many are still to be pushed
abbrev pub push : Driver → ℕ → Reaction Driver
push d zero = pull d 64
push d (suc left) = push_first d left (drop d.mark.pushed d.node.core.journal)

-- how many vertices are pushed in a session
abbrev pub to_push : Driver → ℕ
to_push d = min 256 (length d.node.core.journal - d.mark.pushed)

-- ---- the frames

-- a frame that isn't due
abbrev pub not_due : Driver → ℕ → Reaction Driver
not_due d at = ends d [] (end.BadFrame at)

-- the peer's Hello, of the own instance
abbrev pub drive_greeting : Driver → ℕ → Frame → Reaction Driver
drive_greeting d at (frame.Hello instance) = if digest_eq instance (instance_of d.node.core.config) then push d (to_push d) else ends d [] end.WrongInstance
drive_greeting d at f = not_due d at

-- one vertex more was pushed to the peer
abbrev pub with_pushed : Driver → Driver
with_pushed d = record d { mark = record d.mark { pushed = d.mark.pushed + 1 } }

-- a Want for a pushed vertex, which isn't acted on
abbrev pub drive_pushing : Driver → ℕ → ℕ → Frame → Reaction Driver
drive_pushing d left at (frame.Want needs) = push (with_pushed d) left
drive_pushing d left at f = not_due d at

-- what a peer's vertex left; a clash ends the session
abbrev pub after_vertex : Driver → Result Receipt Cause → Reaction Driver
after_vertex d (Ok r) = goes_on d []
after_vertex d (Err (cause.Clash digest)) = ends d [] end.Clash
after_vertex d (Err c) = goes_on d []

-- a peer's vertex is delivered with its verdict
abbrev pub drive_vertex : Driver → Vertex → Reaction Driver
drive_vertex d v = after_vertex (record d { node = taken_by d.node v (given_to d.node v) }) (given_to d.node v)

-- the peer sent its journal up to this place
abbrev pub with_pulled : Driver → ℕ → Driver
with_pulled d place = record d { mark = record d.mark { pulled = place } }

-- The place up to which the peer has sent its journal now. It is asked again until that stays, but no more than this
-- many times.
abbrev pub drive_have : Driver → ℕ → ℕ → Reaction Driver
drive_have d zero place = want (with_pulled d place)
drive_have d (suc more) place = if place == d.mark.pulled then want (with_pulled d place) else pull (with_pulled d place) more

-- the peer's vertices, and then its place
abbrev pub drive_pulling : Driver → ℕ → ℕ → Frame → Reaction Driver
drive_pulling d again at (frame.Vertex v) = drive_vertex d v
drive_pulling d again at (frame.Have place) = drive_have d again place
drive_pulling d again at f = not_due d at

-- what was wanted, or that it is missing, and then the peer's place
abbrev pub drive_wanting : Driver → ℕ → Frame → Reaction Driver
drive_wanting d at (frame.Vertex v) = drive_vertex d v
drive_wanting d at (frame.Missing need) = goes_on d []
drive_wanting d at (frame.Have place) = leave d
drive_wanting d at f = not_due d at

-- the peer's Done
abbrev pub drive_leaving : Driver → ℕ → Frame → Reaction Driver
drive_leaving d at frame.Done = ends d [] end.Done
drive_leaving d at f = not_due d at

-- a frame, by what the node waits for
abbrev pub drive_at : Stage → Driver → ℕ → Frame → Reaction Driver
drive_at stage.Greeting d at f = drive_greeting d at f
drive_at (stage.Pushing left) d at f = drive_pushing d left at f
drive_at (stage.Pulling again) d at f = drive_pulling d again at f
drive_at stage.Wanting d at f = drive_wanting d at f
drive_at stage.Leaving d at f = drive_leaving d at f

-- a frame
unfoldable pub drive_step : Driver → Placed → Reaction Driver
drive_step d f = drive_at d.stage d f.at f.frame

-- what it says first
abbrev pub hello : NodeState → List Frame
hello n = frame.Hello (instance_of n.core.config) ∷ []

-- a node that has said Hello, with these marks of the peer
abbrev pub greeting : NodeState → PeerMark → Driver
greeting n mark = record { stage = stage.Greeting; node = n; mark = mark }

-- The session in which a node that has these marks drives a peer that sends these bytes.
abbrev pub driven : NodeState → PeerMark → List ℕ → Talk Driver
driven n mark bytes = talk_over (hello n) drive_step (greeting n mark) (frames_of bytes)

-- the bytes of all that is said in it
abbrev pub driven_said : NodeState → PeerMark → List ℕ → List ℕ
driven_said n mark bytes = said_bytes (driven n mark bytes).said
