-- What two nodes that meet say to each other, frame by frame.
-- Source: ours.
use Rattle.std.specs.Prelude.{ℕ, Bool, List, [], ◌∷◌, ◌++◌, length, map, Result, Ok, Err, if◌then◌else◌}
use Rattle.hw_types.specs.declared.unit.Digest.{Digest}
use Rattle.hw_types.specs.declared.unit.Vertex.{Vertex}
use Rattle.hw_types.specs.declared.answers.Receipt.{Receipt}
use Rattle.hw_types.specs.declared.answers.Cause.{Cause}
use Rattle.hw_types.specs.declared.answers.Cause.TheVariants as cause
use Rattle.hw_types.specs.Graph.{digest_eq}
use Rattle.hw_types.specs.Spelling.{instance_of}
use Rattle.hw_types.specs.Real.{CoreState, setting_of, answer_in, after_in}
use Rattle.hw_io.specs.Faults.{raised}
use Rattle.hw_agree.specs.declared.summary.LaneSummary.{LaneSummary}
use Rattle.hw_agree.specs.Converge.{summaries, torn_for, due_of}
use Rattle.hw_link.specs.declared.end.SessionEnd.TheVariants as end
use Rattle.hw_meeting.specs.declared.frame.MeetingFrame.{MeetingFrame}
use Rattle.hw_meeting.specs.declared.frame.MeetingFrame.TheVariants as frame
use Rattle.hw_meeting_node.specs.Frames.{Placed, sent_bytes}
use Rattle.hw_meeting_node.specs.declared.meeter.Side.{Side}
use Rattle.hw_meeting_node.specs.declared.meeter.Side.TheVariants.{Caller, Host}
use Rattle.hw_meeting_node.specs.declared.meeter.Stage.{Stage}
use Rattle.hw_meeting_node.specs.declared.meeter.Stage.TheVariants.{Greeting, Telling, Tearing, Taking}
use Rattle.hw_meeting_node.specs.Talk.{Reaction, Talk, goes_on, ends, talk_over}

-- ---- what a node reports that has received this; nothing is taken before all of it is said

-- of each validator's units
abbrev pub told_of : CoreState → List LaneSummary
told_of c = summaries (setting_of c.config) c.journal

-- which validators are torn for it, by the other's summary
abbrev pub torn_by : CoreState → List LaneSummary → List ℕ
torn_by c theirs = torn_for (setting_of c.config) c.journal theirs

-- what it owes the other, by the other's summary and the validators that are torn for the other
abbrev pub owed_by : CoreState → List LaneSummary → List ℕ → List Vertex
owed_by c theirs torn = due_of c.journal (told_of c) theirs (torn_by c theirs ++ torn)

-- ---- its four words, in their order: the caller says one before each frame that it reads, the host one after it

-- the instance that it is of
abbrev pub hello : CoreState → List MeetingFrame
hello c = frame.Hello (instance_of c.config) ∷ []

-- what it has of each lane
abbrev pub summary : CoreState → List MeetingFrame
summary c = frame.Summary (told_of c) ∷ []

-- the validators that are torn for it, by the other's summary
abbrev pub torn : CoreState → List LaneSummary → List MeetingFrame
torn c theirs = frame.Torn (torn_by c theirs) ∷ []

-- what is due, and that it was all
abbrev pub all_due : List Vertex → List MeetingFrame
all_due due = map frame.Vertex due ++ frame.Done ∷ []

-- what it says before it reads
abbrev pub first_word : Side → CoreState → List MeetingFrame
first_word Caller c = hello c
first_word Host c = []

-- to the other's Hello
abbrev pub to_hello : Side → CoreState → List MeetingFrame
to_hello Caller c = summary c
to_hello Host c = hello c

-- to the other's summary
abbrev pub to_summary : Side → CoreState → List LaneSummary → List MeetingFrame
to_summary Caller c theirs = torn c theirs
to_summary Host c theirs = summary c

-- to the validators that are torn for the other, where this is due
abbrev pub to_torn : Side → CoreState → List LaneSummary → List Vertex → List MeetingFrame
to_torn Caller c theirs due = all_due due
to_torn Host c theirs due = torn c theirs

-- to the other's Done
abbrev pub to_done : Side → List Vertex → List MeetingFrame
to_done Caller due = []
to_done Host due = all_due due

-- ---- its state

-- what it waits for, what it has received, the count of the other's vertices that it refused, the other's summary, and
-- what it owes
pub record Meeting : Type 0 where
  pub stage : Stage
  pub core : CoreState
  pub refused : ℕ
  pub theirs : List LaneSummary
  pub due : List Vertex

-- before it has read anything
abbrev pub begun : CoreState → Meeting
begun c = record { stage = Greeting; core = c; refused = 0; theirs = []; due = [] }

-- ---- the frames

-- a frame that isn't due
abbrev pub not_due : Meeting → ℕ → Reaction Meeting
not_due m at = ends m [] (end.BadFrame at)

-- a Hello of the own instance
abbrev pub greeted : Side → Meeting → Digest → Reaction Meeting
greeted side m instance = if digest_eq instance (instance_of m.core.config) then goes_on (record m { stage = Telling }) (to_hello side m.core) else ends m [] end.WrongInstance

-- the other's summary
abbrev pub told : Side → Meeting → List LaneSummary → Reaction Meeting
told side m theirs = goes_on (record m { stage = Tearing; theirs = theirs }) (to_summary side m.core theirs)

-- the validators that are torn for the other; what is owed is known from now on
abbrev pub given_torn : Side → Meeting → List ℕ → Reaction Meeting
given_torn side m torn =
    let due = owed_by m.core m.theirs torn in
    goes_on (record m { stage = Taking; due = due }) (to_torn side m.core m.theirs due)

-- one vertex was refused
abbrev pub with_refused : Meeting → Meeting
with_refused m = record m { refused = raised m.refused }

-- a vertex of the other had this answer: a refused one is counted, and a clash ends the session
abbrev pub answered : Meeting → Result Receipt Cause → Reaction Meeting
answered m (Ok receipt) = goes_on m []
answered m (Err (cause.Clash known)) = ends (with_refused m) [] end.Clash
answered m (Err why) = goes_on (with_refused m) []

-- a vertex is delivered with its verdict
abbrev pub given_vertex : (Vertex → Bool) → Meeting → Vertex → Reaction Meeting
given_vertex judge m v = answered (record m { core = after_in m.core v (judge v) }) (answer_in m.core v (judge v))

-- the other has nothing more to say
abbrev pub finished : Side → Meeting → Reaction Meeting
finished side m = ends m (to_done side m.due) end.Done

-- a frame where the other is to greet
abbrev pub at_greeting : Side → Meeting → ℕ → MeetingFrame → Reaction Meeting
at_greeting side m at (frame.Hello instance) = greeted side m instance
at_greeting side m at f = not_due m at

-- a frame where the other is to say what it has of each lane
abbrev pub at_telling : Side → Meeting → ℕ → MeetingFrame → Reaction Meeting
at_telling side m at (frame.Summary theirs) = told side m theirs
at_telling side m at f = not_due m at

-- a frame where the other is to say which validators are torn for it
abbrev pub at_tearing : Side → Meeting → ℕ → MeetingFrame → Reaction Meeting
at_tearing side m at (frame.Torn torn) = given_torn side m torn
at_tearing side m at f = not_due m at

-- a frame where the other hands over vertices, up to its Done
abbrev pub at_taking : Side → (Vertex → Bool) → Meeting → ℕ → MeetingFrame → Reaction Meeting
at_taking side judge m at (frame.Vertex v) = given_vertex judge m v
at_taking side judge m at frame.Done = finished side m
at_taking side judge m at f = not_due m at

-- a frame, by what the node waits for
abbrev pub at_stage : Stage → Side → (Vertex → Bool) → Meeting → ℕ → MeetingFrame → Reaction Meeting
at_stage Greeting side judge m at f = at_greeting side m at f
at_stage Telling side judge m at f = at_telling side m at f
at_stage Tearing side judge m at f = at_tearing side m at f
at_stage Taking side judge m at f = at_taking side judge m at f

-- a frame
unfoldable pub meet_step : Side → (Vertex → Bool) → Meeting → Placed → Reaction Meeting
meet_step side judge m f = at_stage m.stage side judge m f.at f.frame

-- The session of a node on this side, which had received this and gives vertices these verdicts, with a peer that sends
-- these bytes.
abbrev pub met : Side → CoreState → (Vertex → Bool) → List ℕ → Talk Meeting
met side c judge bytes = talk_over (length c.config.weights) (first_word side c) (meet_step side judge) (begun c) bytes

-- the bytes of all that it says in it
abbrev pub met_said : Side → CoreState → (Vertex → Bool) → List ℕ → List ℕ
met_said side c judge bytes = sent_bytes (met side c judge bytes).said
