-- Laws of meetings: the statements.
-- Source: ours.
use Rattle.std.specs.Prelude.{◌≡◌, ◌⊎◌, ℕ, ◌<◌, ◌≤◌, ◌^◌, Bool, List, ◌∷◌, ◌++◌, length, take, map, filter_map, fold, is_ok, Option, Some, None, Result, if◌then◌else◌}
use Rattle.std.specs.List.{All}
use Rattle.hw_types.specs.declared.unit.Vertex.{Vertex}
use Rattle.hw_types.specs.declared.config.Config.{Config}
use Rattle.hw_types.specs.declared.answers.Receipt.{Receipt}
use Rattle.hw_types.specs.declared.answers.Cause.{Cause}
use Rattle.hw_types.specs.Journal.{received_of, journal_after, journal_of, answers_from}
use Rattle.hw_types.specs.Below.{Among}
use Rattle.hw_types.specs.Limits.{config_fault}
use Rattle.hw_types.specs.Spelling.{instance_of, VertexFits}
use Rattle.hw_types.specs.declared.answers.LastQuestion.{LastQuestion}
use Rattle.hw_types.specs.Real.{CoreState, setting_of}
use Rattle.hw_types.specs.laws.StateLaws.{SaysTheSame, HasSameState}
use Rattle.hw_codec.specs.Ranges.{VertexInRange}
use Rattle.hw_io.specs.Faults.{Rose, raised}
use Rattle.hw_link.specs.declared.end.SessionEnd.TheVariants as by
use Rattle.hw_link.specs.Frames.{byte_limit}
use Rattle.hw_agree.specs.declared.summary.LaneSummary.{LaneSummary}
use Rattle.hw_agree.specs.Converge.{UnitsClash}
use Rattle.hw_meeting.specs.declared.frame.MeetingFrame.{MeetingFrame}
use Rattle.hw_meeting.specs.declared.frame.MeetingFrame.TheVariants as frame
use Rattle.hw_meeting.specs.Frames.{MeetingInRange}
use Rattle.hw_meeting_node.specs.Frames.{Placed}
use Rattle.hw_meeting_node.specs.declared.end.MeetEnd.{MeetEnd}
use Rattle.hw_meeting_node.specs.declared.end.MeetEnd.TheVariants as end
use Rattle.hw_meeting_node.specs.declared.meeter.Side.{Side}
use Rattle.hw_meeting_node.specs.declared.meeter.Side.TheVariants.{Caller, Host}
use Rattle.hw_meeting_node.specs.Talk.{frames_of}
use Rattle.hw_meeting_node.specs.Meeting.{told_of, torn_by, owed_by, all_due, met}
use Rattle.hw_meeting_node.specs.Sessions.{Meets, IsLinkEnd, IsTakerEnd}
use Rattle.hw_meeting_node.specs.Taking.{taken_in}

-- ---- a meeting that is done

-- the frames in these bytes
abbrev pub heard_in : ℕ → List ℕ → List MeetingFrame
heard_in validators bytes = map (λ f. f.frame) (frames_of validators bytes).given

-- vertices, each with its verdict
abbrev pub judged : (Vertex → Bool) → List Vertex → List (Vertex × Bool)
judged judge vertices = map (λ v. (v, judge v)) vertices

-- how many of these answers refuse
abbrev pub refusals : List (Result Receipt Cause) → ℕ
refusals answers = fold (λ k a. if is_ok a then k else raised k) 0 answers

-- all that a node says that has received this, by what the other says
abbrev pub all_words : CoreState → List LaneSummary → List ℕ → List MeetingFrame
all_words c theirs torn = frame.Hello (instance_of c.config) ∷ frame.Summary (told_of c) ∷ frame.Torn (torn_by c theirs) ∷ all_due (owed_by c theirs torn)

-- The peer said Hello of this instance, what it has of each validator, which are torn for it, vertices, and Done. The
-- node said Hello, what it has of each, which are torn for it, all that is due, and Done. Its journal is the one after
-- these vertices, as many were refused as it counted, and its last question stayed.
pub record WasDone (side : Side) (c : CoreState) (judge : Vertex → Bool) (bytes : List ℕ) : Type 0 where
  pub theirs : List LaneSummary
  pub torn : List ℕ
  pub vertices : List Vertex
  pub rest : List MeetingFrame
  pub heard : heard_in (length c.config.weights) bytes ≡ frame.Hello (instance_of c.config) ∷ frame.Summary theirs ∷ frame.Torn torn ∷ (map frame.Vertex vertices ++ frame.Done ∷ rest)
  pub said : (met side c judge bytes).said ≡ all_words c theirs torn
  pub config : (met side c judge bytes).state.core.config ≡ c.config
  pub journal : (met side c judge bytes).state.core.journal ≡ fold (journal_after (setting_of c.config)) c.journal (judged judge vertices)
  pub asked : (met side c judge bytes).state.core.asked ≡ c.asked
  pub refused : (met side c judge bytes).state.refused ≡ refusals (answers_from (setting_of c.config) c.journal (judged judge vertices))

-- So it is where a meeting ended as done.
abbrev pub MeetingsAreDone : Type 0
MeetingsAreDone = (side : Side) (c : CoreState) (judge : Vertex → Bool) (bytes : List ℕ) → (met side c judge bytes).end ≡ by.Done → WasDone side c judge bytes

-- ---- what was taken

-- The journal after these bytes is the one before them with the vertices that were taken, in order. As many were
-- refused as the meeting counted, and the node's last question stayed.
pub record HasTakenAll (side : Side) (c : CoreState) (judge : Vertex → Bool) (bytes : List ℕ) : Type 0 where
  pub config : (met side c judge bytes).state.core.config ≡ c.config
  pub journal : (met side c judge bytes).state.core.journal ≡ fold (journal_after (setting_of c.config)) c.journal (judged judge (taken_in side c judge bytes))
  pub asked : (met side c judge bytes).state.core.asked ≡ c.asked
  pub refused : (met side c judge bytes).state.refused ≡ refusals (answers_from (setting_of c.config) c.journal (judged judge (taken_in side c judge bytes)))

-- So it is whatever a peer sends.
abbrev pub MeetingsTake : Type 0
MeetingsTake = (side : Side) (c : CoreState) (judge : Vertex → Bool) (bytes : List ℕ) → HasTakenAll side c judge bytes

-- ---- what was sent and said

-- the vertex of a frame, if it brings one
abbrev pub vertex_in : MeetingFrame → Option Vertex
vertex_in (frame.Vertex v) = Some v
vertex_in (frame.Hello instance) = None
vertex_in (frame.Summary parts) = None
vertex_in (frame.Torn numbers) = None
vertex_in frame.Done = None

-- the vertices of these frames, in order
abbrev pub vertices_among : List Placed → List Vertex
vertices_among frames = filter_map (λ (f : Placed). vertex_in f.frame) frames

-- the vertices that a peer sends by these bytes, in order
abbrev pub vertices_sent : ℕ → List ℕ → List Vertex
vertices_sent validators bytes = vertices_among (frames_of validators bytes).given

-- The vertices that a node takes are the first that the peer sends.
abbrev pub MeetingsTakeTheFirst : Type 0
MeetingsTakeTheFirst = (side : Side) (c : CoreState) (judge : Vertex → Bool) (bytes : List ℕ) → (count : ℕ) × (taken_in side c judge bytes ≡ take count (vertices_sent (length c.config.weights) bytes))

-- Each vertex that a node says was in its journal before the meeting.
abbrev pub MeetingsSayWhatStood : Type 0
MeetingsSayWhatStood = (side : Side) (c : CoreState) (judge : Vertex → Bool) (bytes : List ℕ) (v : Vertex) → Among (frame.Vertex v) (met side c judge bytes).said → Among v c.journal

-- ---- completeness

-- Where the peer sends the frames that are due, with what it would still send, it doesn't end, and no count of the
-- outside rises. Then a meeting ends as done, or out of memory.
abbrev pub MeetingsAreComplete : Type 0
MeetingsAreComplete = (side : Side) (c : CoreState) (judge : Vertex → Bool) (read written : List ℕ) (m : CoreState) (ends_old ends_new : ℕ) (e : MeetEnd) → Meets side c judge read written m ends_old ends_new e
    → (more : List ℕ) → length (read ++ more) ≤ byte_limit → (met side c judge (read ++ more)).end ≡ by.Done → (ends_new ≡ raised ends_old → ⊥)
    → (door_old door_new : ℕ) → IsLinkEnd door_old door_new e → (Rose door_old door_new → ⊥)
    → (taker_old taker_new : ℕ) → IsTakerEnd taker_old taker_new e → (Rose taker_old taker_new → ⊥)
    → ((refused : ℕ) × (e ≡ end.Done refused)) ⊎ (e ≡ end.OutOfMemory)

-- ---- ranges

-- All that a node says in a meeting that ended as done is in the ranges of its types, where its journal's length and
-- each of its vertices are.
abbrev pub MeetingsSayInRange : Type 0
MeetingsSayInRange = (side : Side) (c : CoreState) (judge : Vertex → Bool) (bytes : List ℕ) → config_fault c.config ≡ None → length c.journal < 2 ^ 64 → All VertexInRange c.journal
    → (met side c judge bytes).end ≡ by.Done → All MeetingInRange (met side c judge bytes).said

-- ---- convergence

-- a node that these deliveries reached, and that was asked this last
abbrev pub node_of : Config → List (Vertex × Bool) → Option LastQuestion → CoreState
node_of config deliveries asked = record { config = config; journal = journal_of (setting_of config) deliveries; asked = asked }

-- A caller and a host of one configuration, whatever they were asked before, met, as a meeting promises it. Both
-- meetings ended as done with nothing refused, and each read what the other wrote. Each number that was written is in
-- its type's range. The units of the two journals keep the limits of their format, as a node's do.
pub record HaveMet (config : Config) (left right : List (Vertex × Bool)) (judge_left judge_right : Vertex → Bool) (one other : CoreState) : Type 0 where
  pub asked_left : Option LastQuestion
  pub asked_right : Option LastQuestion
  pub read_left : List ℕ
  pub read_right : List ℕ
  pub ends_left : ℕ × ℕ
  pub ends_right : ℕ × ℕ
  pub left_met : Meets Caller (node_of config left asked_left) judge_left read_left read_right one ends_left.0 ends_left.1 (end.Done 0)
  pub right_met : Meets Host (node_of config right asked_right) judge_right read_right read_left other ends_right.0 ends_right.1 (end.Done 0)
  pub lawful : config_fault config ≡ None
  pub left_fit : (v : Vertex) → Among v (node_of config left asked_left).journal → VertexFits v
  pub right_fit : (v : Vertex) → Among v (node_of config right asked_right).journal → VertexFits v
  pub left_in_range : All MeetingInRange (met Caller (node_of config left asked_left) judge_left read_left).said
  pub right_in_range : All MeetingInRange (met Host (node_of config right asked_right) judge_right read_right).said

-- Then the two journals say the same, or two different units of one digest are in the two.
abbrev pub MeetingsConverge : Type 0
MeetingsConverge = (config : Config) (left right : List (Vertex × Bool)) (judge_left judge_right : Vertex → Bool) (one other : CoreState) → HaveMet config left right judge_left judge_right one other
    → SaysTheSame (setting_of config) one.journal other.journal ⊎ UnitsClash (setting_of config) one.journal other.journal

-- And the two nodes are in one state, or so.
abbrev pub MetNodesAreOne : Type 0
MetNodesAreOne = (config : Config) (left right : List (Vertex × Bool)) (judge_left judge_right : Vertex → Bool) (one other : CoreState) → HaveMet config left right judge_left judge_right one other
    → HasSameState config (received_of (setting_of config) one.journal) (received_of (setting_of config) other.journal) ⊎ UnitsClash (setting_of config) one.journal other.journal
