-- That there are meetings of two nodes, after their first words: the statements.
-- Source: ours.
use Rattle.std.specs.Prelude.{◌≡◌, ℕ, ◌≤◌, Bool, true, false, List, [], ◌∷◌, ◌++◌, length, fold, bytes_eq, if◌then◌else◌, Option, Some, None, IsOk}
use Rattle.std.specs.List.{AllByRecursion}
use Rattle.hw_types.specs.declared.unit.Vertex.{Vertex}
use Rattle.hw_types.specs.declared.config.Config.{Config}
use Rattle.hw_types.specs.Below.{Among}
use Rattle.hw_types.specs.Journal.{journal_after, answers_from}
use Rattle.hw_types.specs.Limits.{config_fault}
use Rattle.hw_types.specs.Spelling.{VertexFits}
use Rattle.hw_types.specs.declared.answers.LastQuestion.{LastQuestion}
use Rattle.hw_types.specs.Real.{CoreState, setting_of}
use Rattle.hw_keys.specs.Signed.{verdict_of}
use Rattle.hw_link.specs.Frames.{byte_limit}
use Rattle.hw_agree.specs.Converge.{due_to}
use Rattle.hw_session.specs.Make.{own_vertex, entry_for, with_entry}
use Rattle.hw_log.specs.Log.{header_bytes}
use Rattle.hw_session.specs.Restart.{HasLog}
use Rattle.hw_session.specs.Standing.{Standing}
use Rattle.hw_meeting.specs.declared.frame.MeetingFrame.{MeetingFrame}
use Rattle.hw_meeting.specs.Frames.{meeting_bytes, IsSaid, MeetingInRange}
use Rattle.hw_meeting_node.specs.declared.end.MeetEnd.TheVariants as met_end
use Rattle.hw_meeting_node.specs.declared.meeter.Side.TheVariants.{Caller, Host}
use Rattle.hw_meeting_node.specs.Frames.{sent_bytes}
use Rattle.hw_meeting_node.specs.Meeting.{told_of, torn_by}
use Rattle.hw_meeting_node.specs.Laws.{judged, all_words, node_of, HaveMet}
use Rattle.hw_service.specs.Scene.{DoorSeen, door_seen}
use Rattle.hw_service.specs.Meets.{NodeMeets}
use Rattle.hw_run_laws.specs.Calls.{at_door}
use Rattle.hw_run_laws.specs.Members.{alone, first_standing, first_block}

-- ---- any two nodes

-- the frame keeps the limits of its format
pub record MayBeSaid (validators : ℕ) (f : MeetingFrame) : Type 0 where
  pub said : IsSaid validators f
  pub range : MeetingInRange f
  pub short : length (meeting_bytes f) ≤ 1048576

-- all that the one node has to say to the other
abbrev pub words_to : CoreState → CoreState → List MeetingFrame
words_to c d = all_words c (told_of d) (torn_by d (told_of c))

-- the node with these vertices, each with its verdict
abbrev pub with_all : CoreState → (Vertex → Bool) → List Vertex → CoreState
with_all c judge vertices = record c { journal = fold (journal_after (setting_of c.config)) c.journal (judged judge vertices) }

-- what the one node says keeps the limits, and the other refuses nothing that is due to it
pub record MayBeTold (c d : CoreState) (judge : Vertex → Bool) : Type 0 where
  pub fit : (v : Vertex) → Among v c.journal → VertexFits v
  pub words : AllByRecursion (MayBeSaid (length c.config.weights)) (words_to c d)
  pub short : length (sent_bytes (words_to c d)) ≤ byte_limit
  pub takes : AllByRecursion (λ a. IsOk a) (answers_from (setting_of d.config) d.journal (judged judge (due_to (setting_of c.config) c.journal d.journal)))

-- Where two nodes of one configuration can say to each other all that is due, whatever they were asked before, they can
-- have met, as a caller and a host. Then each has what was due to it.
abbrev pub MeetingsAreThere : Type 0
MeetingsAreThere = (config : Config) (left right : List (Vertex × Bool)) (asked_left asked_right : Option LastQuestion) (judge_left judge_right : Vertex → Bool)
    → (let l = node_of config left asked_left in let r = node_of config right asked_right in
    config_fault config ≡ None → MayBeTold l r judge_right → MayBeTold r l judge_left
    → HaveMet config left right judge_left judge_right (with_all l judge_left (due_to (setting_of config) r.journal l.journal)) (with_all r judge_right (due_to (setting_of config) l.journal r.journal)))

-- ---- one that brings a block

-- the first block of the one validator, signed
abbrev pub one_block : Vertex
one_block = own_vertex first_standing.node (first_block (120 ∷ []))

-- its node, with the block in its journal and in its log
abbrev pub has_block : Standing
has_block = record {
  node = with_entry first_standing.node one_block;
  held = λ name. if bytes_eq name first_standing.node.log then Some (header_bytes 2 alone ++ entry_for first_standing.node one_block) else first_standing.held name;
}

-- the verdicts by the keys
abbrev pub by_keys : Vertex → Bool
by_keys = verdict_of first_standing.node.keys

-- a door that reports no session,
abbrev pub no_session : DoorSeen
no_session = door_seen (Some []) 0 0 0

-- and one that reports a session with this address, in which the node read these frames and said those
abbrev pub one_session : Option (List ℕ) → List MeetingFrame → List MeetingFrame → DoorSeen
one_session address heard said = door_seen (Some (record { address = address; read = sent_bytes heard; written = sent_bytes said; failed = false } ∷ [])) 0 0 0

-- A node that has the block dials a new one, and both meetings end as done. Only the new one took a vertex: it is in
-- its log, as it is in the other's.
pub record OneMeets : Type 0 where
  pub due : due_to (setting_of alone) has_block.node.core.journal [] ≡ one_block ∷ []
  pub met : HaveMet alone ((one_block, true) ∷ []) [] by_keys by_keys has_block.node.core has_block.node.core
  pub calls : NodeMeets Caller (Some []) true (at_door has_block no_session) (at_door has_block (one_session (Some []) (words_to first_standing.node.core has_block.node.core) (words_to has_block.node.core first_standing.node.core))) (met_end.Done 0)
  pub hosts : NodeMeets Host None true (at_door first_standing no_session) (at_door has_block (one_session None (words_to has_block.node.core first_standing.node.core) (words_to first_standing.node.core has_block.node.core))) (met_end.Done 0)
  pub log : HasLog has_block.node (has_block.held has_block.node.log)
