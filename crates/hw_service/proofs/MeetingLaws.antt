-- A meeting leaves the configuration of a node and its last question as they are, and its journal only grows.
use Rattle.std.proofs.Common.{◌≡◌, ◌⊎◌, ℕ, Bool, List, [], ◌∷◌, ◌++◌, Option, inl, inr, refl, ap, ◌∙◌}
use Rattle.hw_types.specs.declared.unit.Vertex.{Vertex}
use Rattle.std.proofs.lemmas.List.{append_assoc}
use Rattle.hw_session.specs.Node.{NodeState}
use Rattle.hw_session.specs.Accept.{given_to}
use Rattle.hw_session.specs.Grows.{Logs, LogsAllBut}
use Rattle.hw_session.proofs.ConfigLaws.{taken_asked}
use Rattle.hw_meeting_node.specs.declared.end.MeetEnd.{MeetEnd}
use Rattle.hw_meeting_node.specs.declared.end.MeetEnd.TheVariants as end
use Rattle.hw_meeting_node.specs.declared.meeter.Side.{Side}
use Rattle.hw_service.specs.Meets.{after_vertex, after_all, vertices_of, after_meeting, Leaves, NodeMeets, NodeMeetsNone}
use Rattle.hw_service.specs.Talk.{Talker, HasGrown}
use Rattle.hw_service.proofs.GrowLaws.{behind_logs, grown_same}

-- the vertices of a peer leave the last question
all_asked : (n : NodeState) (vs : List Vertex) → (after_all n vs).core.asked ≡ n.core.asked
all_asked n [] = refl
all_asked n (v ∷ vs) = all_asked (after_vertex n v) vs ∙ taken_asked n v (given_to n v)

module _ (tells : Bool) (n m : NodeState) (old new : List ℕ → Option (List ℕ)) (config : m.core.config ≡ n.core.config) where
  logs_grow : (side : Side) (read : List ℕ) → m ≡ after_meeting side n read → Logs n m tells old new → HasGrown n.core m.core
  logs_grow side read is logs = behind_logs tells n m old new config (ap (λ (k : NodeState). k.core.asked) is ∙ all_asked n (vertices_of side n read)) logs

  cut_grows : (side : Side) (read : List ℕ) (v : Vertex) → LogsAllBut n (after_meeting side n read) v m tells old new → HasGrown n.core m.core
  cut_grows side read v logs = record {
    config = config;
    asked = ap (λ (k : NodeState). k.core.asked) logs.unlogged.1 ∙ all_asked n (vertices_of side n read);
    journal = (
      logs.vertices ++ v ∷ [],
      ap (λ (k : NodeState). k.core.journal) logs.unlogged.1 ∙ ap (λ (j : List Vertex). j ++ v ∷ []) logs.gains.journal ∙ append_assoc n.core.journal logs.vertices (v ∷ []),
    );
  }

  leaves_grows : (e : MeetEnd) (side : Side) (read : List ℕ) → Leaves e side n read m tells old new → HasGrown n.core m.core
  leaves_grows (end.Done refused) side read left = logs_grow side read left.0 left.1
  leaves_grows end.EndOfInput side read left = logs_grow side read left.0 left.1
  leaves_grows end.WrongInstance side read left = logs_grow side read left.0 left.1
  leaves_grows (end.BadFrame at) side read left = logs_grow side read left.0 left.1
  leaves_grows end.LinkFault side read left = logs_grow side read left.0 left.1
  leaves_grows end.ByteLimit side read left = logs_grow side read left.0 left.1
  leaves_grows end.Clash side read left = logs_grow side read left.0 left.1
  leaves_grows end.AppendFault side read s = cut_grows side s.first s.vertex s.logs
  leaves_grows end.OutOfMemory side read (inl s) = logs_grow side s.first s.state s.logs
  leaves_grows end.OutOfMemory side read (inr s) = cut_grows side s.first s.vertex s.logs

pub meets_grows : (side : Side) (address : Option (List ℕ)) (tells : Bool) (old new : Talker) (e : MeetEnd) → new.node.core.config ≡ old.node.core.config → NodeMeets side address tells old new e ⊎ NodeMeetsNone tells old new e
    → HasGrown old.node.core new.node.core
meets_grows side address tells old new e config (inl s) = leaves_grows tells old.node new.node old.files new.files config e side s.meets.read s.left
meets_grows side address tells old new e config (inr s) = grown_same old.node new.node s.state
