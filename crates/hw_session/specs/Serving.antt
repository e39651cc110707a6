-- What a node says to a peer that has dialled it.
-- Source: ours.
use Rattle.std.specs.Prelude.{ℕ, ◌+◌, ◌==◌, Bool, true, false, List, [], ◌∷◌, ◌++◌, length, take, drop, map, Result, Ok, Err, if◌then◌else◌}
use Rattle.std.specs.List.{flat_map}
use Rattle.hw_types.specs.declared.unit.Vertex.{Vertex}
use Rattle.hw_types.specs.declared.unit.Vertex.TheVariants as vertex
use Rattle.hw_types.specs.declared.unit.Need.{Need}
use Rattle.hw_types.specs.declared.answers.Frame.{Frame}
use Rattle.hw_types.specs.declared.answers.Frame.TheVariants as frame
use Rattle.hw_types.specs.declared.answers.Receipt.{Receipt}
use Rattle.hw_types.specs.declared.answers.Receipt.TheVariants as receipt
use Rattle.hw_types.specs.declared.answers.Cause.{Cause}
use Rattle.hw_types.specs.declared.answers.Cause.TheVariants as cause
use Rattle.hw_types.specs.Graph.{digest_eq}
use Rattle.hw_types.specs.Spelling.{digest_of, instance_of}
use Rattle.hw_types.specs.Real.{CoreState}
use Rattle.hw_core.specs.Readers.{missing_needs}
use Rattle.hw_link.specs.declared.end.SessionEnd.TheVariants as end
use Rattle.hw_link.specs.Frames.{Placed, frames_of}
use Rattle.hw_link.specs.Talk.{Reaction, Talk, goes_on, ends, talk_over, said_bytes}
use Rattle.hw_needs.specs.Needs.{vertices_of}
use Rattle.hw_session.specs.Node.{NodeState}
use Rattle.hw_session.specs.Accept.{given_to, taken_by}

-- ---- the answer to each frame

-- 256 of the journal's vertices from a place on
abbrev pub part_from : List Vertex → ℕ → List Vertex
part_from journal place = take 256 (drop place journal)

-- To a Have: these vertices, and the place after the last of them.
abbrev pub answer_to_have : List Vertex → ℕ → List Frame
answer_to_have journal place = map frame.Vertex (part_from journal place) ++ frame.Have (place + length (part_from journal place)) ∷ []

-- the first 256 needs that the vertex misses, if it is a unit
abbrev pub first_missing : CoreState → Vertex → List Need
first_missing c (vertex.Unit u) = take 256 (missing_needs c (digest_of u.unit))
first_missing c (vertex.Evidence e) = []
first_missing c (vertex.Endorsement e) = []

-- what is wanted of a peer whose vertex had this receipt: what a parked one misses, and else nothing
abbrev pub wanted_by : CoreState → Receipt → Vertex → List Need
wanted_by c (receipt.Parked count) v = first_missing c v
wanted_by c (receipt.Admitted count) v = []
wanted_by c (receipt.Dropped rule) v = []
wanted_by c receipt.Repeat v = []

-- two different units have one digest
abbrev pub is_clash : Cause → Bool
is_clash (cause.Clash d) = true
is_clash c = false

-- To a vertex: a Want. A clash ends the session without an answer. The node is what the vertex left.
abbrev pub answer_to_vertex : NodeState → Vertex → Result Receipt Cause → Reaction NodeState
answer_to_vertex m v (Ok r) = goes_on m (frame.Want (wanted_by m.core r v) ∷ [])
answer_to_vertex m v (Err c) = if is_clash c then ends m [] end.Clash else goes_on m (frame.Want [] ∷ [])

-- a peer's vertex is delivered with its verdict, and answered
abbrev pub serve_vertex : NodeState → Vertex → Reaction NodeState
serve_vertex n v = answer_to_vertex (taken_by n v (given_to n v)) v (given_to n v)

-- the vertices, or the need as missing where there is none
abbrev pub sent_for : Need → List Vertex → List Frame
sent_for need [] = frame.Missing need ∷ []
sent_for need (v ∷ vs) = map frame.Vertex (v ∷ vs)

-- To a Want: what there is for each need, and how long the journal is.
abbrev pub answer_to_want : CoreState → List Need → List Frame
answer_to_want c needs = flat_map (λ need. sent_for need (vertices_of c need)) needs ++ frame.Have (length c.journal) ∷ []

-- ---- serving

-- the first frame, which is a Hello of the own instance
abbrev pub serve_first : NodeState → Frame → Reaction NodeState
serve_first n (frame.Hello instance) =
    if digest_eq instance (instance_of n.core.config) then goes_on n (frame.Hello (instance_of n.core.config) ∷ []) else ends n [] end.WrongInstance
serve_first n f = ends n [] (end.BadFrame 0)

-- a frame after the first one
abbrev pub serve_frame : NodeState → ℕ → Frame → Reaction NodeState
serve_frame n at (frame.Hello instance) = ends n [] (end.BadFrame at)
serve_frame n at (frame.Vertex v) = serve_vertex n v
serve_frame n at (frame.Have place) = goes_on n (answer_to_have n.core.journal place)
serve_frame n at (frame.Want needs) = goes_on n (answer_to_want n.core needs)
serve_frame n at (frame.Missing need) = goes_on n []
serve_frame n at frame.Done = ends n (frame.Done ∷ []) end.Done

-- a frame; the first one begins at place 0
unfoldable pub serve_step : NodeState → Placed → Reaction NodeState
serve_step n f = if f.at == 0 then serve_first n f.frame else serve_frame n f.at f.frame

-- The session in which a node serves a peer that sends these bytes.
abbrev pub served : NodeState → List ℕ → Talk NodeState
served n bytes = talk_over [] serve_step n (frames_of bytes)

-- the bytes of all that is said in it
abbrev pub served_said : NodeState → List ℕ → List ℕ
served_said n bytes = said_bytes (served n bytes).said
