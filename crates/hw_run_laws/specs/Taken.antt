-- What a node takes in a session: the vertices that are handed to it.
-- Source: ours.
use Rattle.std.specs.Prelude.{◌≡◌, ℕ, List, [], ◌∷◌, ◌++◌, Option, Some, None}
use Rattle.hw_types.specs.declared.unit.Vertex.{Vertex}
use Rattle.hw_types.specs.declared.answers.Frame.{Frame}
use Rattle.hw_link.specs.declared.end.SessionEnd.{SessionEnd}
use Rattle.hw_link.specs.declared.end.SessionEnd.TheVariants as end
use Rattle.hw_link.specs.Frames.{Placed, frames_of}
use Rattle.hw_link.specs.Talk.{Reaction}
use Rattle.hw_session.specs.declared.stage.PeerMark.{PeerMark}
use Rattle.hw_session.specs.Node.{NodeState}
use Rattle.hw_session.specs.Serving.{serve_step, served}
use Rattle.hw_session.specs.Driving.{greeting, drive_step, driven}
use Rattle.hw_service.specs.Meets.{after_all}
use Rattle.hw_run_laws.specs.Restart.{vertex_in, vertices_sent}

-- ---- the vertices of a peer

-- these vertices, after another one if there is one
abbrev pub behind : Option Vertex → List Vertex → List Vertex
behind None vs = vs
behind (Some v) vs = v ∷ vs

-- the vertex of a frame that ends the session; of a frame that isn't due none is taken
abbrev pub taken_last : Frame → SessionEnd → List Vertex
taken_last f (end.BadFrame at) = []
taken_last f e = behind (vertex_in f) []

-- the vertex of a frame, and these after it where the session goes on
abbrev pub taken_then : Frame → Option SessionEnd → List Vertex → List Vertex
taken_then f None vs = behind (vertex_in f) vs
taken_then f (Some e) vs = taken_last f e

-- the vertices of these frames that a node takes which reacts so, in order
unfoldable pub taken_over : {S : Type 0} → (S → Placed → Reaction S) → S → List Placed → List Vertex
taken_over step state [] = []
taken_over step state (f ∷ fs) = taken_then f.frame (step state f).end (taken_over step (step state f).state fs)

-- The vertices that a node takes where it serves a peer that sends these bytes, in order,
abbrev pub taken_served : NodeState → List ℕ → List Vertex
taken_served n bytes = taken_over serve_step n (frames_of bytes).given

-- and where it drives one.
abbrev pub taken_driven : NodeState → PeerMark → List ℕ → List Vertex
taken_driven n mark bytes = taken_over drive_step (greeting n mark) (frames_of bytes).given

-- ---- what that does

-- the others are those of the ones, and more after them
abbrev pub AreFirst : List Vertex → List Vertex → Type 0
AreFirst vs all = (more : List Vertex) × (all ≡ vs ++ more)

-- These vertices are handed to a node that serves, one after the other, and nothing else changes it. They are the first
-- that the peer sends.
abbrev pub ServedTakesThese : Type 0
ServedTakesThese = (n : NodeState) (bytes : List ℕ) → ((served n bytes).state ≡ after_all n (taken_served n bytes)) × AreFirst (taken_served n bytes) (vertices_sent bytes)

-- The same of a node that drives.
abbrev pub DrivenTakesThese : Type 0
DrivenTakesThese = (n : NodeState) (mark : PeerMark) (bytes : List ℕ) → ((driven n mark bytes).state.node ≡ after_all n (taken_driven n mark bytes)) × AreFirst (taken_driven n mark bytes) (vertices_sent bytes)
