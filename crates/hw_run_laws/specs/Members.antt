-- That there is what these laws speak of: beginnings, lives, sessions and cut logs.
-- Source: ours.
use Rattle.std.specs.Prelude.{◌≡◌, ◌≢◌, ℕ, ◌<◌, ◌≤◌, ◌^◌, true, List, [], ◌∷◌, ◌++◌, length, Option, Some, None}
use Rattle.hw_types.specs.declared.unit.Digest.{Digest}
use Rattle.hw_types.specs.declared.unit.Obs.TheVariants.{Absent}
use Rattle.hw_types.specs.declared.unit.SignedUnit.{SignedUnit}
use Rattle.hw_types.specs.declared.unit.Vertex.{Vertex}
use Rattle.hw_types.specs.declared.unit.Vertex.TheVariants as vertex
use Rattle.hw_types.specs.declared.config.Config.{Config}
use Rattle.hw_types.specs.declared.config.Leaders.TheVariants.{Table}
use Rattle.hw_types.specs.declared.answers.Frame.TheVariants as frame
use Rattle.hw_types.specs.declared.answers.Plan.{Plan}
use Rattle.hw_types.specs.declared.answers.PlanKind.TheVariants.{Propose}
use Rattle.hw_types.specs.Below.{Among}
use Rattle.hw_types.specs.Culprits.{signed_in}
use Rattle.hw_types.specs.Journal.{is_accepted}
use Rattle.hw_types.specs.Limits.{config_fault}
use Rattle.hw_types.specs.Spelling.{frame_bytes, instance_of, VertexFits}
use Rattle.hw_codec.specs.Ranges.{AreBytes, ConfigInRange, VertexInRange}
use Rattle.hw_keys.specs.Signed.{endorsement_signature}
use Rattle.hw_core.specs.Readers.{unmet_in}
use Rattle.hw_link.specs.declared.end.SessionEnd.TheVariants as end
use Rattle.hw_link.specs.Frames.{framed}
use Rattle.hw_log.specs.Log.{header_bytes}
use Rattle.hw_session.specs.declared.stage.PeerMark.{PeerMark}
use Rattle.hw_session.specs.Node.{NodeState, new_node, IsSound}
use Rattle.hw_session.specs.Accept.{given_to, taken_by, IsTakenIn}
use Rattle.hw_session.specs.Make.{planned_by, own_vertex, IsToMake}
use Rattle.hw_session.specs.Serving.{part_from, served}
use Rattle.hw_session.specs.Sessions.{Serves}
use Rattle.hw_session.specs.Driving.{driven}
use Rattle.hw_session.specs.Drives.{Drives}
use Rattle.hw_session.specs.Standing.{Standing, standing, driver_standing}
use Rattle.hw_meeting_node.specs.declared.meeter.Side.{Side}
use Rattle.hw_run_laws.specs.Calls.{Attempt, makes, accepts, serves, drives, meets, StartsAgain, Call, goes_on, starts, gives_up, AreCalls, IsWhole, IsReady, IsSaid}
use Rattle.hw_run_laws.specs.Complete.{IsUndisturbed}
use Rattle.hw_run_laws.specs.Restart.{HasCutLog}

-- ---- beginnings

-- A new node, with a log of its header alone, is sound and ready, whichever validator's it is.
abbrev pub NewNodesAreReady : Type 0
NewNodesAreReady = (config : Config) (keys : List (List ℕ)) (name : List ℕ) (held : List ℕ → Option (List ℕ)) (me : ℕ)
    → config_fault config ≡ None → ConfigInRange config → length keys ≡ length config.weights → held name ≡ Some (header_bytes 2 config)
    → IsSound (new_node config keys name) × IsReady me (record { node = new_node config keys name; held = held })

-- one validator, of weight 1
abbrev pub alone : Config
alone = record { weights = 1 ∷ []; ftt = 0; levels = 1; min_exponent = 4; max_exponent = 8; leaders = Table (0 ∷ []); max_records = 131072; max_parked = 4096; end = None }

-- its node, with an empty key and an empty name of the log, before it has made a unit
abbrev pub first_standing : Standing
first_standing = record { node = new_node alone ([] ∷ []) []; held = λ name. Some (header_bytes 2 alone) }

-- its first block, with this value, at the time 16
abbrev pub first_block : List ℕ → Plan
first_block value = record {
  kind = Propose;
  unit = record { instance = instance_of alone; creator = 0; seq = 0; time = 16; exponent = 4; panorama = Absent ∷ []; value = Some value; endorsed = [] };
}

-- its endorsement of a unit
abbrev pub first_endorsement : Digest → Vertex
first_endorsement unit = vertex.Endorsement (record { unit = unit; endorser = 0; signature = endorsement_signature unit 0 [] })

-- This one is sound and ready, no unit waits in it, and it has one to make. It accepts its endorsements, where a peer
-- brings them.
pub record OneBegins : Type 0 where
  pub validator : 0 < length first_standing.node.core.config.weights
  pub sound : IsSound first_standing.node
  pub ready : IsReady 0 first_standing
  pub waits : unmet_in first_standing.node.core ≡ []
  pub to_make : (value : List ℕ) → IsToMake first_standing.node (planned_by first_standing.node 0 16 value) (first_block value)
  pub accepts : (unit : Digest) → is_accepted (given_to first_standing.node (first_endorsement unit)) ≡ true

-- ---- lives

-- What a node does. It makes its unit at this moment with this value, or accepts a vertex that is handed over. Or it
-- serves a peer, drives one to which it has pushed this much, or meets another node.
pub data Deed : Type 0 where
  making : (now : ℕ) (value : List ℕ) → Deed
  accepting : (v : Vertex) → Deed
  serving : Deed
  driving : (mark : PeerMark) → Deed
  meeting : (side : Side) (address : Option (List ℕ)) → Deed

-- A call: the node does this and goes on, stops and starts again, or does this, is given up and starts again.
pub data Turn : Type 0 where
  does : Deed → Turn
  stops : Turn
  drops : Deed → Turn

-- which of these an attempt is
abbrev pub deed_of : {me : ℕ} {a b : Standing} → Attempt me a b → Deed
deed_of (makes now value result d wrote) = making now value
deed_of (accepts v result d wrote fair) = accepting v
deed_of (serves read written ends_old ends_new e d fair) = serving
deed_of (drives mark now read written ends_old ends_new e d fair) = driving mark
deed_of (meets side address from to e d fair) = meeting side address

-- which of these a call is
abbrev pub turn_of : {me : ℕ} {a b : Standing} → Call me a b → Turn
turn_of (goes_on attempt whole) = does (deed_of attempt)
turn_of (starts again) = stops
turn_of (gives_up c attempt sound again) = drops (deed_of attempt)

-- what each of these calls is
abbrev pub turns_of : (me : ℕ) (a : Standing) (more : List Standing) → AreCalls me a more → List Turn
turns_of me a [] calls = []
turns_of me a (b ∷ more) (call, sound, calls) = turn_of call ∷ turns_of me b more calls

-- the vertex holds no unit by the validator
abbrev pub HoldsNone : ℕ → Vertex → Type 0
HoldsNone me v = (x : SignedUnit) → Among x (signed_in v) → x.unit.creator ≢ me

-- The moment and the value of a unit are within the limits of `make`. A vertex that is handed over is within those of
-- its format, whoever signed it, and holds no unit by the validator.
abbrev pub MayBeDone : ℕ → Deed → Type 0
MayBeDone me (making now value) = (now < 2 ^ 63) × (length value ≤ 4096) × AreBytes value
MayBeDone me (accepting v) = VertexInRange v × VertexFits v × HoldsNone me v
MayBeDone me serving = Unit {0}
MayBeDone me (driving mark) = Unit {0}
MayBeDone me (meeting side address) = Unit {0}

-- what the node does in the call, if it does anything, may be done
abbrev pub MayTurn : ℕ → Turn → Type 0
MayTurn me (does deed) = MayBeDone me deed
MayTurn me stops = Unit {0}
MayTurn me (drops deed) = MayBeDone me deed

-- so it is of each of these
abbrev pub MayAllTurn : ℕ → List Turn → Type 0
MayAllTurn me [] = Unit {0}
MayAllTurn me (turn ∷ turns) = MayTurn me turn × MayAllTurn me turns

-- From each node that is sound and ready, with its files, there is a life of whatever calls, one after the other. Its
-- peers send nothing.
abbrev pub LivesAreThere : Type 0
LivesAreThere = (me : ℕ) (a : Standing) (turns : List Turn) → me < length a.node.core.config.weights → IsSound a.node → IsReady me a → MayAllTurn me turns
    → (more : List Standing) × (calls : AreCalls me a more) × (turns_of me a more calls ≡ turns)

-- ---- sessions

-- what a peer of the node's instance sends that has nothing to say
abbrev pub short_session : NodeState → List ℕ
short_session n = framed (frame.Hello (instance_of n.core.config)) ++ framed frame.Done

-- Each node, dialled by such a peer, has a session that nothing disturbs and that ends as Done.
pub record IsWholeServed (n : NodeState) (held : List ℕ → Option (List ℕ)) : Type 0 where
  pub written : List ℕ
  pub serves : Serves true (standing n held) (short_session n) written (standing n held) 0 0 end.Done
  pub ended : (served n (short_session n)).end ≡ end.Done

-- So it is of each node, whatever its files hold.
abbrev pub WholeSessionsAreThere : Type 0
WholeSessionsAreThere = (n : NodeState) (held : List ℕ → Option (List ℕ)) → IsWholeServed n held

-- the marks of a node that has pushed all to a peer, where that has sent this much
abbrev pub told_all : NodeState → ℕ → PeerMark
told_all n pulled = record { pushed = length n.core.journal; pulled = pulled }

-- what such a peer sends that has nothing new
abbrev pub driven_session : NodeState → ℕ → List ℕ
driven_session n pulled = framed (frame.Hello (instance_of n.core.config)) ++ framed (frame.Have pulled) ++ framed frame.Done

-- And so has each node that dials it, where no unit waits.
pub record IsWholeDriven (n : NodeState) (pulled : ℕ) (held : List ℕ → Option (List ℕ)) : Type 0 where
  pub written : List ℕ
  pub drives : Drives true (driver_standing n (told_all n pulled) held) (driven_session n pulled) written (driver_standing n (told_all n pulled) held) 0 0 end.Done
  pub ended : (driven n (told_all n pulled) (driven_session n pulled)).end ≡ end.Done

-- So it is of each node of which no unit waits, whatever its files hold, and however much it pulled before.
abbrev pub WholeDrivesAreThere : Type 0
WholeDrivesAreThere = (n : NodeState) (pulled : ℕ) (held : List ℕ → Option (List ℕ)) → pulled < 2 ^ 64 → unmet_in n.core ≡ [] → IsWholeDriven n pulled held

-- what is reported of the outside of such a session
abbrev pub NothingDisturbs : Type 0
NothingDisturbs = IsUndisturbed 0 0 end.Done

-- To a peer that asks from a place of the journal on, a node says each vertex that is there, and goes on.
abbrev pub VerticesAreSaid : Type 0
VerticesAreSaid = (me : ℕ) (a : Standing) (place : ℕ) (v : Vertex) → place < 2 ^ 64 → Among v (part_from a.node.core.journal place)
    → (attempt : Attempt me a a) × IsSaid attempt v × IsWhole attempt

-- A peer sent the vertex, the node took or refused it, and goes on.
pub record IsTaken (me : ℕ) (a : Standing) (v : Vertex) : Type 0 where
  pub next : Standing
  pub attempt : Attempt me a next
  pub whole : IsWhole attempt
  pub takes : next.node ≡ taken_by a.node v (given_to a.node v)
  pub sound : me < length a.node.core.config.weights → IsSound a.node → IsReady me a → IsSound next.node

-- So it is of each vertex that has room in a frame and holds no unit by the validator, whoever signed it.
abbrev pub VerticesAreTaken : Type 0
VerticesAreTaken = (me : ℕ) (a : Standing) (v : Vertex) → VertexInRange v → VertexFits v → length (frame_bytes (frame.Vertex v)) ≤ 1048576
    → HoldsNone me v → IsTaken me a v

-- ---- cut logs

-- The append of the vertex failed after this many bytes of its entry. The node was given up, and started again from the
-- log mended.
pub record IsTorn (me : ℕ) (a : Standing) (v : Vertex) (count : ℕ) : Type 0 where
  pub torn : Standing
  pub attempt : Attempt me a torn
  pub sound : IsSound torn.node
  pub cut : HasCutLog a.node v (torn.held torn.node.log)
  pub place : cut.count ≡ count
  pub range : VertexInRange v
  pub fits : VertexFits v
  pub next : Standing
  pub again : StartsAgain torn next
  pub goes : IsSound next.node

-- So it may be where a node has a unit to make, wherever that is cut.
abbrev pub TornLogsAreThere : Type 0
TornLogsAreThere = (me : ℕ) (a : Standing) (now : ℕ) (value : List ℕ) (p : Plan) (count : ℕ) → me < length a.node.core.config.weights → IsSound a.node → IsReady me a
    → MayBeDone me (making now value) → IsToMake a.node (planned_by a.node me now value) p → IsTorn me a (own_vertex a.node p) count

-- And so it may be of a vertex that is handed over and that the node accepts.
abbrev pub TornAcceptsAreThere : Type 0
TornAcceptsAreThere = (me : ℕ) (a : Standing) (v : Vertex) (count : ℕ) → me < length a.node.core.config.weights → IsSound a.node → IsReady me a
    → MayBeDone me (accepting v) → IsTakenIn a.node v → (torn : IsTorn me a v count) × (deed_of torn.attempt ≡ accepting v)
