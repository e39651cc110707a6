-- A session as a talk: a node answers frame by frame.
-- Source: ours.
use Rattle.std.specs.Prelude.{◌≡◌, ℕ, ◌-◌, ◌≤◌, List, [], ◌∷◌, length, take, Option, Some, None}
use Rattle.std.specs.List.{flat_map}
use Rattle.hw_types.specs.declared.answers.Frame.{Frame}
use Rattle.hw_link.specs.declared.end.SessionEnd.{SessionEnd}
use Rattle.hw_link.specs.declared.end.SessionEnd.TheVariants.{ByteLimit, LinkFault, AppendFault, OutOfMemory}
use Rattle.hw_link.specs.Frames.{Placed, Frames, sent_bytes}

-- what a node does at a frame: its state after it, what it says, and how the session ends, if it does
pub record Reaction (S : Type 0) : Type 0 where
  pub state : S
  pub says : List Frame
  pub end : Option SessionEnd

-- it says this and reads on
abbrev pub goes_on : {S : Type 0} → S → List Frame → Reaction S
goes_on state says = record { state = state; says = says; end = None }

-- it says this, and the session ends
abbrev pub ends : {S : Type 0} → S → List Frame → SessionEnd → Reaction S
ends state says end = record { state = state; says = says; end = Some end }

-- what came of a session: the node's state, what it said to each frame, and how it ended
pub record Talk (S : Type 0) : Type 0 where
  pub state : S
  pub said : List (List Frame)
  pub end : SessionEnd

-- a talk that begins with this reaction, and goes on by the other unless the reaction ends it
abbrev pub with_reaction : {S : Type 0} → Reaction S → (S → Talk S) → Talk S
with_reaction first others = elim first.end [
  | Some e ↦ record { state = first.state; said = first.says ∷ []; end = e }
  | None ↦ record { state = (others first.state).state; said = first.says ∷ (others first.state).said; end = (others first.state).end }
]

-- frame by frame, up to the end that a frame brings or the one after all frames
unfoldable pub talk : {S : Type 0} → (S → Placed → Reaction S) → SessionEnd → S → List Placed → Talk S
talk step end state [] = record { state = state; said = []; end = end }
talk step end state (f ∷ fs) = with_reaction (step state f) (λ next. talk step end next fs)

-- the talk over what a peer sent, with the first word of the node before it
abbrev pub talk_over : {S : Type 0} → List Frame → (S → Placed → Reaction S) → S → Frames → Talk S
talk_over first step state frames = let t = talk step frames.end state frames.given in record t { said = first ∷ t.said }

-- ---- the bytes

-- all that was said
abbrev pub said_bytes : List (List Frame) → List ℕ
said_bytes said = flat_map sent_bytes said

-- it is a prefix of what was said
abbrev pub IsPrefixOf : List ℕ → List ℕ → Type 0
IsPrefixOf bytes all = (n : ℕ) × (bytes ≡ take n all)

-- all but the last
abbrev pub before_last : List (List Frame) → List (List Frame)
before_last said = take (length said - 1) said

-- The bytes written in a session that ended so: all that was said. Where an append failed, the last frame has no
-- answer. After a fault of the link, or out of memory, they are a prefix of what was said. At the byte limit the answer
-- to the last frame may be cut.
abbrev pub IsWritten : SessionEnd → List (List Frame) → List ℕ → Type 0
IsWritten LinkFault said bytes = IsPrefixOf bytes (said_bytes said)
IsWritten AppendFault said bytes = bytes ≡ said_bytes (before_last said)
IsWritten OutOfMemory said bytes = IsPrefixOf bytes (said_bytes said)
IsWritten ByteLimit said bytes = IsPrefixOf bytes (said_bytes said) × (length (said_bytes (before_last said)) ≤ length bytes)
IsWritten _ said bytes = bytes ≡ said_bytes said
