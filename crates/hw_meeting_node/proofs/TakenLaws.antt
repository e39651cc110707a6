-- What a node has received behind the vertices that it took.
use Rattle.std.proofs.Common.{◌≡◌, ℕ, Bool, true, false, cond, List, [], ◌∷◌, ◌++◌, length, Option, Some, None, Result, Ok, Err, refl, sym, ap, subst, ◌∙◌}
use Rattle.std.specs.Prelude.{fold, is_ok}
use Rattle.std.proofs.lemmas.List.{append_assoc, append-nil}
use Rattle.hw_types.specs.declared.unit.Vertex.{Vertex}
use Rattle.hw_types.specs.declared.answers.Receipt.{Receipt}
use Rattle.hw_types.specs.declared.answers.Cause.{Cause}
use Rattle.hw_types.specs.declared.answers.Cause.TheVariants as cause
use Rattle.hw_types.specs.Graph.{digest_eq}
use Rattle.hw_types.specs.Journal.{journal_after, answers_from}
use Rattle.hw_types.specs.Spelling.{instance_of}
use Rattle.hw_types.specs.Real.{CoreState, setting_of, answer_in, after_in}
use Rattle.hw_io.specs.Faults.{raised}
use Rattle.hw_link.specs.declared.end.SessionEnd.{SessionEnd}
use Rattle.hw_link.specs.declared.end.SessionEnd.TheVariants as by
use Rattle.hw_meeting.specs.declared.frame.MeetingFrame.{MeetingFrame}
use Rattle.hw_meeting.specs.declared.frame.MeetingFrame.TheVariants as frame
use Rattle.hw_meeting_node.specs.Frames.{Placed}
use Rattle.hw_meeting_node.specs.declared.meeter.Side.{Side}
use Rattle.hw_meeting_node.specs.declared.meeter.Stage.{Stage}
use Rattle.hw_meeting_node.specs.declared.meeter.Stage.TheVariants as stage
use Rattle.hw_meeting_node.specs.Talk.{Reaction, Talk, goes_on, ends, with_reaction, talk, frames_of}
use Rattle.hw_meeting_node.specs.Meeting.{Meeting, begun, answered, to_hello, at_stage, meet_step}
use Rattle.hw_meeting_node.specs.Taking.{TakingMeeting, vertex_at, taken_then, taking_step, taken_in}
use Rattle.hw_meeting_node.specs.Laws.{judged, MeetingsTake}

-- ---- one frame

-- core and count stay where no vertex is due
abbrev Stays : Meeting → Reaction Meeting → Type 0
Stays m r = (r.state.core ≡ m.core) × (r.state.refused ≡ m.refused)

stays_at : (s : Stage) (side : Side) (judge : Vertex → Bool) (m : Meeting) (at : ℕ) (f : MeetingFrame) → vertex_at s f ≡ None → Stays m (at_stage s side judge m at f)
stays_at stage.Greeting side judge m at (frame.Hello d) none = go (digest_eq d (instance_of m.core.config))
  where
    go : (b : Bool) → Stays m (cond b (goes_on (record m { stage = stage.Telling }) (to_hello side m.core)) (ends m [] by.WrongInstance))
    go true = (refl, refl)
    go false = (refl, refl)
stays_at stage.Greeting side judge m at (frame.Vertex v) none = (refl, refl)
stays_at stage.Greeting side judge m at (frame.Summary parts) none = (refl, refl)
stays_at stage.Greeting side judge m at (frame.Torn numbers) none = (refl, refl)
stays_at stage.Greeting side judge m at frame.Done none = (refl, refl)
stays_at stage.Telling side judge m at (frame.Summary parts) none = (refl, refl)
stays_at stage.Telling side judge m at (frame.Hello d) none = (refl, refl)
stays_at stage.Telling side judge m at (frame.Vertex v) none = (refl, refl)
stays_at stage.Telling side judge m at (frame.Torn numbers) none = (refl, refl)
stays_at stage.Telling side judge m at frame.Done none = (refl, refl)
stays_at stage.Tearing side judge m at (frame.Torn numbers) none = (refl, refl)
stays_at stage.Tearing side judge m at (frame.Hello d) none = (refl, refl)
stays_at stage.Tearing side judge m at (frame.Vertex v) none = (refl, refl)
stays_at stage.Tearing side judge m at (frame.Summary parts) none = (refl, refl)
stays_at stage.Tearing side judge m at frame.Done none = (refl, refl)
stays_at stage.Taking side judge m at (frame.Vertex v) none = absurd cc
stays_at stage.Taking side judge m at frame.Done none = (refl, refl)
stays_at stage.Taking side judge m at (frame.Hello d) none = (refl, refl)
stays_at stage.Taking side judge m at (frame.Summary parts) none = (refl, refl)
stays_at stage.Taking side judge m at (frame.Torn numbers) none = (refl, refl)

-- a vertex is delivered, and counted where it is refused
abbrev counted : ℕ → Result Receipt Cause → ℕ
counted k a = cond (is_ok a) k (raised k)

abbrev Takes : Meeting → Vertex → Bool → Reaction Meeting → Type 0
Takes m v verdict r = (r.state.core ≡ after_in m.core v verdict) × (r.state.refused ≡ counted m.refused (answer_in m.core v verdict))

takes_by : (m : Meeting) (v : Vertex) (verdict : Bool) (a : Result Receipt Cause) → answer_in m.core v verdict ≡ a → Takes m v verdict (answered (record m { core = after_in m.core v verdict }) a)
takes_by m v verdict (Ok r) is = (refl, ap (counted m.refused) (sym is))
takes_by m v verdict (Err cause.BadSignature) is = (refl, ap (counted m.refused) (sym is))
takes_by m v verdict (Err (cause.Local rule)) is = (refl, ap (counted m.refused) (sym is))
takes_by m v verdict (Err (cause.Pair f)) is = (refl, ap (counted m.refused) (sym is))
takes_by m v verdict (Err (cause.Clash known)) is = (refl, ap (counted m.refused) (sym is))
takes_by m v verdict (Err cause.RecordsFull) is = (refl, ap (counted m.refused) (sym is))
takes_by m v verdict (Err cause.ParkFull) is = (refl, ap (counted m.refused) (sym is))
takes_by m v verdict (Err cause.OutOfMemory) is = (refl, ap (counted m.refused) (sym is))

takes_at : (s : Stage) (side : Side) (judge : Vertex → Bool) (m : Meeting) (at : ℕ) (f : MeetingFrame) (v : Vertex) → vertex_at s f ≡ Some v → Takes m v (judge v) (at_stage s side judge m at f)
takes_at stage.Taking side judge m at (frame.Vertex w) v is =
    let same : w ≡ v = cc in
    subst (λ (x : Vertex). Takes m x (judge x) (at_stage stage.Taking side judge m at (frame.Vertex w))) same (takes_by m w (judge w) (answer_in m.core w (judge w)) refl)
takes_at stage.Taking side judge m at frame.Done v is = absurd cc
takes_at stage.Taking side judge m at (frame.Hello d) v is = absurd cc
takes_at stage.Taking side judge m at (frame.Summary parts) v is = absurd cc
takes_at stage.Taking side judge m at (frame.Torn numbers) v is = absurd cc
takes_at stage.Greeting side judge m at f v is = absurd cc
takes_at stage.Telling side judge m at f v is = absurd cc
takes_at stage.Tearing side judge m at f v is = absurd cc

-- ---- frame by frame

module _ (side : Side) (judge : Vertex → Bool) (last : SessionEnd) where
  abbrev over : Meeting → List Placed → Talk Meeting
  over m fs = talk (meet_step side judge) last m fs

  abbrev keeping : TakingMeeting → List Placed → Talk TakingMeeting
  keeping t fs = talk (taking_step side judge) last t fs

  abbrev journal_from : CoreState → List Vertex → List Vertex
  journal_from c vs = fold (journal_after (setting_of c.config)) c.journal (judged judge vs)

  abbrev refused_from : ℕ → CoreState → List Vertex → ℕ
  refused_from k c vs = fold (λ k a. cond (is_ok a) k (raised k)) k (answers_from (setting_of c.config) c.journal (judged judge vs))

  -- what is known of the last meeting and the vertices taken, whatever the talk is
  record Leaves (m : Meeting) (taken : List Vertex) (now : Meeting) (all : List Vertex) : Type 0 where
    vertices : List Vertex
    are : all ≡ taken ++ vertices
    config : now.core.config ≡ m.core.config
    journal : now.core.journal ≡ journal_from m.core vertices
    asked : now.core.asked ≡ m.core.asked
    refused : now.refused ≡ refused_from m.refused m.core vertices

  nothing : (m : Meeting) (taken : List Vertex) → Leaves m taken m taken
  unfolding answers_from
  nothing m taken = record { vertices = []; are = sym (append-nil taken); config = refl; journal = refl; asked = refl; refused = refl }

  -- from where a frame without a vertex leaves it
  behind_none : (m next : Meeting) (taken : List Vertex) (now : Meeting) (all : List Vertex) → next.core ≡ m.core → next.refused ≡ m.refused → Leaves next taken now all → Leaves m taken now all
  behind_none m next taken now all core count l = record {
    vertices = l.vertices;
    are = l.are;
    config = l.config ∙ ap (λ (c : CoreState). c.config) core;
    journal = l.journal ∙ ap (λ (c : CoreState). journal_from c l.vertices) core;
    asked = l.asked ∙ ap (λ (c : CoreState). c.asked) core;
    refused = l.refused ∙ ap (λ (c : CoreState). refused_from next.refused c l.vertices) core ∙ ap (λ (k : ℕ). refused_from k m.core l.vertices) count;
  }

  -- or one with a vertex
  behind_some : (m next : Meeting) (v : Vertex) (taken : List Vertex) (now : Meeting) (all : List Vertex) → next.core ≡ after_in m.core v (judge v) → next.refused ≡ counted m.refused (answer_in m.core v (judge v)) → Leaves next (taken ++ v ∷ []) now all → Leaves m taken now all
  unfolding answers_from
  behind_some m next v taken now all core count l = record {
    vertices = v ∷ l.vertices;
    are = l.are ∙ append_assoc taken (v ∷ []) l.vertices;
    config = l.config ∙ ap (λ (c : CoreState). c.config) core;
    journal = l.journal ∙ ap (λ (c : CoreState). journal_from c l.vertices) core;
    asked = l.asked ∙ ap (λ (c : CoreState). c.asked) core;
    refused = l.refused ∙ ap (λ (c : CoreState). refused_from next.refused c l.vertices) core ∙ ap (λ (k : ℕ). refused_from k (after_in m.core v (judge v)) l.vertices) count;
  }

  -- behind a frame
  behind : (m : Meeting) (taken : List Vertex) (f : Placed) (now : Meeting) (all : List Vertex) (o : Option Vertex) → vertex_at m.stage f.frame ≡ o → Leaves (meet_step side judge m f).state (taken_then taken o) now all → Leaves m taken now all
  unfolding meet_step
  behind m taken f now all None is l = let stays = stays_at m.stage side judge m f.at f.frame is in behind_none m (meet_step side judge m f).state taken now all stays.0 stays.1 l
  behind m taken f now all (Some v) is l = let takes = takes_at m.stage side judge m f.at f.frame v is in behind_some m (meet_step side judge m f).state v taken now all takes.0 takes.1 l

  -- the talk by whether this frame ends it
  one : (m : Meeting) (taken : List Vertex) (f : Placed) (fs : List Placed) → Leaves (meet_step side judge m f).state (taken_then taken (vertex_at m.stage f.frame)) (over (meet_step side judge m f).state fs).state (keeping (record { meeting = (meet_step side judge m f).state; taken = taken_then taken (vertex_at m.stage f.frame) }) fs).state.taken
      → (o : Option SessionEnd)
      → Leaves (meet_step side judge m f).state (taken_then taken (vertex_at m.stage f.frame)) (with_reaction (record (meet_step side judge m f) { end = o }) (λ (x : Meeting). over x fs)).state
      (with_reaction (record (taking_step side judge (record { meeting = m; taken = taken }) f) { end = o }) (λ (x : TakingMeeting). keeping x fs)).state.taken
  one m taken f fs others None = others
  one m taken f fs others (Some e) = nothing (meet_step side judge m f).state (taken_then taken (vertex_at m.stage f.frame))

  all_of : (m : Meeting) (taken : List Vertex) (fs : List Placed) → Leaves m taken (over m fs).state (keeping (record { meeting = m; taken = taken }) fs).state.taken
  unfolding talk
  all_of m taken [] = nothing m taken
  all_of m taken (f ∷ fs) =
      let r : Reaction Meeting = meet_step side judge m f in
      behind m taken f (over m (f ∷ fs)).state (keeping (record { meeting = m; taken = taken }) (f ∷ fs)).state.taken (vertex_at m.stage f.frame) refl
      (one m taken f fs (all_of r.state (taken_then taken (vertex_at m.stage f.frame)) fs) r.end)

pub take : MeetingsTake
unfolding taken_in
take side c judge bytes =
    let frames = frames_of (length c.config.weights) bytes in
    let l = all_of side judge frames.end (begun c) [] frames.given in
    record {
      config = l.config;
      journal = l.journal ∙ ap (λ (vs : List Vertex). fold (journal_after (setting_of c.config)) c.journal (judged judge vs)) (sym l.are);
      asked = l.asked;
      refused = l.refused ∙ ap (λ (vs : List Vertex). fold (λ k a. cond (is_ok a) k (raised k)) 0 (answers_from (setting_of c.config) c.journal (judged judge vs))) (sym l.are);
    }
