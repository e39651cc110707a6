-- What is taken in a meeting is the first of what is sent, and what is said stood in the journal.
use Rattle.std.specs.Prelude.{take}
use Rattle.std.proofs.Common.{◌≡◌, ◌⊎◌, ℕ, suc, Bool, true, false, cond, List, [], ◌∷◌, ◌++◌, length, map, Option, Some, None, Result, Ok, Err, inl, inr, refl, sym, ap, subst, ◌∙◌}
use Rattle.std.proofs.lemmas.List.{append_assoc, append-nil}
use Rattle.hw_types.specs.declared.unit.Vertex.{Vertex}
use Rattle.hw_types.specs.declared.answers.Receipt.{Receipt}
use Rattle.hw_types.specs.declared.answers.Cause.{Cause}
use Rattle.hw_types.specs.declared.answers.Cause.TheVariants as cause
use Rattle.hw_types.specs.Graph.{digest_eq}
use Rattle.hw_types.specs.Below.{Among}
use Rattle.hw_types.specs.Real.{CoreState, answer_in, after_in}
use Rattle.hw_types.specs.Spelling.{instance_of}
use Rattle.hw_types.proofs.ClosureLaws.{Among-filter}
use Rattle.hw_types.proofs.EntryLaws.{map_among, append_cases}
use Rattle.hw_link.specs.declared.end.SessionEnd.{SessionEnd}
use Rattle.hw_link.specs.declared.end.SessionEnd.TheVariants as end
use Rattle.hw_agree.specs.declared.summary.LaneSummary.{LaneSummary}
use Rattle.hw_agree.specs.Converge.{is_due}
use Rattle.hw_meeting.specs.declared.frame.MeetingFrame.{MeetingFrame}
use Rattle.hw_meeting.specs.declared.frame.MeetingFrame.TheVariants as frame
use Rattle.hw_meeting_node.specs.Frames.{Placed}
use Rattle.hw_meeting_node.specs.declared.meeter.Side.{Side}
use Rattle.hw_meeting_node.specs.declared.meeter.Side.TheVariants.{Caller, Host}
use Rattle.hw_meeting_node.specs.declared.meeter.Stage.{Stage}
use Rattle.hw_meeting_node.specs.declared.meeter.Stage.TheVariants as stage
use Rattle.hw_meeting_node.specs.Talk.{Reaction, Talk, goes_on, ends, with_reaction, talk, frames_of}
use Rattle.hw_meeting_node.specs.Meeting.{Meeting, begun, first_word, to_hello, to_summary, to_torn, to_done, all_due, owed_by, told_of, torn_by, answered, at_greeting, at_telling, at_tearing, at_stage, meet_step}
use Rattle.hw_meeting_node.specs.Taking.{TakingMeeting, vertex_at, taken_then, taking_step, taken_in}
use Rattle.hw_meeting_node.specs.Laws.{vertex_in, vertices_among, MeetingsTakeTheFirst, MeetingsSayWhatStood}

-- ---- a frame

-- no vertex came, or the session ends
abbrev Quiet : MeetingFrame → Option SessionEnd → Type 0
Quiet f (Some e) = Unit {0}
Quiet f None = vertex_in f ≡ None

-- its vertex is due, or none is
abbrev Brings : Stage → MeetingFrame → Option SessionEnd → Type 0
Brings s f end = ((v : Vertex) × (f ≡ frame.Vertex v) × (vertex_at s f ≡ Some v)) ⊎ ((vertex_at s f ≡ None) × Quiet f end)

quiet : (f : MeetingFrame) → vertex_in f ≡ None → (o : Option SessionEnd) → Quiet f o
quiet f none (Some e) = tt
quiet f none None = none

-- a vertex that isn't due ends the session
early : (f : MeetingFrame) (end : MeetingFrame → Option SessionEnd) → ((v : Vertex) → Quiet (frame.Vertex v) (end (frame.Vertex v))) → Quiet f (end f)
early (frame.Vertex v) end over = over v
early (frame.Hello d) end over = quiet (frame.Hello d) refl (end (frame.Hello d))
early (frame.Summary parts) end over = quiet (frame.Summary parts) refl (end (frame.Summary parts))
early (frame.Torn numbers) end over = quiet (frame.Torn numbers) refl (end (frame.Torn numbers))
early frame.Done end over = quiet frame.Done refl (end frame.Done)

brings : (s : Stage) (side : Side) (judge : Vertex → Bool) (m : Meeting) (at : ℕ) (f : MeetingFrame) → Brings s f (at_stage s side judge m at f).end
brings stage.Greeting side judge m at f = inr (refl, early f (λ (g : MeetingFrame). (at_greeting side m at g).end) (λ v. tt))
brings stage.Telling side judge m at f = inr (refl, early f (λ (g : MeetingFrame). (at_telling side m at g).end) (λ v. tt))
brings stage.Tearing side judge m at f = inr (refl, early f (λ (g : MeetingFrame). (at_tearing side m at g).end) (λ v. tt))
brings stage.Taking side judge m at (frame.Vertex v) = inl (v, refl, refl)
brings stage.Taking side judge m at frame.Done = inr (refl, tt)
brings stage.Taking side judge m at (frame.Hello d) = inr (refl, tt)
brings stage.Taking side judge m at (frame.Summary parts) = inr (refl, tt)
brings stage.Taking side judge m at (frame.Torn numbers) = inr (refl, tt)

among_more : (f : Placed) (fs : List Placed) (v : Vertex) → f.frame ≡ frame.Vertex v → vertices_among (f ∷ fs) ≡ v ∷ vertices_among fs
among_more f fs v is = subst (λ (g : MeetingFrame). vertices_among (record { at = f.at; frame = g } ∷ fs) ≡ v ∷ vertices_among fs) (sym is) refl

among_same : (f : Placed) (fs : List Placed) → vertex_in f.frame ≡ None → vertices_among (f ∷ fs) ≡ vertices_among fs
among_same f fs none = go f.frame none
  where
    go : (g : MeetingFrame) → vertex_in g ≡ None → vertices_among (record { at = f.at; frame = g } ∷ fs) ≡ vertices_among fs
    go (frame.Vertex v) some = absurd cc
    go (frame.Hello d) some = refl
    go (frame.Summary parts) some = refl
    go (frame.Torn numbers) some = refl
    go frame.Done some = refl

-- nothing of these
none_of : (vs : List Vertex) → take 0 vs ≡ []
none_of [] = refl
none_of (v ∷ vs) = refl

-- ---- the vertices that are taken

-- all are those taken before, and the first of these
abbrev AreFirst : List Vertex → List Vertex → List Vertex → Type 0
AreFirst taken vs all = (count : ℕ) × (all ≡ taken ++ take count vs)

are_none : (taken vs : List Vertex) → AreFirst taken vs taken
are_none taken vs = (0, sym (ap (λ (ws : List Vertex). taken ++ ws) (none_of vs) ∙ append-nil taken))

are_one : (taken vs : List Vertex) (v : Vertex) → AreFirst taken (v ∷ vs) (taken ++ v ∷ [])
are_one taken vs v = (1, sym (ap (λ (ws : List Vertex). taken ++ v ∷ ws) (none_of vs)))

are_more : (taken vs all : List Vertex) (v : Vertex) → AreFirst (taken ++ v ∷ []) vs all → AreFirst taken (v ∷ vs) all
are_more taken vs all v (count, is) = (suc count, is ∙ append_assoc taken (v ∷ []) (take count vs))

module _ (side : Side) (judge : Vertex → Bool) (last : SessionEnd) where
  abbrev keeping : TakingMeeting → List Placed → Talk TakingMeeting
  keeping t fs = talk (taking_step side judge) last t fs

  abbrev with : Meeting → List Vertex → TakingMeeting
  with m taken = record { meeting = m; taken = taken }

  first_of : (m : Meeting) (taken : List Vertex) (fs : List Placed) → AreFirst taken (vertices_among fs) (keeping (with m taken) fs).state.taken
  unfolding talk meet_step
  first_of m taken [] = (0, sym (append-nil taken))
  first_of m taken (f ∷ fs) = go (first_of (meet_step side judge m f).state (taken_then taken due) fs) (meet_step side judge m f).end (brings m.stage side judge m f.at f.frame)
    where
      due : Option Vertex
      due = vertex_at m.stage f.frame

      -- the vertices behind this frame, if it ends so
      behind : Option SessionEnd → List Vertex
      behind o = (with_reaction (record (taking_step side judge (with m taken) f) { end = o }) (λ (x : TakingMeeting). keeping x fs)).state.taken

      go : AreFirst (taken_then taken due) (vertices_among fs) (behind None) → (o : Option SessionEnd) → Brings m.stage f.frame o → AreFirst taken (vertices_among (f ∷ fs)) (behind o)
      go rest (Some e) (inl (v, is, some)) =
          subst (λ (vs : List Vertex). AreFirst taken vs (taken_then taken due)) (sym (among_more f fs v is))
          (subst (λ (o : Option Vertex). AreFirst taken (v ∷ vertices_among fs) (taken_then taken o)) (sym some) (are_one taken (vertices_among fs) v))
      go rest None (inl (v, is, some)) =
          subst (λ (vs : List Vertex). AreFirst taken vs (behind None)) (sym (among_more f fs v is))
          (are_more taken (vertices_among fs) (behind None) v (subst (λ (o : Option Vertex). AreFirst (taken_then taken o) (vertices_among fs) (behind None)) some rest))
      go rest (Some e) (inr (none, quiet)) =
          subst (λ (o : Option Vertex). AreFirst taken (vertices_among (f ∷ fs)) (taken_then taken o)) (sym none) (are_none taken (vertices_among (f ∷ fs)))
      go rest None (inr (none, quiet)) =
          subst (λ (vs : List Vertex). AreFirst taken vs (behind None)) (sym (among_same f fs quiet))
          (subst (λ (o : Option Vertex). AreFirst (taken_then taken o) (vertices_among fs) (behind None)) none rest)

pub taken_first : MeetingsTakeTheFirst
unfolding taken_in
taken_first side c judge bytes = let frames = frames_of (length c.config.weights) bytes in first_of side judge frames.end (begun c) [] frames.given

-- ---- what is said

module _ (c : CoreState) where
  -- each vertex of these frames stands in the journal
  abbrev Stand : List MeetingFrame → Type 0
  Stand says = (v : Vertex) → Among (frame.Vertex v) says → Among v c.journal

  -- so does each of these
  abbrev Held : List Vertex → Type 0
  Held vs = (v : Vertex) → Among v vs → Among v c.journal

  none_said : Stand []
  none_said v m = absurd m

  one_said : (f : MeetingFrame) → vertex_in f ≡ None → Stand (f ∷ [])
  one_said f none v (inl e) = absurd (let no : None ≡ Some v = sym none ∙ ap vertex_in e in cc)
  one_said f none v (inr never) = absurd never

  both_said : (fs gs : List MeetingFrame) → Stand fs → Stand gs → Stand (fs ++ gs)
  both_said fs gs p q v m = elim (append_cases (frame.Vertex v) fs gs m) [ inl k ↦ p v k | inr k ↦ q v k ]

  due_said : (due : List Vertex) → Held due → Stand (all_due due)
  due_said due held = both_said (map frame.Vertex due) (frame.Done ∷ []) vertices (one_said frame.Done refl)
    where
      vertices : Stand (map frame.Vertex due)
      vertices v m =
          let x = map_among frame.Vertex (frame.Vertex v) due m in
          let same : x.0 ≡ v = (let e : frame.Vertex x.0 ≡ frame.Vertex v = x.2 in cc) in
          subst (λ (w : Vertex). Among w c.journal) same (held x.0 x.1)

  -- until it takes vertices it has received what it had
  abbrev IsBefore : Stage → CoreState → Type 0
  IsBefore stage.Greeting d = d ≡ c
  IsBefore stage.Telling d = d ≡ c
  IsBefore stage.Tearing d = d ≡ c
  IsBefore stage.Taking d = Unit {0}

  -- it says what stands in that journal, and owes no more
  record Says (r : Reaction Meeting) : Type 0 where
    before : IsBefore r.state.stage r.state.core
    held : Held r.state.due
    says : Stand r.says

  module _ (side : Side) (judge : Vertex → Bool) (m : Meeting) (held : Held m.due) where
    -- the session ends, and nothing is said
    over : (e : SessionEnd) → IsBefore m.stage m.core → Says (ends m [] e)
    over e before = record { before = before; held = held; says = none_said }

    hello_says : (side : Side) → Stand (to_hello side m.core)
    hello_says Caller = one_said (frame.Summary (told_of m.core)) refl
    hello_says Host = one_said (frame.Hello (instance_of m.core.config)) refl

    summary_says : (side : Side) (theirs : List LaneSummary) → Stand (to_summary side m.core theirs)
    summary_says Caller theirs = one_said (frame.Torn (torn_by m.core theirs)) refl
    summary_says Host theirs = one_said (frame.Summary (told_of m.core)) refl

    torn_says : (side : Side) (theirs : List LaneSummary) (due : List Vertex) → Held due → Stand (to_torn side m.core theirs due)
    torn_says Caller theirs due each = due_said due each
    torn_says Host theirs due each = one_said (frame.Torn (torn_by m.core theirs)) refl

    done_says : (side : Side) → Stand (to_done side m.due)
    done_says Caller = none_said
    done_says Host = due_said m.due held

    owed_held : m.core ≡ c → (theirs : List LaneSummary) (torn : List ℕ) → Held (owed_by m.core theirs torn)
    owed_held is theirs torn v k =
        subst (λ (d : CoreState). Among v d.journal) is (Among-filter (is_due (torn_by m.core theirs ++ torn) (told_of m.core) theirs) v m.core.journal k).0

    hello : m.stage ≡ stage.Greeting → m.core ≡ c → (b : Bool) → Says (cond b (goes_on (record m { stage = stage.Telling }) (to_hello side m.core)) (ends m [] end.WrongInstance))
    hello at is true = record { before = is; held = held; says = hello_says side }
    hello at is false = over end.WrongInstance (subst (λ (s : Stage). IsBefore s m.core) (sym at) is)

    vertex : (d : CoreState) (a : Result Receipt Cause) → m.stage ≡ stage.Taking → Says (answered (record m { core = d }) a)
    vertex d a at = go a
      where
        before : IsBefore m.stage d
        before = subst (λ (s : Stage). IsBefore s d) (sym at) tt

        go : (a : Result Receipt Cause) → Says (answered (record m { core = d }) a)
        go (Ok r) = record { before = before; held = held; says = none_said }
        go (Err (cause.Clash known)) = record { before = before; held = held; says = none_said }
        go (Err cause.BadSignature) = record { before = before; held = held; says = none_said }
        go (Err (cause.Local rule)) = record { before = before; held = held; says = none_said }
        go (Err (cause.Pair f)) = record { before = before; held = held; says = none_said }
        go (Err cause.RecordsFull) = record { before = before; held = held; says = none_said }
        go (Err cause.ParkFull) = record { before = before; held = held; says = none_said }
        go (Err cause.OutOfMemory) = record { before = before; held = held; says = none_said }

    says_at : (s : Stage) (at : ℕ) (f : MeetingFrame) → m.stage ≡ s → IsBefore s m.core → Says (at_stage s side judge m at f)
    says_at stage.Greeting at (frame.Hello d) is before = hello is before (digest_eq d (instance_of m.core.config))
    says_at stage.Greeting at (frame.Vertex v) is before = over (end.BadFrame at) (subst (λ (s : Stage). IsBefore s m.core) (sym is) before)
    says_at stage.Greeting at (frame.Summary parts) is before = over (end.BadFrame at) (subst (λ (s : Stage). IsBefore s m.core) (sym is) before)
    says_at stage.Greeting at (frame.Torn numbers) is before = over (end.BadFrame at) (subst (λ (s : Stage). IsBefore s m.core) (sym is) before)
    says_at stage.Greeting at frame.Done is before = over (end.BadFrame at) (subst (λ (s : Stage). IsBefore s m.core) (sym is) before)
    says_at stage.Telling at (frame.Summary parts) is before = record { before = before; held = held; says = summary_says side parts }
    says_at stage.Telling at (frame.Hello d) is before = over (end.BadFrame at) (subst (λ (s : Stage). IsBefore s m.core) (sym is) before)
    says_at stage.Telling at (frame.Vertex v) is before = over (end.BadFrame at) (subst (λ (s : Stage). IsBefore s m.core) (sym is) before)
    says_at stage.Telling at (frame.Torn numbers) is before = over (end.BadFrame at) (subst (λ (s : Stage). IsBefore s m.core) (sym is) before)
    says_at stage.Telling at frame.Done is before = over (end.BadFrame at) (subst (λ (s : Stage). IsBefore s m.core) (sym is) before)
    says_at stage.Tearing at (frame.Torn numbers) is before =
        let due = owed_held before m.theirs numbers in
        record { before = tt; held = due; says = torn_says side m.theirs (owed_by m.core m.theirs numbers) due }
    says_at stage.Tearing at (frame.Hello d) is before = over (end.BadFrame at) (subst (λ (s : Stage). IsBefore s m.core) (sym is) before)
    says_at stage.Tearing at (frame.Vertex v) is before = over (end.BadFrame at) (subst (λ (s : Stage). IsBefore s m.core) (sym is) before)
    says_at stage.Tearing at (frame.Summary parts) is before = over (end.BadFrame at) (subst (λ (s : Stage). IsBefore s m.core) (sym is) before)
    says_at stage.Tearing at frame.Done is before = over (end.BadFrame at) (subst (λ (s : Stage). IsBefore s m.core) (sym is) before)
    says_at stage.Taking at (frame.Vertex v) is before = vertex (after_in m.core v (judge v)) (answer_in m.core v (judge v)) is
    says_at stage.Taking at frame.Done is before = record { before = subst (λ (s : Stage). IsBefore s m.core) (sym is) tt; held = held; says = done_says side }
    says_at stage.Taking at (frame.Hello d) is before = over (end.BadFrame at) (subst (λ (s : Stage). IsBefore s m.core) (sym is) tt)
    says_at stage.Taking at (frame.Summary parts) is before = over (end.BadFrame at) (subst (λ (s : Stage). IsBefore s m.core) (sym is) tt)
    says_at stage.Taking at (frame.Torn numbers) is before = over (end.BadFrame at) (subst (λ (s : Stage). IsBefore s m.core) (sym is) tt)

  module _ (side : Side) (judge : Vertex → Bool) (last : SessionEnd) where
    abbrev talked : Meeting → List Placed → Talk Meeting
    talked m fs = talk (meet_step side judge) last m fs

    talk_says : (m : Meeting) (fs : List Placed) → IsBefore m.stage m.core → Held m.due → Stand (talked m fs).said
    unfolding talk meet_step
    talk_says m [] before held = none_said
    talk_says m (f ∷ fs) before held =
        let r : Reaction Meeting = meet_step side judge m f in
        let one : Says r = says_at side judge m held m.stage f.at f.frame refl before in
        go r one.says (talk_says r.state fs one.before one.held) r.end
      where
        go : (r : Reaction Meeting) → Stand r.says → Stand (talked r.state fs).said → (o : Option SessionEnd) → Stand (with_reaction (record r { end = o }) (λ (x : Meeting). talked x fs)).said
        go r here others (Some e) = here
        go r here others None = both_said r.says (talked r.state fs).said here others

    first_says : (side : Side) → Stand (first_word side c)
    first_says Caller = one_said (frame.Hello (instance_of c.config)) refl
    first_says Host = none_said

pub said_stood : MeetingsSayWhatStood
said_stood side c judge bytes =
    let frames = frames_of (length c.config.weights) bytes in
    both_said c (first_word side c) (talked c side judge frames.end (begun c) frames.given).said (first_says c side judge frames.end side) (talk_says c side judge frames.end (begun c) frames.given refl (none_said c))
