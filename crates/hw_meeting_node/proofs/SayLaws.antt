-- What a node says at a meeting: frames one after the other.
use Rattle.std.proofs.Common.{◌≡◌, ℕ, zero, suc, ◌+◌, ◌<◌, ◌≤◌, Bool, true, false, cond, List, [], ◌∷◌, ◌++◌, length, take, drop, map, Option, Some, None, Result, Ok, Err, refl, sym, ap, subst, ◌∙◌, arith}
use Rattle.std.specs.Prelude.{slice_get, slice_index_or, filter_map, find, ◌==◌}
use Rattle.std.specs.List.{All, cons_option}
use Rattle.std.proofs.lemmas.List.{append-nil, take_all, take-append-drop, map-append, length-map}
use Rattle.std.proofs.lemmas.List.Elements.{filter_map-append, All-map}
use Rattle.std.proofs.lemmas.List.Concat.{flat_map-append}
use Rattle.hw_types.specs.declared.unit.Vertex.{Vertex}
use Rattle.hw_types.specs.Graph.{Node}
use Rattle.hw_types.specs.Journal.{Setting}
use Rattle.hw_types.specs.Settled.{validators}
use Rattle.hw_types.proofs.DistinctLaws.{range_length}
use Rattle.hw_io.specs.Doors.{Session}
use Rattle.hw_core.proofs.UnmetLaws.{take_one}
use Rattle.hw_link.specs.declared.end.SessionEnd.{SessionEnd}
use Rattle.hw_link.specs.Sent.{Sends}
use Rattle.hw_link.proofs.LinkLaws.{after_nothing}
use Rattle.hw_link.proofs.SentLaws.{sends_then, sends_stop}
use Rattle.hw_agree.specs.declared.summary.LaneSummary.{LaneSummary}
use Rattle.hw_agree.specs.declared.summary.LaneSummary.TheVariants.{Nothing, Line, Tangled}
use Rattle.hw_agree.specs.Converge.{units_by, is_line_of, summary_of, summaries}
use Rattle.hw_meeting.specs.declared.frame.MeetingFrame.{MeetingFrame}
use Rattle.hw_meeting.specs.declared.frame.MeetingFrame.TheVariants as frame
use Rattle.hw_meeting.specs.Frames.{HasUnits}
use Rattle.hw_meeting_node.specs.Frames.{framed, sent_bytes}

-- ---- a summary may be said

no_zero : (n : ℕ) → (n == 0) ≡ false → 0 < n
no_zero zero e = absurd cc
no_zero (suc n) e = omega arith

part_said : (s : Setting) (journal : List Vertex) (v : ℕ) → HasUnits (summary_of s journal v)
unfolding summary_of
part_said s journal v = go (length (units_by s journal v) == 0) refl
  where
    found : (o : Option Node) → (length (units_by s journal v) == 0) ≡ false → HasUnits (elim o as (λ z. LaneSummary) [ None ↦ Tangled | Some t ↦ Line (length (units_by s journal v)) t.digest ])
    found None e = tt
    found (Some t) e = no_zero (length (units_by s journal v)) e

    go : (b : Bool) → (length (units_by s journal v) == 0) ≡ b → HasUnits (cond b Nothing (elim (find (is_line_of s journal v) (units_by s journal v)) as (λ z. LaneSummary) [ None ↦ Tangled | Some t ↦ Line (length (units_by s journal v)) t.digest ]))
    go true e = tt
    go false e = found (find (is_line_of s journal v) (units_by s journal v)) e

pub summary_said : (s : Setting) (journal : List Vertex) → (length (summaries s journal) ≡ length s.config.weights) × All HasUnits (summaries s journal)
summary_said s journal = (
  length-map (validators s.config) (summary_of s journal) ∙ range_length 0 (length s.config.weights),
  All-map HasUnits (summary_of s journal) (validators s.config) (λ k d lt. part_said s journal _),
)

-- ---- one after the other

-- one frame
pub sends_one : (T : Type 0) (f : MeetingFrame) (old new : Option (List Session)) (r : Result T SessionEnd) → Sends {T = T} (framed f) old new r → Sends {T = T} (sent_bytes (f ∷ [])) old new r
sends_one T f old new r s = subst (λ (bytes : List ℕ). Sends {T = T} bytes old new r) (sym (append-nil (framed f))) s

-- nothing, of a call with this answer
pub sends_none : (T : Type 0) (x : T) (old : Option (List Session)) → Sends {T = T} [] old old (Ok x)
sends_none T x old = record { part = []; first = (0, refl); whole = refl; told = sym (after_nothing old); error = tt }

-- nothing
pub sends_nothing : (old : Option (List Session)) → Sends {T = Unit {0}} [] old old (Ok tt)
sends_nothing old = sends_none (Unit {0}) tt old

-- frames, and then others
pub sends_both : (T : Type 0) (fs gs : List MeetingFrame) (old now new : Option (List Session)) (r : Result T SessionEnd) → Sends {T = Unit {0}} (sent_bytes fs) old now (Ok tt) → Sends {T = T} (sent_bytes gs) now new r → Sends {T = T} (sent_bytes (fs ++ gs)) old new r
sends_both T fs gs old now new r first then =
    subst (λ (bytes : List ℕ). Sends {T = T} bytes old new r) (sym (flat_map-append framed fs gs)) (sends_then T (sent_bytes fs) (sent_bytes gs) old now new r first then)

-- a first part of frames is one of them and others
pub sends_part : (T : Type 0) (fs gs : List MeetingFrame) (old new : Option (List Session)) (e : SessionEnd) → Sends {T = Unit {0}} (sent_bytes fs) old new (Err e) → Sends {T = T} (sent_bytes (fs ++ gs)) old new (Err e)
sends_part T fs gs old new e first =
    subst (λ (bytes : List ℕ). Sends {T = T} bytes old new (Err e)) (sym (flat_map-append framed fs gs)) (sends_stop T (sent_bytes fs) (sent_bytes gs) old new e first)

-- ---- the vertices at places of a journal

within : {A : Type 0} (xs : List A) (i : ℕ) (x : A) → slice_get xs i ≡ Some x → i < length xs
within [] i x at = absurd cc
within (y ∷ ys) zero x at = omega arith
within (y ∷ ys) (suc i) x at = let less = within ys i x at in omega arith

module _ (journal : List Vertex) where
  -- what is sent for these places
  abbrev pub sent_at : List ℕ → List MeetingFrame
  sent_at places = map frame.Vertex (filter_map (slice_get journal) places)

  joins : (xs ys : List ℕ) → sent_at (xs ++ ys) ≡ sent_at xs ++ sent_at ys
  joins xs ys = ap (map frame.Vertex) (filter_map-append (slice_get journal) xs ys) ∙ map-append frame.Vertex (filter_map (slice_get journal) xs) (filter_map (slice_get journal) ys)

  one : (place : ℕ) (v : Vertex) → slice_get journal place ≡ Some v → sent_at (place ∷ []) ≡ frame.Vertex v ∷ []
  one place v at = ap (λ (o : Option Vertex). map frame.Vertex (cons_option o [])) at

  module _ (places : List ℕ) (old now new : Option (List Session)) (i : ℕ) (sent : Sends {T = Unit {0}} (sent_bytes (sent_at (take i places))) old now (Ok tt)) where
    module _ (place : ℕ) (v : Vertex) (at : slice_get places i ≡ Some place) (here : slice_get journal place ≡ Some v) where
      more : sent_at (take i places) ++ frame.Vertex v ∷ [] ≡ sent_at (take (i + 1) places)
      more =
          ap (λ (fs : List MeetingFrame). sent_at (take i places) ++ fs) (sym (one place v here))
          ∙ sym (joins (take i places) (place ∷ []))
          ∙ ap sent_at (sym (take_one places i place at (within places i place at)))

      pub sends_next : Sends {T = Unit {0}} (sent_bytes (frame.Vertex v ∷ [])) now new (Ok tt) → Sends {T = Unit {0}} (sent_bytes (sent_at (take (i + 1) places))) old new (Ok tt)
      sends_next next =
          subst (λ (fs : List MeetingFrame). Sends {T = Unit {0}} (sent_bytes fs) old new (Ok tt)) more (sends_both (Unit {0}) (sent_at (take i places)) (frame.Vertex v ∷ []) old now new (Ok tt) sent next)

      pub sends_broken : (e : SessionEnd) → Sends {T = Unit {0}} (sent_bytes (frame.Vertex v ∷ [])) now new (Err e) → Sends {T = Unit {0}} (sent_bytes (sent_at places)) old new (Err e)
      sends_broken e next =
          let whole : sent_at (take (i + 1) places) ++ sent_at (drop (i + 1) places) ≡ sent_at places = sym (joins (take (i + 1) places) (drop (i + 1) places)) ∙ ap sent_at (take-append-drop (i + 1) places) in
          subst (λ (fs : List MeetingFrame). Sends {T = Unit {0}} (sent_bytes fs) old new (Err e)) whole
          (sends_part (Unit {0}) (sent_at (take (i + 1) places)) (sent_at (drop (i + 1) places)) old new e
          (subst (λ (fs : List MeetingFrame). Sends {T = Unit {0}} (sent_bytes fs) old new (Err e)) more (sends_both (Unit {0}) (sent_at (take i places)) (frame.Vertex v ∷ []) old now new (Err e) sent next)))

    pub sends_all : length places ≤ i → Sends {T = Unit {0}} (sent_bytes (sent_at places)) old now (Ok tt)
    sends_all done = subst (λ (xs : List ℕ). Sends {T = Unit {0}} (sent_bytes (sent_at xs)) old now (Ok tt)) (take_all i places done) sent

-- there was no memory, and nothing was sent
pub unsaid : (T : Type 0) (fs : List MeetingFrame) (old : Option (List Session)) → Sends {T = T} (sent_bytes fs) old old (Err Rattle.hw_link.specs.declared.end.SessionEnd.TheVariants.OutOfMemory)
unsaid T fs old = record { part = []; first = (0, take_none (sent_bytes fs)); whole = tt; told = sym (after_nothing old); error = tt }
  where
    take_none : (xs : List ℕ) → [] ≡ take 0 xs
    take_none [] = refl
    take_none (x ∷ xs) = refl

-- the item at a place of a list
pub at_index : (xs : List ℕ) (i d : ℕ) → i < length xs → slice_get xs i ≡ Some (slice_index_or xs i d)
at_index [] i d less = absurd (omega arith)
at_index (x ∷ xs) zero d less = refl
at_index (x ∷ xs) (suc i) d less = at_index xs i d (omega arith)
