-- Frames that are sent one after the other.
use Rattle.std.proofs.Common.{◌≡◌, ℕ, zero, suc, ◌+◌, ◌<◌, ◌≤◌, List, [], ◌∷◌, ◌++◌, length, take, drop, map, Option, Some, None, Result, Ok, Err, refl, sym, ap, subst, ◌∙◌, arith, length-append, length-take, length-drop}
use Rattle.std.specs.Prelude.{◌-◌, min, slice_get}
use Rattle.std.proofs.lemmas.List.{append-nil, take_all, take-append-drop, map-append}
use Rattle.std.specs.List.{flat_map}
use Rattle.std.proofs.lemmas.List.Concat.{flat_map-append}
use Rattle.hw_types.specs.declared.unit.Need.{Need}
use Rattle.hw_types.specs.declared.unit.Vertex.{Vertex}
use Rattle.hw_types.specs.declared.answers.Frame.{Frame}
use Rattle.hw_types.specs.declared.answers.Frame.TheVariants as frame
use Rattle.hw_types.specs.Real.{CoreState}
use Rattle.hw_io.specs.Doors.{Session}
use Rattle.hw_needs.specs.Needs.{vertices_of}
use Rattle.hw_core.proofs.UnmetLaws.{take_one}
use Rattle.hw_link.specs.declared.end.SessionEnd.{SessionEnd}
use Rattle.hw_link.specs.Frames.{framed, sent_bytes}
use Rattle.hw_link.specs.Sent.{Sends}
use Rattle.hw_link.proofs.LinkLaws.{after_nothing}
use Rattle.hw_link.proofs.SentLaws.{sends_then, sends_stop}
use Rattle.hw_session.specs.Serving.{part_from, sent_for}

-- ---- places of a list

within : {A : Type 0} (xs : List A) (i : ℕ) (x : A) → slice_get xs i ≡ Some x → i < length xs
within [] i x at = absurd cc
within (y ∷ ys) zero x at = omega arith
within (y ∷ ys) (suc i) x at = let less = within ys i x at in omega arith

get_drop : {A : Type 0} (k i : ℕ) (xs : List A) → slice_get (drop k xs) i ≡ slice_get xs (k + i)
get_drop zero i [] = refl
get_drop zero i (x ∷ xs) = let same : 0 + i ≡ i = omega arith in ap (slice_get (x ∷ xs)) (sym same)
get_drop (suc k) i [] = refl
get_drop (suc k) i (x ∷ xs) = let next : suc k + i ≡ suc (k + i) = omega arith in get_drop k i xs ∙ ap (slice_get (x ∷ xs)) (sym next)

get_take : {A : Type 0} (n i : ℕ) (xs : List A) → i < length (take n xs) → slice_get (take n xs) i ≡ slice_get xs i
get_take zero i [] less = refl
get_take (suc n) i [] less = refl
get_take zero i (x ∷ xs) less = absurd (omega arith)
get_take (suc n) zero (x ∷ xs) less = refl
get_take (suc n) (suc i) (x ∷ xs) less = get_take n i xs (omega arith)

-- a place of a part of a journal
pub part_at : (journal : List Vertex) (place i : ℕ) (v : Vertex) → i < length (part_from journal place) → slice_get journal (place + i) ≡ Some v → slice_get (part_from journal place) i ≡ Some v
part_at journal place i v less at = get_take 256 i (drop place journal) less ∙ get_drop place i journal ∙ at

fewer : {A : Type 0} (n : ℕ) (xs : List A) → length (take n xs) ≤ length xs
fewer zero [] = omega arith
fewer zero (x ∷ xs) = omega arith
fewer (suc n) [] = omega arith
fewer (suc n) (x ∷ xs) = let less = fewer n xs in omega arith

dropped : {A : Type 0} (k i : ℕ) (xs : List A) → i < length (drop k xs) → k + i < length xs
dropped zero i [] less = absurd (omega arith)
dropped zero i (x ∷ xs) less = omega arith
dropped (suc k) i [] less = absurd (omega arith)
dropped (suc k) i (x ∷ xs) less = let so = dropped k i xs less in omega arith

-- it is one of the journal
pub part_within : (journal : List Vertex) (place i : ℕ) → i < length (part_from journal place) → place + i < length journal
part_within journal place i less = let few = fewer 256 (drop place journal) in dropped place i journal (omega arith)

pub part_count : (journal : List Vertex) (place : ℕ) → length (part_from journal place) ≡ min 256 (length journal - place)
part_count journal place = length-take 256 (drop place journal) ∙ ap (min 256) (length-drop place journal)

-- ---- the last of a list

get_last : {A : Type 0} (before : List A) (x : A) → slice_get (before ++ x ∷ []) (length before) ≡ Some x
get_last [] x = refl
get_last (y ∷ before) x = get_last before x

pub last_at : {A : Type 0} (xs before : List A) (x : A) (i : ℕ) → xs ≡ before ++ x ∷ [] → i + 1 ≡ length xs → slice_get xs i ≡ Some x
last_at xs before x i is next =
    let size : length xs ≡ length before + 1 = ap (λ (ys : List _). length ys) is ∙ length-append before (x ∷ []) in
    let place : i ≡ length before = omega arith in
    ap (λ (ys : List _). slice_get ys i) is ∙ ap (slice_get (before ++ x ∷ [])) place ∙ get_last before x

pub no_last : {A : Type 0} (xs before : List A) (x : A) → xs ≡ before ++ x ∷ [] → length xs ≡ 0 → ⊥
no_last xs before x is none =
    let size : length xs ≡ length before + 1 = ap (λ (ys : List _). length ys) is ∙ length-append before (x ∷ []) in
    absurd (omega arith)

-- ---- the first of a list

past : {A : Type 0} (xs : List A) (i : ℕ) → slice_get xs i ≡ None → length xs ≤ i
past [] i at = omega arith
past (y ∷ ys) zero at = absurd cc
past (y ∷ ys) (suc i) at = let more = past ys i at in omega arith

-- so many are all
pub first_all : {A : Type 0} (xs : List A) (i n : ℕ) → i ≤ n → slice_get xs i ≡ None → take i xs ≡ take n xs
first_all xs i n less at = let few = past xs i at in take_all i xs few ∙ sym (take_all n xs (omega arith))

pub first_next : {A : Type 0} (xs ys : List A) (i : ℕ) (x : A) → ys ≡ take i xs → slice_get xs i ≡ Some x → ys ++ x ∷ [] ≡ take (i + 1) xs
first_next xs ys i x is at = ap (λ (zs : List _). zs ++ x ∷ []) is ∙ sym (take_one xs i x at (within xs i x at))

-- ---- one after the other

-- some vertices are sent, and none is a missing need
pub sent_some : (need : Need) (vs : List Vertex) → (vs ≡ [] → ⊥) → map frame.Vertex vs ≡ sent_for need vs
sent_some need [] some = absurd (some refl)
sent_some need (v ∷ vs) some = refl

-- one frame is an answer
pub sends_one : (T : Type 0) (f : Frame) (old new : Option (List Session)) (r : Result T SessionEnd) → Sends {T = T} (framed f) old new r → Sends {T = T} (sent_bytes (f ∷ [])) old new r
sends_one T f old new r s = subst (λ (bytes : List ℕ). Sends {T = T} bytes old new r) (sym (append-nil (framed f))) s

-- nothing is sent
pub sends_nothing : (old : Option (List Session)) → Sends {T = Unit {0}} [] old old (Ok tt)
sends_nothing old = record { part = []; first = (0, refl); whole = refl; told = sym (after_nothing old); error = tt }

-- frames, and then others
pub sends_both : (T : Type 0) (fs gs : List Frame) (old now new : Option (List Session)) (r : Result T SessionEnd) → Sends {T = Unit {0}} (sent_bytes fs) old now (Ok tt) → Sends {T = T} (sent_bytes gs) now new r → Sends {T = T} (sent_bytes (fs ++ gs)) old new r
sends_both T fs gs old now new r first then =
    subst (λ (bytes : List ℕ). Sends {T = T} bytes old new r) (sym (flat_map-append framed fs gs)) (sends_then T (sent_bytes fs) (sent_bytes gs) old now new r first then)

-- a first part of frames is one of them and others
pub sends_part : (T : Type 0) (fs gs : List Frame) (old new : Option (List Session)) (e : SessionEnd) → Sends {T = Unit {0}} (sent_bytes fs) old new (Err e) → Sends {T = T} (sent_bytes (fs ++ gs)) old new (Err e)
sends_part T fs gs old new e first =
    subst (λ (bytes : List ℕ). Sends {T = T} bytes old new (Err e)) (sym (flat_map-append framed fs gs)) (sends_stop T (sent_bytes fs) (sent_bytes gs) old new e first)

-- ---- what is sent for each of a list

module _ {A : Type 0} (F : List A → List Frame) (joins : (xs ys : List A) → F (xs ++ ys) ≡ F xs ++ F ys) (all : List A) (old now new : Option (List Session)) (i : ℕ) (sent : Sends {T = Unit {0}} (sent_bytes (F (take i all))) old now (Ok tt)) where
  more : (x : A) → slice_get all i ≡ Some x → F (take i all) ++ F (x ∷ []) ≡ F (take (i + 1) all)
  more x at = sym (joins (take i all) (x ∷ [])) ∙ ap F (sym (take_one all i x at (within all i x at)))

  pub sends_next : (x : A) → slice_get all i ≡ Some x → Sends {T = Unit {0}} (sent_bytes (F (x ∷ []))) now new (Ok tt) → Sends {T = Unit {0}} (sent_bytes (F (take (i + 1) all))) old new (Ok tt)
  sends_next x at next =
      subst (λ (fs : List Frame). Sends {T = Unit {0}} (sent_bytes fs) old new (Ok tt)) (more x at) (sends_both (Unit {0}) (F (take i all)) (F (x ∷ [])) old now new (Ok tt) sent next)

  pub sends_broken : (x : A) (e : SessionEnd) → slice_get all i ≡ Some x → Sends {T = Unit {0}} (sent_bytes (F (x ∷ []))) now new (Err e) → Sends {T = Unit {0}} (sent_bytes (F all)) old new (Err e)
  sends_broken x e at next =
      let whole : F (take (i + 1) all) ++ F (drop (i + 1) all) ≡ F all = sym (joins (take (i + 1) all) (drop (i + 1) all)) ∙ ap F (take-append-drop (i + 1) all) in
      subst (λ (fs : List Frame). Sends {T = Unit {0}} (sent_bytes fs) old new (Err e)) whole
      (sends_part (Unit {0}) (F (take (i + 1) all)) (F (drop (i + 1) all)) old new e
      (subst (λ (fs : List Frame). Sends {T = Unit {0}} (sent_bytes fs) old new (Err e)) (more x at) (sends_both (Unit {0}) (F (take i all)) (F (x ∷ [])) old now new (Err e) sent next)))

  pub sends_all : length all ≤ i → Sends {T = Unit {0}} (sent_bytes (F all)) old now (Ok tt)
  sends_all done = subst (λ (xs : List A). Sends {T = Unit {0}} (sent_bytes (F xs)) old now (Ok tt)) (take_all i all done) sent

-- nothing was sent of it yet
pub sends_start : {A : Type 0} (F : List A → List Frame) → F [] ≡ [] → (all : List A) (i : ℕ) → i ≡ 0 → (old : Option (List Session)) → Sends {T = Unit {0}} (sent_bytes (F (take i all))) old old (Ok tt)
sends_start F none all i first old =
    let nothing : F (take i all) ≡ [] = ap (λ (n : ℕ). F (take n all)) first ∙ ap F (take_none all) ∙ none in
    subst (λ (fs : List Frame). Sends {T = Unit {0}} (sent_bytes fs) old old (Ok tt)) (sym nothing) (sends_nothing old)
  where
    take_none : {A : Type 0} (xs : List A) → take 0 xs ≡ []
    take_none [] = refl
    take_none (x ∷ xs) = refl

-- ---- a part of a journal

module _ (journal : List Vertex) (place at : ℕ) (old now : Option (List Session)) (sent : Sends {T = Unit {0}} (sent_bytes (map frame.Vertex (take (at - place) (part_from journal place)))) old now (Ok tt)) where
  pub part_all : place + length (part_from journal place) ≤ at → Sends {T = Unit {0}} (sent_bytes (map frame.Vertex (part_from journal place))) old now (Ok tt)
  part_all done = sends_all (map frame.Vertex) (map-append frame.Vertex) (part_from journal place) old now now (at - place) sent (omega arith)

  module _ (v : Vertex) (new : Option (List Session)) (start : place ≤ at) (less : at < place + length (part_from journal place)) (here : slice_get journal at ≡ Some v) where
    in_part : slice_get (part_from journal place) (at - place) ≡ Some v
    in_part = let same : place + (at - place) ≡ at = omega arith in part_at journal place (at - place) v (omega arith) (ap (slice_get journal) same ∙ here)

    pub part_next : Sends {T = Unit {0}} (framed (frame.Vertex v)) now new (Ok tt) → Sends {T = Unit {0}} (sent_bytes (map frame.Vertex (take (at + 1 - place) (part_from journal place)))) old new (Ok tt)
    part_next next =
        let step : at - place + 1 ≡ at + 1 - place = omega arith in
        subst (λ (n : ℕ). Sends {T = Unit {0}} (sent_bytes (map frame.Vertex (take n (part_from journal place)))) old new (Ok tt)) step
        (sends_next (map frame.Vertex) (map-append frame.Vertex) (part_from journal place) old now new (at - place) sent v in_part (sends_one (Unit {0}) (frame.Vertex v) now new (Ok tt) next))

    pub part_broken : (e : SessionEnd) → Sends {T = Unit {0}} (framed (frame.Vertex v)) now new (Err e) → Sends {T = Unit {0}} (sent_bytes (map frame.Vertex (part_from journal place))) old new (Err e)
    part_broken e next = sends_broken (map frame.Vertex) (map-append frame.Vertex) (part_from journal place) old now new (at - place) sent v e in_part (sends_one (Unit {0}) (frame.Vertex v) now new (Err e) next)

-- ---- what there is of each need

module _ (c : CoreState) where
  -- what is sent for these needs
  abbrev pub sent_for_all : List Need → List Frame
  sent_for_all needs = flat_map (λ need. sent_for need (vertices_of c need)) needs

  pub needs_join : (xs ys : List Need) → sent_for_all (xs ++ ys) ≡ sent_for_all xs ++ sent_for_all ys
  needs_join xs ys = flat_map-append (λ need. sent_for need (vertices_of c need)) xs ys

  pub sends_need : (need : Need) (old new : Option (List Session)) (r : Result (Unit {0}) SessionEnd) → Sends {T = Unit {0}} (sent_bytes (sent_for need (vertices_of c need))) old new r → Sends {T = Unit {0}} (sent_bytes (sent_for_all (need ∷ []))) old new r
  sends_need need old new r s = subst (λ (fs : List Frame). Sends {T = Unit {0}} (sent_bytes fs) old new r) (sym (append-nil (sent_for need (vertices_of c need)))) s
