-- Laws of where in a journal evidence and endorsements stand.
use Rattle.std.proofs.Common.{◌≡◌, ℕ, zero, suc, ◌<◌, ◌≤◌, Bool, true, false, cond, List, [], ◌∷◌, ◌++◌, length, map, filter, find, Option, Some, None, refl, sym, ap, ◌∙◌, arith, Bor}
use Rattle.std.specs.Prelude.{◌==◌, nat_lt, is_some, IfSome, slice_index_or, if◌then◌else◌, filter_map, slice_get}
use Rattle.std.specs.Option.{option_map, option_map_or, option_and_then, option_copied}
use Rattle.std.proofs.lemmas.Bool.Decides.{nat_tests}
use Rattle.std.proofs.lemmas.List.{map-append, append-nil}
use Rattle.std.proofs.lemmas.List.Elements.{filter-append}
use Rattle.std.proofs.lemmas.Option.{slice_get_past}
use Rattle.hw_types.specs.declared.unit.Digest.{Digest}
use Rattle.hw_types.specs.declared.unit.Need.{Need}
use Rattle.hw_types.specs.declared.unit.Need.TheVariants as need
use Rattle.hw_types.specs.declared.unit.Evidence.{Evidence}
use Rattle.hw_types.specs.declared.unit.Endorsement.{Endorsement}
use Rattle.hw_types.specs.declared.unit.Vertex.{Vertex}
use Rattle.hw_types.specs.declared.unit.Vertex.TheVariants as vertex
use Rattle.hw_types.specs.Graph.{digest_eq}
use Rattle.hw_types.specs.Settled.{need_eq}
use Rattle.hw_park.specs.declared.key.NeedKey.{NeedKey}
use Rattle.hw_core.specs.Journal.{told_need, tells, places_at, AreTold, HasSamePlaces, HasOnePlaceMore}
use Rattle.hw_core.specs.Readers.{signed_evidence, signed_endorsement}
use Rattle.hw_core.proofs.UnmetLaws.{get_of}

-- ---- what stands at a place

get_last : {A : Type 0} (xs : List A) (y : A) → slice_get (xs ++ y ∷ []) (length xs) ≡ Some y
get_last [] y = refl
get_last (x ∷ xs) y = get_last xs y

get_more : {A : Type 0} (xs : List A) (y : A) (n : ℕ) (x : A) → slice_get xs n ≡ Some x → slice_get (xs ++ y ∷ []) n ≡ Some x
get_more [] y n x h = absurd (let none : None ≡ Some x = sym (slice_get_past [] n (omega arith)) ∙ h in cc)
get_more (z ∷ zs) y zero x h = h
get_more (z ∷ zs) y (suc n) x h = get_more zs y n x h

abbrev head_of : {A : Type 0} → List (Option A) → Option A
head_of [] = None
head_of (o ∷ os) = o

abbrev tail_of : {A : Type 0} → List (Option A) → List (Option A)
tail_of [] = []
tail_of (o ∷ os) = os

-- places at which something stands still show it when the list is longer
all_more : {A : Type 0} (xs : List A) (y : A) (places : List ℕ) (found : List A) → map (slice_get xs) places ≡ map Some found → map (slice_get (xs ++ y ∷ [])) places ≡ map Some found
all_more xs y [] [] h = refl
all_more xs y [] (f ∷ fs) h = absurd (cc h)
all_more xs y (p ∷ ps) [] h = absurd (cc h)
all_more {A} xs y (p ∷ ps) (f ∷ fs) h =
    ap (λ (o : Option A). o ∷ map (slice_get (xs ++ y ∷ [])) ps) (get_more xs y p f (first h)) ∙ ap (λ (os : List (Option A)). Some f ∷ os) (all_more xs y ps fs (rest h))
  where
    first : map (slice_get xs) (p ∷ ps) ≡ map Some (f ∷ fs) → slice_get xs p ≡ Some f
    first e = ap head_of e

    rest : map (slice_get xs) (p ∷ ps) ≡ map Some (f ∷ fs) → map (slice_get xs) ps ≡ map Some fs
    rest e = ap tail_of e

-- ---- the table

pub told_none : (told : List (NeedKey × List ℕ)) → told ≡ [] → AreTold [] told
told_none told e n = ap (λ (t : List (NeedKey × List ℕ)). map (slice_get []) (places_at t n)) e

-- the same places are those of the same vertices
pub told_same : (journal : List Vertex) (old new : List (NeedKey × List ℕ)) → HasSamePlaces old new → AreTold journal old → AreTold journal new
told_same journal old new same are n = ap (map (slice_get journal)) (same n) ∙ are n

-- one vertex more
told_more : (journal : List Vertex) (v : Vertex) (told : List (NeedKey × List ℕ)) → AreTold journal told → (n : Need) → map (slice_get (journal ++ v ∷ [])) (places_at told n) ≡ map Some (filter (tells n) journal)
told_more journal v told are n = all_more journal v (places_at told n) (filter (tells n) journal) (are n)

-- one that tells of nothing
pub told_unit : (journal : List Vertex) (v : Vertex) (told : List (NeedKey × List ℕ)) → told_need v ≡ None → AreTold journal told → AreTold (journal ++ v ∷ []) told
told_unit journal v told none are n =
    told_more journal v told are n
    ∙ ap (map Some) (sym (append-nil (filter (tells n) journal)) ∙ ap (λ (vs : List Vertex). filter (tells n) journal ++ vs) (sym nothing) ∙ sym (filter-append (tells n) journal (v ∷ [])))
  where
    nothing : filter (tells n) (v ∷ []) ≡ []
    nothing = ap (λ (o : Option Need). cond (option_map_or (need_eq n) o false) (v ∷ []) []) none

-- one that tells of this need, whose place is put under it
pub told_put : (journal : List Vertex) (v : Vertex) (m : Need) (old new : List (NeedKey × List ℕ)) → told_need v ≡ Some m → HasOnePlaceMore old new m (length journal) → AreTold journal old → AreTold (journal ++ v ∷ []) new
told_put journal v m old new is put are n =
    ap (map (slice_get (journal ++ v ∷ []))) (put n)
    ∙ map-append (slice_get (journal ++ v ∷ [])) (places_at old n) (if need_eq n m then length journal ∷ [] else [])
    ∙ ap (λ (os : List (Option Vertex)). os ++ map (slice_get (journal ++ v ∷ [])) (if need_eq n m then length journal ∷ [] else [])) (told_more journal v old are n)
    ∙ ap (λ (os : List (Option Vertex)). map Some (filter (tells n) journal) ++ os) (last (need_eq n m) refl)
    ∙ sym (map-append Some (filter (tells n) journal) (filter (tells n) (v ∷ [])))
    ∙ ap (map Some) (sym (filter-append (tells n) journal (v ∷ [])))
  where
    last : (b : Bool) → need_eq n m ≡ b → map (slice_get (journal ++ v ∷ [])) (if need_eq n m then length journal ∷ [] else []) ≡ map Some (filter (tells n) (v ∷ []))
    last b e =
        ap (λ (c : Bool). map (slice_get (journal ++ v ∷ [])) (if c then length journal ∷ [] else [])) e
        ∙ go b
        ∙ ap (λ (c : Bool). map Some (cond c (v ∷ []) [])) (sym e ∙ ap (λ (o : Option Need). option_map_or (need_eq n) o false) (sym is))
      where
        go : (c : Bool) → map (slice_get (journal ++ v ∷ [])) (if c then length journal ∷ [] else []) ≡ map Some (cond c (v ∷ []) [])
        go true = ap (λ (o : Option Vertex). o ∷ []) (get_last journal v)
        go false = refl

-- ---- what is read

get_map : {A B : Type 0} (f : A → B) (xs : List A) (n : ℕ) → slice_get (map f xs) n ≡ option_map f (slice_get xs n)
get_map f [] n = slice_get_past [] n (omega arith) ∙ sym (ap (option_map f) (slice_get_past [] n (omega arith)))
get_map f (x ∷ xs) zero = refl
get_map f (x ∷ xs) (suc n) = get_map f xs n

-- what stands at a place that stands at a place
pub told_found : (journal : List Vertex) (told : List (NeedKey × List ℕ)) (n : Need) (place : ℕ) → AreTold journal told
    → option_and_then (λ p. slice_get journal p) (slice_get (places_at told n) place) ≡ slice_get (filter (tells n) journal) place
told_found journal told n place are = go (slice_get (places_at told n) place) (slice_get (filter (tells n) journal) place)
    (sym (get_map (slice_get journal) (places_at told n) place) ∙ ap (λ (os : List (Option Vertex)). slice_get os place) (are n) ∙ get_map Some (filter (tells n) journal) place)
  where
    go : (o : Option ℕ) (r : Option Vertex) → option_map (slice_get journal) o ≡ option_map Some r → option_and_then (λ p. slice_get journal p) o ≡ r
    go None None e = refl
    go None (Some w) e = absurd (cc e)
    go (Some p) None e = absurd (cc e)
    go (Some p) (Some w) e = (let inner : Some (slice_get journal p) ≡ Some (Some w) = e in cc)

-- ---- evidence and endorsements by their kinds

pub evidence_told : (v : ℕ) (journal : List Vertex) → slice_get (filter (tells (need.Evidence v)) journal) 0 ≡ option_map vertex.Evidence (find (λ e. v == e.left.unit.creator) (filter_map signed_evidence journal))
evidence_told v [] = refl
evidence_told v (vertex.Unit u ∷ vs) = evidence_told v vs
evidence_told v (vertex.Endorsement e ∷ vs) = evidence_told v vs
evidence_told v (vertex.Evidence e ∷ vs) = go (v == e.left.unit.creator) (evidence_told v vs)
  where
    go : (b : Bool) → slice_get (filter (tells (need.Evidence v)) vs) 0 ≡ option_map vertex.Evidence (find (λ e. v == e.left.unit.creator) (filter_map signed_evidence vs))
        → slice_get (cond b (vertex.Evidence e ∷ filter (tells (need.Evidence v)) vs) (filter (tells (need.Evidence v)) vs)) 0 ≡ option_map vertex.Evidence (cond b (Some e) (find (λ e. v == e.left.unit.creator) (filter_map signed_evidence vs)))
    go true rest = refl
    go false rest = rest

endorsements_told : (d : Digest) (journal : List Vertex) → filter (tells (need.Endorsed d)) journal ≡ map vertex.Endorsement (filter (λ e. digest_eq d e.unit) (filter_map signed_endorsement journal))
endorsements_told d [] = refl
endorsements_told d (vertex.Unit u ∷ vs) = endorsements_told d vs
endorsements_told d (vertex.Evidence e ∷ vs) = endorsements_told d vs
endorsements_told d (vertex.Endorsement e ∷ vs) = go (digest_eq d e.unit) (endorsements_told d vs)
  where
    go : (b : Bool) → filter (tells (need.Endorsed d)) vs ≡ map vertex.Endorsement (filter (λ e. digest_eq d e.unit) (filter_map signed_endorsement vs))
        → cond b (vertex.Endorsement e ∷ filter (tells (need.Endorsed d)) vs) (filter (tells (need.Endorsed d)) vs) ≡ map vertex.Endorsement (cond b (e ∷ filter (λ e. digest_eq d e.unit) (filter_map signed_endorsement vs)) (filter (λ e. digest_eq d e.unit) (filter_map signed_endorsement vs)))
    go true rest = ap (λ (ws : List Vertex). vertex.Endorsement e ∷ ws) rest
    go false rest = rest

pub endorsement_told : (d : Digest) (journal : List Vertex) (place : ℕ) → slice_get (filter (tells (need.Endorsed d)) journal) place ≡ option_map vertex.Endorsement (slice_get (filter (λ e. digest_eq d e.unit) (filter_map signed_endorsement journal)) place)
endorsement_told d journal place = ap (λ (vs : List Vertex). slice_get vs place) (endorsements_told d journal) ∙ get_map vertex.Endorsement (filter (λ e. digest_eq d e.unit) (filter_map signed_endorsement journal)) place

-- the one that is shown, by its kind
pub is_evidence : (o : Option Evidence) (r : Option Vertex) → r ≡ option_map vertex.Evidence o → (e : Evidence) → r ≡ Some (vertex.Evidence e) → o ≡ Some e
is_evidence None r h e f = absurd (cc (sym h ∙ f))
is_evidence (Some x) r h e f = (let same : Some (vertex.Evidence x) ≡ Some (vertex.Evidence e) = sym h ∙ f in cc)

pub no_evidence : (o : Option Evidence) (r : Option Vertex) → r ≡ option_map vertex.Evidence o → ((e : Evidence) → r ≡ Some (vertex.Evidence e) → ⊥) → o ≡ None
no_evidence None r h none = refl
no_evidence (Some x) r h none = absurd (none x h)

pub is_endorsement : (o : Option Endorsement) (r : Option Vertex) → r ≡ option_map vertex.Endorsement o → (e : Endorsement) → r ≡ Some (vertex.Endorsement e) → o ≡ Some e
is_endorsement None r h e f = absurd (cc (sym h ∙ f))
is_endorsement (Some x) r h e f = (let same : Some (vertex.Endorsement x) ≡ Some (vertex.Endorsement e) = sym h ∙ f in cc)

pub no_endorsement : (o : Option Endorsement) (r : Option Vertex) → r ≡ option_map vertex.Endorsement o → ((e : Endorsement) → r ≡ Some (vertex.Endorsement e) → ⊥) → o ≡ None
no_endorsement None r h none = refl
no_endorsement (Some x) r h none = absurd (none x h)

-- ---- look-ups

-- what a look-up at a place gives
pub got : {A : Type 0} (xs : List A) (i : ℕ) (r : Option (Bor A)) → is_some r ≡ nat_lt i (length xs) → IfSome r (λ x. x.now ≡ slice_index_or xs i x.now) → option_copied r ≡ slice_get xs i
got xs i (Some x) some is =
    let lt : i < length xs = grind (arith, nat_tests) in
    ap Some is ∙ sym (get_of xs i x.now lt)
got xs i None none is =
    let le : length xs ≤ i = grind (arith, nat_tests) in
    sym (slice_get_past xs i le)
