-- Consumers that are served one after the other.
use Rattle.std.proofs.Common.{◌≡◌, ℕ, zero, suc, ◌+◌, ◌<◌, ◌≤◌, List, [], ◌∷◌, ◌++◌, length, map, get_or, set, Some, None, refl, sym, ◌∙◌, ap, subst, arith, append_assoc, take}
use Rattle.std.specs.Prelude.{filter, filter_map, All, slice_index, drop}
use Rattle.std.specs.List.{remove, range_with_len}
use Rattle.std.proofs.lemmas.Grind.{common_steps}
use Rattle.std.proofs.lemmas.List.{map-append, append-nil, nil_from_length}
use Rattle.std.proofs.lemmas.List.Elements.{filter-append, filter_map-append, All-append, All-cons, All-nil}
use Rattle.std.proofs.Math.Seq.{set-append_seam, get_or-append_seam, drop-append_seam}
use Rattle.hw_replay.specs.declared.ending.Ending.{Ending}
use Rattle.hw_replay.specs.State.{FanoutState}
use Rattle.hw_replay.specs.Fates.{Fate, is_left, dropped_as, gone_as, AreServed}

-- The first consumers of the list met their fates, and the rest is as it was. The next one is at this index.
pub record AreUnderWay {B : Type 0} (meets : Fate B → Type 0) (old new : List B) (before after : FanoutState B) (index : ℕ) : Type 0 where
  pub fates : List (Fate B)
  pub each : All meets fates
  pub rest : List B
  pub whole : old ≡ map (λ fate. fate.before) fates ++ rest
  pub left : new ≡ map (λ fate. fate.after) (filter is_left fates) ++ rest
  pub spare : List ℕ
  pub numbered : before.places ≡ map (λ fate. fate.place) fates ++ spare
  pub places : after.places ≡ map (λ fate. fate.place) (filter is_left fates) ++ spare
  pub drops : after.drops ≡ before.drops ++ filter_map dropped_as fates
  pub gone : after.gone ≡ before.gone ++ filter_map gone_as fates
  pub next : index ≡ length (filter is_left fates)
  pub enough : length rest ≤ length spare

-- one number more
pub range_more : (a n : ℕ) → range_with_len a (n + 1) ≡ range_with_len a n ++ (a + n) ∷ []
range_more a zero = grind arith
range_more a (suc n) = grind (arith, range_more (a + 1) n)

-- the element at a place, as a list of one
pub one_at : {X : Type 0} (l : List X) (i : ℕ) (d : X) → i < length l → take 1 (drop i l) ≡ get_or l i d ∷ []
one_at [] i d lt = absurd (omega (arith, lt))
one_at (x ∷ xs) zero d lt = refl
one_at (x ∷ xs) (suc i) d lt = one_at xs i d (omega (arith, lt))

-- ---- at the seam of two lists

seam_removed : {X : Type 0} (xs : List X) (y : X) (ys : List X) → remove (xs ++ y ∷ ys) (length xs) ≡ xs ++ ys
seam_removed [] y ys = refl
seam_removed (x ∷ xs) y ys = ap (λ l. x ∷ l) (seam_removed xs y ys)

-- a list that isn't empty has a first element
first_of : {X : Type 0} (xs : List X) → 0 < length xs → (x : X) × ((ys : List X) × (xs ≡ x ∷ ys))
first_of [] some = absurd (omega (arith, some))
first_of (x ∷ xs) some = (x, (xs, refl))

-- the same, by the place of the seam
removed_at : {X : Type 0} (l xs : List X) (y : X) (ys : List X) (i : ℕ) → l ≡ xs ++ y ∷ ys → i ≡ length xs → remove l i ≡ xs ++ ys
removed_at l xs y ys i e n = ap (λ k. remove l k) n ∙ ap (λ k. remove k (length xs)) e ∙ seam_removed xs y ys

set_at : {X : Type 0} (l xs : List X) (y : X) (ys : List X) (i : ℕ) (a : X) → l ≡ xs ++ y ∷ ys → i ≡ length xs → set l i a ≡ xs ++ a ∷ ys
set_at l xs y ys i a e n = ap (λ k. set l k a) n ∙ ap (λ k. set k (length xs) a) e ∙ set-append_seam xs y ys a

found_at : {X : Type 0} (l xs : List X) (y : X) (ys : List X) (i : ℕ) (d : X) → l ≡ xs ++ y ∷ ys → i ≡ length xs → get_or l i d ≡ y
found_at l xs y ys i d e n = ap (λ k. get_or l k d) n ∙ ap (λ k. get_or k (length xs) d) e ∙ get_or-append_seam xs y ys d

one_found : {X : Type 0} (l xs : List X) (y : X) (ys : List X) (i : ℕ) → l ≡ xs ++ y ∷ ys → i ≡ length xs → take 1 (drop i l) ≡ y ∷ []
one_found l xs y ys i e n = ap (λ k. take 1 (drop k l)) n ∙ ap (λ k. take 1 (drop (length xs) k)) e ∙ ap (take 1) (drop-append_seam xs (y ∷ ys))

-- the first of the rest, put last of what is before
moved : {X : Type 0} (l xs : List X) (y : X) (ys : List X) → l ≡ xs ++ y ∷ ys → l ≡ (xs ++ y ∷ []) ++ ys
moved l xs y ys e = e ∙ sym (append_assoc xs (y ∷ []) ys)

-- one more element, of which the rest tells
extended : {X Y : Type 0} (f : X → Y) (l : List Y) (xs : List X) (x : X) (rest others : List Y) → l ≡ map f xs ++ rest → rest ≡ f x ∷ others → l ≡ map f (xs ++ x ∷ []) ++ others
extended f l xs x rest others e r = moved l (map f xs) (f x) others (e ∙ ap (λ k. map f xs ++ k) r) ∙ ap (λ k. k ++ others) (sym (map-append f xs (x ∷ [])))

-- ---- the start and the end

pub begins : {B : Type 0} (meets : Fate B → Type 0) (old : List B) (before : FanoutState B) → length old ≤ length before.places → AreUnderWay meets old old before before 0
begins meets old before enough = record {
  fates = [];
  each = All-nil meets;
  rest = old;
  whole = refl;
  left = refl;
  spare = before.places;
  numbered = refl;
  places = refl;
  drops = sym (append-nil before.drops);
  gone = sym (append-nil before.gone);
  next = refl;
  enough = enough;
}

-- how many are there: those that are left, and the rest
there : {B : Type 0} (meets : Fate B → Type 0) (old new : List B) (before after : FanoutState B) (index : ℕ) → (u : AreUnderWay meets old new before after index) → length new ≡ index + length u.rest
there meets old new before after index u = grind (arith, common_steps, u.left, u.next)

-- and for each there is a place
pub has_places : {B : Type 0} (meets : Fate B → Type 0) (old new : List B) (before after : FanoutState B) (index : ℕ) → AreUnderWay meets old new before after index → length new ≤ length after.places
has_places meets old new before after index u = grind (arith, common_steps, u.places, u.next, u.enough, there meets old new before after index u)

pub ends : {B : Type 0} (meets : Fate B → Type 0) (old new : List B) (before after : FanoutState B) (index : ℕ) → AreUnderWay meets old new before after index → length new ≤ index → AreServed meets old new before after
ends meets old new before after index u over =
    let none : u.rest ≡ [] = nil_from_length u.rest (omega (arith, over, there meets old new before after index u)) in
    record {
      fates = u.fates;
      each = u.each;
      whole = u.whole ∙ ap (λ l. map (λ fate. fate.before) u.fates ++ l) none ∙ append-nil _;
      left = u.left ∙ ap (λ l. map (λ fate. fate.after) (filter is_left u.fates) ++ l) none ∙ append-nil _;
      spare = u.spare;
      numbered = u.numbered;
      places = u.places;
      drops = u.drops;
      gone = u.gone;
    }

-- ---- one step

-- the next consumer and its place
record HasNext {B : Type 0} (rest : List B) (spare : List ℕ) : Type 0 where
  first : B
  others : List B
  rest_is : rest ≡ first ∷ others
  place : ℕ
  unused : List ℕ
  spare_is : spare ≡ place ∷ unused

next_of : {B : Type 0} (rest : List B) (spare : List ℕ) → 0 < length rest → length rest ≤ length spare → HasNext rest spare
next_of rest spare some enough =
    let r = first_of rest some in
    let p = first_of spare (omega (arith, some, enough)) in
    record { first = r.0; others = r.1.0; rest_is = r.1.1; place = p.0; unused = p.1.0; spare_is = p.1.1 }

next_in : {B : Type 0} (meets : Fate B → Type 0) (old new : List B) (before after : FanoutState B) (index : ℕ) → (u : AreUnderWay meets old new before after index) → index < length new → HasNext u.rest u.spare
next_in meets old new before after index u here = next_of u.rest u.spare (omega (arith, here, there meets old new before after index u)) u.enough

-- it is the one at the index
next_is : {B : Type 0} (meets : Fate B → Type 0) (old new : List B) (before after : FanoutState B) (index : ℕ) (b : B) → (u : AreUnderWay meets old new before after index) → b ≡ get_or new index b → (n : HasNext u.rest u.spare) → n.first ≡ b
next_is meets old new before after index b u is n =
    sym (found_at new (map (λ fate. fate.after) (filter is_left u.fates)) n.first n.others index b (u.left ∙ ap (λ l. map (λ fate. fate.after) (filter is_left u.fates) ++ l) n.rest_is) (grind (arith, common_steps, u.next))) ∙ sym is

place_is : {B : Type 0} (meets : Fate B → Type 0) (old new : List B) (before after : FanoutState B) (index : ℕ) → (u : AreUnderWay meets old new before after index) → (n : HasNext u.rest u.spare) → n.place ≡ slice_index after.places index
place_is meets old new before after index u n =
    sym (found_at after.places (map (λ fate. fate.place) (filter is_left u.fates)) n.place n.unused index 0 (u.places ∙ ap (λ l. map (λ fate. fate.place) (filter is_left u.fates) ++ l) n.spare_is) (grind (arith, common_steps, u.next)))

-- the fate of one more consumer that is left
pub leaves : {B : Type 0} (meets : Fate B → Type 0) (old new : List B) (before after : FanoutState B) (index : ℕ) (b a : B) → AreUnderWay meets old new before after index → index < length new
    → b ≡ get_or new index b → meets (record { place = slice_index after.places index; before = b; after = a; ended = None })
    → AreUnderWay meets old (set new index a) before after (index + 1)
leaves meets old new before after index b a u here is met =
    let n = next_in meets old new before after index u here in
    let fate : Fate _ = record { place = slice_index after.places index; before = b; after = a; ended = None } in
    let kept = filter is_left u.fates in
    let more : filter is_left (u.fates ++ fate ∷ []) ≡ kept ++ fate ∷ [] = filter-append is_left u.fates (fate ∷ []) in
    let rest_is : u.rest ≡ b ∷ n.others = n.rest_is ∙ ap (λ x. x ∷ n.others) (next_is meets old new before after index b u is n) in
    let spare_is : u.spare ≡ fate.place ∷ n.unused = n.spare_is ∙ ap (λ x. x ∷ n.unused) (place_is meets old new before after index u n) in
    record {
      fates = u.fates ++ fate ∷ [];
      each = All-append meets u.fates (fate ∷ []) u.each (All-cons meets fate [] met (All-nil meets));
      rest = n.others;
      whole = extended (λ f. f.before) old u.fates fate u.rest n.others u.whole rest_is;
      left = set_at new (map (λ f. f.after) kept) n.first n.others index a (u.left ∙ ap (λ l. map (λ f. f.after) kept ++ l) n.rest_is) (grind (arith, common_steps, u.next))
          ∙ extended (λ f. f.after) _ kept fate (a ∷ n.others) n.others refl refl ∙ ap (λ l. map (λ f. f.after) l ++ n.others) (sym more);
      spare = n.unused;
      numbered = extended (λ f. f.place) before.places u.fates fate u.spare n.unused u.numbered spare_is;
      places = extended (λ f. f.place) after.places kept fate u.spare n.unused u.places spare_is ∙ ap (λ l. map (λ f. f.place) l ++ n.unused) (sym more);
      drops = u.drops ∙ ap (λ l. before.drops ++ l) (sym (filter_map-append dropped_as u.fates (fate ∷ []) ∙ append-nil _));
      gone = u.gone ∙ ap (λ l. before.gone ++ l) (sym (filter_map-append gone_as u.fates (fate ∷ []) ∙ append-nil _));
      next = grind (arith, common_steps, u.next, more);
      enough = omega (arith, u.enough, ap length n.rest_is, ap length n.spare_is);
    }

-- the fate of one more consumer that is dropped
pub drops : {B : Type 0} (meets : Fate B → Type 0) (old new : List B) (before after later : FanoutState B) (index : ℕ) (b a : B) (ending : Ending) → AreUnderWay meets old new before after index → index < length new
    → b ≡ get_or new index b → meets (record { place = slice_index after.places index; before = b; after = a; ended = Some ending })
    → later.places ≡ remove after.places index → later.drops ≡ after.drops ++ record { place = slice_index after.places index; ending = ending } ∷ []
    → later.gone ≡ after.gone ++ take 1 (drop index (set new index a))
    → AreUnderWay meets old (remove (set new index a) index) before later index
drops meets old new before after later index b a ending u here is met places dropped gone =
    let n = next_in meets old new before after index u here in
    let fate : Fate _ = record { place = slice_index after.places index; before = b; after = a; ended = Some ending } in
    let kept = filter is_left u.fates in
    let same : filter is_left (u.fates ++ fate ∷ []) ≡ kept = filter-append is_left u.fates (fate ∷ []) ∙ append-nil kept in
    let at : index ≡ length (map (λ f. f.after) kept) = grind (arith, common_steps, u.next) in
    let rest_is : u.rest ≡ b ∷ n.others = n.rest_is ∙ ap (λ x. x ∷ n.others) (next_is meets old new before after index b u is n) in
    let spare_is : u.spare ≡ fate.place ∷ n.unused = n.spare_is ∙ ap (λ x. x ∷ n.unused) (place_is meets old new before after index u n) in
    let put : set new index a ≡ map (λ f. f.after) kept ++ a ∷ n.others = set_at new (map (λ f. f.after) kept) n.first n.others index a (u.left ∙ ap (λ l. map (λ f. f.after) kept ++ l) n.rest_is) at in
    record {
      fates = u.fates ++ fate ∷ [];
      each = All-append meets u.fates (fate ∷ []) u.each (All-cons meets fate [] met (All-nil meets));
      rest = n.others;
      whole = extended (λ f. f.before) old u.fates fate u.rest n.others u.whole rest_is;
      left = removed_at (set new index a) (map (λ f. f.after) kept) a n.others index put at
          ∙ ap (λ l. map (λ f. f.after) l ++ n.others) (sym same);
      spare = n.unused;
      numbered = extended (λ f. f.place) before.places u.fates fate u.spare n.unused u.numbered spare_is;
      places = places ∙ removed_at after.places (map (λ f. f.place) kept) n.place n.unused index (u.places ∙ ap (λ l. map (λ f. f.place) kept ++ l) n.spare_is) (grind (arith, common_steps, u.next))
          ∙ ap (λ l. map (λ f. f.place) l ++ n.unused) (sym same);
      drops = dropped ∙ ap (λ l. l ++ record { place = slice_index after.places index; ending = ending } ∷ []) u.drops
          ∙ append_assoc before.drops (filter_map dropped_as u.fates) _ ∙ ap (λ l. before.drops ++ l) (sym (filter_map-append dropped_as u.fates (fate ∷ [])));
      gone = gone ∙ ap (λ l. after.gone ++ l) (one_found (set new index a) (map (λ f. f.after) kept) a n.others index put at) ∙ ap (λ l. l ++ a ∷ []) u.gone
          ∙ append_assoc before.gone (filter_map gone_as u.fates) _ ∙ ap (λ l. before.gone ++ l) (sym (filter_map-append gone_as u.fates (fate ∷ [])));
      next = u.next ∙ ap length (sym same);
      enough = omega (arith, u.enough, ap length n.rest_is, ap length n.spare_is);
    }

-- the same, of a list that is known by an equation
pub after_drop : {B : Type 0} (meets : Fate B → Type 0) (old new : List B) (before after : FanoutState B) (index : ℕ) (now : List B) → AreUnderWay meets old new before after index → now ≡ new → AreUnderWay meets old now before after index
after_drop meets old new before after index now u e = let P : List _ → Type 0 = λ l. AreUnderWay meets old l before after index in subst P (sym e) u

-- how many blocks were passed on doesn't count there
pub later_served : {B : Type 0} (meets : Fate B → Type 0) (old new : List B) (before after later : FanoutState B) → later.places ≡ after.places → later.drops ≡ after.drops → later.gone ≡ after.gone → AreServed meets old new before after → AreServed meets old new before later
later_served meets old new before after later places drops gone s = record {
  fates = s.fates;
  each = s.each;
  whole = s.whole;
  left = s.left;
  spare = s.spare;
  numbered = s.numbered;
  places = places ∙ s.places;
  drops = drops ∙ s.drops;
  gone = gone ∙ s.gone;
}
