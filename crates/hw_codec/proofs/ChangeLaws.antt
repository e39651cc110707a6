-- Changes of a panorama: told slot by slot, and read one after the other.
use Rattle.std.proofs.Common.{◌≡◌, ℕ, zero, suc, ◌-◌, ◌+◌, ◌<◌, ◌≤◌, Bool, true, false, ◌||◌, ◌==◌, if◌then◌else◌, List, [], ◌∷◌, ◌++◌, Option, Some, None, length, take, set, get_or, Ok, Err, refl, sym, ap, ◌∙◌, append_assoc, arith, length-append}
use Rattle.std.specs.Option.{option_to_list}
use Rattle.std.proofs.lemmas.List.{append-nil, take_more, length-take-le}
use Rattle.hw_types.specs.Same.{obs_eq}
use Rattle.hw_types.specs.declared.answers.CodecError.{CodecError}
use Rattle.hw_types.specs.declared.answers.CodecError.TheVariants as error
use Rattle.hw_types.specs.declared.unit.Obs.{Obs}
use Rattle.hw_types.specs.Reading.{Rest, Read, ◌>>=◌, Fails}
use Rattle.hw_codec.specs.declared.compact.Change.{Change}
use Rattle.hw_codec.specs.Compact.{change_in, changes_from, change_at, changed_at}

-- ---- told

-- one more slot
pub changes_more : (creator slot : ℕ) (before now : List Obs) (b o : Obs) → length before ≡ length now
    → changes_from creator slot (before ++ b ∷ []) (now ++ o ∷ []) ≡ changes_from creator slot before now ++ change_in creator (slot + length before) b o
changes_more creator slot [] [] b o same = append-nil (change_in creator slot b o) ∙ ap (λ (n : ℕ). change_in creator n b o) (let is : slot ≡ slot + 0 = omega arith in is)
changes_more creator slot [] (x ∷ now) b o same = absurd (omega arith)
changes_more creator slot (x ∷ before) [] b o same = absurd (omega arith)
changes_more creator slot (x ∷ before) (y ∷ now) b o same =
    ap (λ (l : List Change). change_in creator slot x y ++ l) (changes_more creator (suc slot) before now b o (omega arith))
    ∙ sym (append_assoc (change_in creator slot x y) (changes_from creator (suc slot) before now) (change_in creator (suc slot + length before) b o))
    ∙ ap (λ (n : ℕ). (change_in creator slot x y ++ changes_from creator (suc slot) before now) ++ change_in creator n b o) (let is : suc slot + length before ≡ slot + suc (length before) = omega arith in is)

-- the changes with those of one more slot
pub one_more : (creator i : ℕ) (before now : List Obs) (d e : Obs) (made all : List Change) → length before ≡ length now → i < length now
    → made ≡ changes_from creator 0 (take i before) (take i now) → all ≡ made ++ change_in creator i (get_or before i d) (get_or now i e)
    → all ≡ changes_from creator 0 (take (i + 1) before) (take (i + 1) now)
one_more creator i before now d e made all same lt is more =
    let b = get_or before i d in
    let o = get_or now i e in
    let long : length (take i before) ≡ i = length-take-le i before (omega arith) in
    let even : length (take i before) ≡ length (take i now) = omega (arith, length-take-le i now (omega arith)) in
    more
    ∙ ap (λ (l : List Change). l ++ change_in creator i b o) is
    ∙ ap (λ (n : ℕ). changes_from creator 0 (take i before) (take i now) ++ change_in creator n b o) (let at : i ≡ 0 + length (take i before) = omega arith in at)
    ∙ sym (changes_more creator 0 (take i before) (take i now) b o even)
    ∙ ap (λ (l : List Obs). changes_from creator 0 l (take i now ++ o ∷ [])) (sym (take_more before i d (omega arith)))
    ∙ ap (λ (l : List Obs). changes_from creator 0 (take (i + 1) before) l) (sym (take_more now i e lt))

abbrev alone : Bool → ℕ → Obs → List Change
alone none slot o = if none then [] else (record { slot = slot; obs = o } ∷ [])

alone_few : (none : Bool) (slot : ℕ) (o : Obs) → length (alone none slot o) ≤ 1
alone_few true slot o = omega arith
alone_few false slot o = omega arith

-- at most one a slot
change_few : (creator slot : ℕ) (b o : Obs) → length (change_in creator slot b o) ≤ 1
change_few creator slot b o = alone_few ((slot == creator) || obs_eq o b) slot o

pub one_or_none : (o : Option Change) → length (option_to_list o) ≤ 1
one_or_none None = omega arith
one_or_none (Some c) = omega arith

pub changes_few : (creator slot : ℕ) (before now : List Obs) → length (changes_from creator slot before now) ≤ length now
changes_few creator slot [] [] = omega arith
changes_few creator slot [] (o ∷ now) = omega arith
changes_few creator slot (b ∷ before) [] = omega arith
changes_few creator slot (b ∷ before) (o ∷ now) =
    omega (arith, length-append (change_in creator slot b o) (changes_from creator (suc slot) before now), change_few creator slot b o, changes_few creator (suc slot) before now)

-- ---- read

-- one more change is made
pub goes_on : (creator n i from : ℕ) (panorama : List Obs) (r : Rest) (c : Change) (after : Rest) (total : Read (List Obs)) → i < n → change_at creator from panorama r ≡ Ok (c, after)
    → changed_at creator (n - i) from panorama r ≡ total → changed_at creator (n - (i + 1)) (c.slot + 1) (set panorama c.slot c.obs) after ≡ total
unfolding changed_at
goes_on creator n i from panorama r c after total lt h so_far =
    let k : n - i ≡ suc (n - (i + 1)) = omega arith in
    let one : changed_at creator (n - i) from panorama r ≡ changed_at creator (n - (i + 1)) (c.slot + 1) (set panorama c.slot c.obs) after = rw (k, h) refl in
    sym one ∙ so_far

stops : (d : CodecError) (creator n i from : ℕ) (panorama : List Obs) (r : Rest) (total : Read (List Obs)) → i < n → change_at creator from panorama r ≡ Err d
    → changed_at creator (n - i) from panorama r ≡ total → total ≡ Err d
unfolding changed_at
stops d creator n i from panorama r total lt h so_far =
    let k : n - i ≡ suc (n - (i + 1)) = omega arith in
    let one : changed_at creator (n - i) from panorama r ≡ Err d = rw (k, h) refl in
    sym so_far ∙ one

-- a change isn't read, and so the panorama isn't
pub ends : (e : CodecError) (creator n i from : ℕ) (panorama : List Obs) (r : Rest) (total : Read (List Obs)) → i < n → Fails e (change_at creator from panorama r)
    → changed_at creator (n - i) from panorama r ≡ total → Fails e total
ends error.OutOfMemory creator n i from panorama r total lt h so_far = tt
ends (error.Truncated at) creator n i from panorama r total lt h so_far = stops (error.Truncated at) creator n i from panorama r total lt h so_far
ends (error.Trailing at) creator n i from panorama r total lt h so_far = stops (error.Trailing at) creator n i from panorama r total lt h so_far
ends (error.BadTag at) creator n i from panorama r total lt h so_far = stops (error.BadTag at) creator n i from panorama r total lt h so_far
ends (error.TooLong at) creator n i from panorama r total lt h so_far = stops (error.TooLong at) creator n i from panorama r total lt h so_far
ends (error.OutOfRange at) creator n i from panorama r total lt h so_far = stops (error.OutOfRange at) creator n i from panorama r total lt h so_far

-- all changes are made
pub is_done : (creator n i from : ℕ) (panorama : List Obs) (r : Rest) (total : Read (List Obs)) → n ≤ i → changed_at creator (n - i) from panorama r ≡ total → total ≡ Ok (panorama, r)
unfolding changed_at
is_done creator n i from panorama r total le so_far =
    let k : n - i ≡ 0 = omega arith in
    let one : changed_at creator (n - i) from panorama r ≡ Ok (panorama, r) = rw k refl in
    sym so_far ∙ one
