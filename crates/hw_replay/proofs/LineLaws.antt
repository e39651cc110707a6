-- The lines of consumers, one after the other.
use Rattle.std.proofs.Common.{◌≡◌, ℕ, ◌+◌, List, [], ◌∷◌, ◌++◌, take, drop, Some, Result, Ok, Err, OnErr, sym, ap, ◌∙◌, append-nil, append_assoc}
use Rattle.std.specs.Prelude.{slice_get}
use Rattle.std.specs.List.{flat_map}
use Rattle.std.proofs.lemmas.List.{take_more, take-append-drop}
use Rattle.std.proofs.lemmas.Option.{slice_get_within, get_or_from_slice_get}
use Rattle.std.proofs.lemmas.Grind.{flat_map-append}
use Rattle.hw_text.specs.Lines.{AddsFront}

-- one more line
pub one_more : {X : Type 0} (f : X → List ℕ) (xs : List X) (i : ℕ) (x : X) → slice_get xs i ≡ Some x → flat_map f (take i xs) ++ f x ≡ flat_map f (take (i + 1) xs)
one_more f xs i x is =
    let within = slice_get_within xs i x is in
    sym (ap (flat_map f) (take_more xs i x within ∙ ap (λ y. take i xs ++ y ∷ []) (get_or_from_slice_get xs i x x is)) ∙ flat_map-append f (take i xs) (x ∷ []) ∙ ap (λ l. flat_map f (take i xs) ++ l) (append-nil (f x)))

-- what holds is said of an error too
pub on_err : {T E X : Type 0} (r : Result T E) → X → OnErr r X
on_err (Ok v) x = tt
on_err (Err e) x = x

-- the front of a part is a front of the part with more behind it
pub front_and_more : (old new a b part : List ℕ) → AddsFront old new a → a ++ b ≡ part → AddsFront old new part
front_and_more old new a b part added whole = record {
  front = added.front;
  rest = added.rest ++ b;
  whole = sym (append_assoc added.front added.rest b) ∙ ap (λ l. l ++ b) added.whole ∙ whole;
  last = added.last;
}

-- behind a part that stands, the front of the next one
pub part_and_front : (old between new a b : List ℕ) → between ≡ old ++ a → AddsFront between new b → AddsFront old new (a ++ b)
part_and_front old between new a b stands added = record {
  front = a ++ added.front;
  rest = added.rest;
  whole = append_assoc a added.front added.rest ∙ ap (λ l. a ++ l) added.whole;
  last = added.last ∙ ap (λ l. l ++ added.front) stands ∙ append_assoc old a added.front;
}

-- the lines up to one of which the front stands
pub lines_front : {X : Type 0} (f : X → List ℕ) (xs : List X) (i : ℕ) (x : X) (old between new : List ℕ) → slice_get xs i ≡ Some x
    → between ≡ old ++ flat_map f (take i xs) → AddsFront between new (f x) → AddsFront old new (flat_map f xs)
lines_front f xs i x old between new is stands added =
    let more = one_more f xs i x is in
    let all = sym (flat_map-append f (take (i + 1) xs) (drop (i + 1) xs)) ∙ ap (flat_map f) (take-append-drop (i + 1) xs) in
    front_and_more old new _ (flat_map f (drop (i + 1) xs)) _ (part_and_front old between new _ (f x) stands added)
    (ap (λ l. l ++ flat_map f (drop (i + 1) xs)) more ∙ all)
