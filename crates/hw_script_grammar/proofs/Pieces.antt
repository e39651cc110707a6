-- Bytes cut at the first byte of a kind.
use Rattle.std.proofs.Common.{◌≡◌, ℕ, ◌+◌, ◌<◌, ◌≤◌, List, [], ◌∷◌, Bool, true, false, cond, length, take, drop, Option, Some, None, refl, ap, ◌∙◌, arith}
use Rattle.std.specs.Prelude.{nat_lt, ◌==◌}
use Rattle.std.specs.List.{slice_split, onto_first, position, position_or_len}
use Rattle.hw_script_grammar.specs.Words.{is_end, pieces}
use Rattle.hw_script_grammar.specs.Texts.{without_last_empty}
use Rattle.std.proofs.lemmas.Bool.{ltb-false, ltb-true}
use Rattle.std.proofs.lemmas.List.Splits.{slice_split_none, slice_split_first}
use Rattle.std.proofs.lemmas.List.Sums.{fails_before_first}

pub none_when : (b : Bool) (n : ℕ) → cond b (Some n) None ≡ None → b ≡ false
none_when true n e = cc
none_when false n e = refl

pub some_when : (b : Bool) (n i : ℕ) → cond b (Some n) None ≡ Some i → (b ≡ true) × (n ≡ i)
some_when true n i e = (refl, cc)
some_when false n i e = cc

of_step : (b : Bool) (x : ℕ) (parts : List (List ℕ)) → is_end (cond b ([] ∷ parts) (onto_first x parts)) ≡ false
of_step true x parts = refl
of_step false x [] = refl
of_step false x (part ∷ parts) = refl

-- nothing is cut where no byte is of the kind
pub cut_nowhere : (p : ℕ → Bool) (xs : List ℕ) → position p xs ≡ None → slice_split p xs ≡ xs ∷ []
cut_nowhere p xs e =
    let short : length xs ≤ position_or_len p xs = ltb-false _ _ (none_when (nat_lt (position_or_len p xs) (length xs)) (position_or_len p xs) e) in
    slice_split_none p xs (λ k d h. fails_before_first p xs k d (omega arith))

-- the first piece ends before the first byte of the kind
pub cut_there : (p : ℕ → Bool) (xs : List ℕ) (i : ℕ) → position p xs ≡ Some i → slice_split p xs ≡ take i xs ∷ slice_split p (drop (i + 1) xs)
cut_there p xs i e =
    let is = some_when (nat_lt (position_or_len p xs) (length xs)) (position_or_len p xs) i e in
    let lt : position_or_len p xs < length xs = ltb-true _ _ is.0 in
    slice_split_first p xs 0 lt ∙ ap (λ n. take n xs ∷ slice_split p (drop (n + 1) xs)) is.1

-- there is a piece of any bytes
pub some_piece : (p : ℕ → Bool) (xs : List ℕ) → is_end (slice_split p xs) ≡ false
some_piece p [] = refl
some_piece p (x ∷ xs) = of_step (p x) x (slice_split p xs)

not_last : (parts : List (List ℕ)) → is_end parts ≡ false → without_last_empty ([] ∷ parts) ≡ [] ∷ without_last_empty parts
not_last [] e = absurd cc
not_last (part ∷ parts) e = refl

some_more : (bytes : List ℕ) → without_last_empty ([] ∷ pieces 10 (Some bytes)) ≡ [] ∷ without_last_empty (pieces 10 (Some bytes))
some_more bytes = not_last (pieces 10 (Some bytes)) (some_piece (λ c. c == 10) bytes)

-- a text in front of others; an empty one at the end is none
pub one_text : (text : List ℕ) (behind : Option (List ℕ)) → (text ≡ [] → behind ≡ None → ⊥) → without_last_empty (text ∷ pieces 10 behind) ≡ text ∷ without_last_empty (pieces 10 behind)
one_text [] None some = absurd (some refl refl)
one_text [] (Some bytes) some = some_more bytes
one_text (c ∷ cs) behind some = refl
