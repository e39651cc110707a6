-- Reading words to the end of a line, as a loop does.
use Rattle.std.proofs.Common.{◌≡◌, List, [], ◌∷◌, ◌++◌, Option, Some, None, true, false, refl, sym, ap, ◌∙◌, append_assoc, append-nil}
use Rattle.hw_script_grammar.specs.Words.{Word, ◌>>=◌, each, one_or_more, is_end}

-- what was read before, and what the words behind it are
abbrev pub with_front : {A : Type 0} → List A → Option (List A) → Option (List A)
with_front front o = o >>= λ xs. Some (front ++ xs)

module _ {A : Type 0} (read : Word → Option A) where
  regroup : (front : List A) (x : A) (o : Option (List A)) → with_front front (o >>= λ xs. Some (x ∷ xs)) ≡ with_front (front ++ x ∷ []) o
  regroup front x None = refl
  regroup front x (Some xs) = ap Some (sym (append_assoc front (x ∷ []) xs))

  -- nothing was read so far
  pub begins : (ws : List Word) → with_front [] (each read ws) ≡ each read ws
  begins ws = go (each read ws) where
    go : (o : Option (List A)) → with_front [] o ≡ o
    go None = refl
    go (Some xs) = refl

  -- one more word is read
  pub goes_on : (front : List A) (w : Word) (before ws : List Word) (x : A) → before ≡ w ∷ ws → read w ≡ Some x → with_front front (each read before) ≡ with_front (front ++ x ∷ []) (each read ws)
  unfolding each
  goes_on front w before ws x at is = ap (λ l. with_front front (each read l)) at ∙ ap (λ o. with_front front (o >>= λ y. each read ws >>= λ ys. Some (y ∷ ys))) is ∙ regroup front x (each read ws)

  -- a word isn't read, and so they aren't
  pub stops : (front : List A) (w : Word) (before ws : List Word) → before ≡ w ∷ ws → read w ≡ None → with_front front (each read before) ≡ None
  unfolding each
  stops front w before ws at is = ap (λ l. with_front front (each read l)) at ∙ ap (λ o. with_front front (o >>= λ y. each read ws >>= λ ys. Some (y ∷ ys))) is

  -- all words are read
  pub is_done : (front : List A) (before : List Word) → before ≡ [] → with_front front (each read before) ≡ Some front
  unfolding each
  is_done front before at = ap (λ l. with_front front (each read l)) at ∙ ap Some (append-nil front)

  -- there is a word
  pub some_words : (ws : List Word) → is_end ws ≡ false → one_or_more read ws ≡ each read ws
  unfolding one_or_more
  some_words [] e = absurd cc
  some_words (w ∷ ws) e = refl

  pub no_words : (ws : List Word) → is_end ws ≡ true → one_or_more read ws ≡ None
  unfolding one_or_more
  no_words [] e = refl
  no_words (w ∷ ws) e = absurd cc
