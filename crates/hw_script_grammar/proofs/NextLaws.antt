-- Reading the next so many words, as a loop does.
use Rattle.std.proofs.Common.{◌≡◌, ℕ, suc, ◌-◌, ◌+◌, ◌≤◌, ◌<◌, List, [], ◌∷◌, ◌++◌, Option, Some, None, refl, sym, ap, ◌∙◌, append_assoc, append-nil, arith}
use Rattle.hw_script_grammar.specs.Words.{Word, Read, ◌>>=◌, next_word, next_each}

-- what was read before, and what is still read
abbrev pub with_front : {A : Type 0} → List A → Read (List A) → Read (List A)
with_front front read = read >>= λ x. Some (front ++ x.0, x.1)

module _ {A : Type 0} (read : Word → Option A) where
  regroup : (front : List A) (x : A) (o : Read (List A)) → with_front front (o >>= λ y. Some (x ∷ y.0, y.1)) ≡ with_front (front ++ x ∷ []) o
  regroup front x None = refl
  regroup front x (Some y) = ap (λ (xs : List A). Some (xs, y.1)) (sym (append_assoc front (x ∷ []) y.0))

  of_word : (n : ℕ) (w : Option (Word × List Word)) (ws : List Word) → next_word ws ≡ w → next_each read (suc n) ws ≡ (w >>= λ w. read w.0 >>= λ x. next_each read n w.1 >>= λ xs. Some (x ∷ xs.0, xs.1))
  unfolding next_each
  of_word n w ws is = ap (λ o. o >>= λ w. read w.0 >>= λ x. next_each read n w.1 >>= λ xs. Some (x ∷ xs.0, xs.1)) is

  -- one more word is read
  pub goes_on : (front : List A) (count i : ℕ) (ws : List Word) (w : Word) (rest : List Word) (x : A) → i < count → next_word ws ≡ Some (w, rest) → read w ≡ Some x
      → with_front front (next_each read (count - i) ws) ≡ with_front (front ++ x ∷ []) (next_each read (count - (i + 1)) rest)
  goes_on front count i ws w rest x within next is =
      let n : count - i ≡ suc (count - (i + 1)) = omega arith in
      ap (λ k. with_front front (next_each read k ws)) n
      ∙ ap (with_front front) (of_word (count - (i + 1)) (Some (w, rest)) ws next)
      ∙ ap (λ o. with_front front (o >>= λ x. next_each read (count - (i + 1)) rest >>= λ xs. Some (x ∷ xs.0, xs.1))) is
      ∙ regroup front x (next_each read (count - (i + 1)) rest)

  -- there is no word
  pub lacks : (front : List A) (count i : ℕ) (ws : List Word) → i < count → next_word ws ≡ None → with_front front (next_each read (count - i) ws) ≡ None
  lacks front count i ws within next =
      let n : count - i ≡ suc (count - (i + 1)) = omega arith in
      ap (λ k. with_front front (next_each read k ws)) n ∙ ap (with_front front) (of_word (count - (i + 1)) None ws next)

  -- the word isn't read
  pub stops : (front : List A) (count i : ℕ) (ws : List Word) (w : Word) (rest : List Word) → i < count → next_word ws ≡ Some (w, rest) → read w ≡ None
      → with_front front (next_each read (count - i) ws) ≡ None
  stops front count i ws w rest within next is =
      let n : count - i ≡ suc (count - (i + 1)) = omega arith in
      ap (λ k. with_front front (next_each read k ws)) n
      ∙ ap (with_front front) (of_word (count - (i + 1)) (Some (w, rest)) ws next)
      ∙ ap (λ o. with_front front (o >>= λ x. next_each read (count - (i + 1)) rest >>= λ xs. Some (x ∷ xs.0, xs.1))) is

  -- all are read
  pub is_done : (front : List A) (count i : ℕ) (ws : List Word) → count ≤ i → with_front front (next_each read (count - i) ws) ≡ Some (front, ws)
  unfolding next_each
  is_done front count i ws most =
      let n : count - i ≡ 0 = omega arith in
      ap (λ k. with_front front (next_each read k ws)) n ∙ ap (λ (xs : List A). Some (xs, ws)) (append-nil front)

  -- none was read so far
  pub begins : (count : ℕ) (ws : List Word) → with_front [] (next_each read (count - 0) ws) ≡ next_each read count ws
  begins count ws = let n : count - 0 ≡ count = omega arith in ap (λ k. with_front [] (next_each read k ws)) n ∙ go (next_each read count ws) where
    go : (o : Read (List A)) → with_front [] o ≡ o
    go None = refl
    go (Some x) = refl
