-- Reading values one after the other, as a loop does.
use Rattle.std.proofs.Common.{◌≡◌, ℕ, suc, ◌-◌, ◌+◌, ◌≤◌, ◌<◌, List, [], ◌∷◌, ◌++◌, Ok, Err, refl, sym, ap, ◌∙◌, append_assoc, arith}
use Rattle.std.proofs.lemmas.List.{append-nil}
use Rattle.hw_types.specs.declared.answers.CodecError.{CodecError}
use Rattle.hw_types.specs.declared.answers.CodecError.TheVariants as error
use Rattle.hw_types.specs.Reading.{Rest, Read, ◌>>=◌, Fails, many_at}

-- what was read before, and what is still read
abbrev pub with_front : {A : Type 0} → List A → Read (List A) → Read (List A)
with_front front read = read >>= λ x. Ok (front ++ x.0, x.1)

module _ {A : Type 0} (item : Rest → Read A) where
  regroup : (front : List A) (x : A) (read : Read (List A)) → with_front front (read >>= λ y. Ok (x ∷ y.0, y.1)) ≡ with_front (front ++ x ∷ []) read
  regroup front x (Ok y) = ap (λ (xs : List A). Ok (xs, y.1)) (simp append_assoc)
  regroup front x (Err f) = refl

  -- one more value is read
  pub goes_on : (front : List A) (count i : ℕ) (r : Rest) (x : A) (after : Rest) (total : Read (List A)) → i < count → item r ≡ Ok (x, after)
      → with_front front (many_at item (count - i) r) ≡ total → with_front (front ++ x ∷ []) (many_at item (count - (i + 1)) after) ≡ total
  unfolding many_at
  goes_on front count i r x after total lt h so_far =
      let k : count - i ≡ suc (count - (i + 1)) = omega arith in
      let one : with_front front (many_at item (count - i) r) ≡ with_front (front ++ x ∷ []) (many_at item (count - (i + 1)) after) = rw (k, h) (regroup front x (many_at item (count - (i + 1)) after)) in
      sym one ∙ so_far

  stops : (d : CodecError) (front : List A) (count i : ℕ) (r : Rest) (total : Read (List A)) → i < count → item r ≡ Err d
      → with_front front (many_at item (count - i) r) ≡ total → total ≡ Err d
  unfolding many_at
  stops d front count i r total lt h so_far =
      let k : count - i ≡ suc (count - (i + 1)) = omega arith in
      let one : with_front front (many_at item (count - i) r) ≡ Err d = rw (k, h) refl in
      sym so_far ∙ one

  -- a value isn't read, and so the list isn't
  pub ends : (e : CodecError) (front : List A) (count i : ℕ) (r : Rest) (total : Read (List A)) → i < count → Fails e (item r)
      → with_front front (many_at item (count - i) r) ≡ total → Fails e total
  ends error.OutOfMemory front count i r total lt h so_far = tt
  ends (error.Truncated at) front count i r total lt h so_far = stops (error.Truncated at) front count i r total lt h so_far
  ends (error.Trailing at) front count i r total lt h so_far = stops (error.Trailing at) front count i r total lt h so_far
  ends (error.BadTag at) front count i r total lt h so_far = stops (error.BadTag at) front count i r total lt h so_far
  ends (error.TooLong at) front count i r total lt h so_far = stops (error.TooLong at) front count i r total lt h so_far
  ends (error.OutOfRange at) front count i r total lt h so_far = stops (error.OutOfRange at) front count i r total lt h so_far

  -- all values are read
  pub is_done : (front : List A) (count i : ℕ) (r : Rest) (total : Read (List A)) → count ≤ i → with_front front (many_at item (count - i) r) ≡ total → total ≡ Ok (front, r)
  unfolding many_at
  is_done front count i r total le so_far =
      let k : count - i ≡ 0 = omega arith in
      let one : with_front front (many_at item (count - i) r) ≡ Ok (front, r) = rw k (ap (λ (xs : List A). Ok (xs, r)) (append-nil front)) in
      sym so_far ∙ one
