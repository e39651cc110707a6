-- Digests put in rising order.
use Rattle.std.proofs.Common.{◌≡◌, ℕ, suc, ◌+◌, ◌<◌, ◌≤◌, List, [], ◌∷◌, ◌++◌, Bool, true, false, not, cond, length, take, drop, get_or, Some, None, refl, sym, ap, ◌∙◌, arith}
use Rattle.std.specs.Prelude.{nat_lt}
use Rattle.std.specs.List.{insert, position, position_or_len}
use Rattle.std.proofs.lemmas.Bool.{ltb-false}
use Rattle.std.proofs.lemmas.List.{take_more, take_all, drop_all}
use Rattle.std.proofs.lemmas.List.Sums.{fold-append}
use Rattle.hw_script_grammar.proofs.Pieces.{none_when, some_when}
use Rattle.hw_types.specs.declared.unit.Digest.{Digest}
use Rattle.hw_types.specs.Graph.{digest_lt}
use Rattle.hw_script_grammar.specs.Units.{put_digest, in_order}

-- one more digest
pub one_more : (ds : List Digest) (i : ℕ) (d : Digest) → i < length ds → in_order (take (i + 1) ds) ≡ put_digest (get_or ds i d) (in_order (take i ds))
one_more ds i d within = ap in_order (take_more ds i d within) ∙ fold-append (λ es e. put_digest e es) [] (take i ds) (get_or ds i d ∷ [])

is_behind : Digest → Digest → Bool
is_behind d e = not (digest_lt e d)

-- where it is put
put_at : (d : Digest) (es : List Digest) → put_digest d es ≡ take (position_or_len (is_behind d) es) es ++ d ∷ drop (position_or_len (is_behind d) es) es
unfolding is_behind
put_at d [] = refl
put_at d (e ∷ es) = go (digest_lt e d) (position_or_len (is_behind d) es) (put_at d es) where
  go : (less : Bool) (n : ℕ) → put_digest d es ≡ take n es ++ d ∷ drop n es
      → cond less (e ∷ put_digest d es) (d ∷ e ∷ es) ≡ take (cond (not (not less)) (1 + n) 0) (e ∷ es) ++ d ∷ drop (cond (not (not less)) (1 + n) 0) (e ∷ es)
  go true n is =
      let more : 1 + n ≡ suc n = omega arith in
      ap (λ xs. e ∷ xs) is ∙ ap (λ k. take k (e ∷ es) ++ d ∷ drop k (e ∷ es)) (sym more)
  go false n is = refl

-- where all are less, it goes last
pub put_last : (d : Digest) (es : List Digest) → position (λ e. not (digest_lt e d)) es ≡ None → put_digest d es ≡ es ++ d ∷ []
unfolding is_behind
put_last d es none =
    let n = position_or_len (is_behind d) es in
    let long : length es ≤ n = ltb-false _ _ (none_when (nat_lt n (length es)) n none) in
    put_at d es ∙ ap (λ xs. xs ++ d ∷ drop n es) (take_all n es long) ∙ ap (λ xs. es ++ d ∷ xs) (drop_all n es long)

-- else it goes to the first that isn't less
pub put_there : (d : Digest) (es : List Digest) (i : ℕ) → position (λ e. not (digest_lt e d)) es ≡ Some i → put_digest d es ≡ insert es i d
unfolding is_behind
put_there d es i there =
    let is = some_when (nat_lt (position_or_len (is_behind d) es) (length es)) (position_or_len (is_behind d) es) i there in
    put_at d es ∙ ap (λ n. take n es ++ d ∷ drop n es) is.1
