-- What digits stand for, digit by digit.
use Rattle.std.proofs.Common.{◌≡◌, ℕ, ◌+◌, ◌^◌, ◌<◌, ◌≤◌, List, [], ◌∷◌, length, get_or, take, drop, sym, ap, ◌∙◌, arith}
use Rattle.std.specs.Prelude.{fold}
use Rattle.std.proofs.lemmas.List.{take-append-drop, take_more}
use Rattle.std.proofs.lemmas.List.Sums.{fold-append}
use Rattle.hw_text.specs.Numbers.{with_digit, value_of}

-- more digits stand for no less
grows : (n : ℕ) (cs : List ℕ) → n ≤ fold with_digit n cs
grows n [] = omega arith
grows n (c ∷ cs) = let more = grows (with_digit n c) cs in omega (arith, more)

-- the digits up to a place
pub one_more : (cs : List ℕ) (i d : ℕ) → i < length cs → value_of (take (i + 1) cs) ≡ with_digit (value_of (take i cs)) (get_or cs i d)
one_more cs i d within = ap value_of (take_more cs i d within) ∙ fold-append with_digit 0 (take i cs) (get_or cs i d ∷ [])

-- where some of the digits stand for too much, all do
pub too_great : (cs : List ℕ) (i d : ℕ) → i < length cs → 2 ^ 64 ≤ with_digit (value_of (take i cs)) (get_or cs i d) → 2 ^ 64 ≤ value_of cs
too_great cs i d within great =
    let more = grows (value_of (take (i + 1) cs)) (drop (i + 1) cs) in
    let whole : value_of cs ≡ fold with_digit (value_of (take (i + 1) cs)) (drop (i + 1) cs) = ap value_of (sym (take-append-drop (i + 1) cs)) ∙ fold-append with_digit 0 (take (i + 1) cs) (drop (i + 1) cs) in
    omega (arith, more, whole, one_more cs i d within)
