-- Thirty-two bytes are four numbers of eight bytes each.
use Rattle.std.proofs.Common.{◌≡◌, ℕ, zero, suc, ◌+◌, ◌≤◌, ◌<◌, true, List, [], ◌∷◌, ◌++◌, length, get_or, sym, ap, subst, ◌∙◌, arith}
use Rattle.std.specs.Prelude.{◌&&◌, take, drop, nat_eq, bytes_eq}
use Rattle.std.specs.Int.{w64, from_le_bytes}
use Rattle.std.proofs.Math.Seq.{drop-length}
use Rattle.std.proofs.lemmas.List.{get_or-drop, drop-drop, take-append-drop, length-take-le, length-drop}
use Rattle.std.proofs.lemmas.Nat.{le_bytes_8}
use Rattle.std.proofs.lemmas.Bool.Decides.{Decides-eqb}
use Rattle.std.proofs.lemmas.Slice.Eq.{bytes_eq-Decides}
use Rattle.hw_types.proofs.StableLaws.{and_parts, and_whole, both_ways}

abbrev pub Small : List ℕ → Type 0
Small xs = (i : ℕ) → get_or xs i 0 < 256

-- eight bytes from i on
abbrev pub eight : List ℕ → ℕ → List ℕ
eight xs i = take 8 (drop i xs)

-- n is the number that they spell
abbrev Spells : List ℕ → ℕ → ℕ → Type 0
Spells xs i n = n ≡ from_le_bytes w64 (eight xs i)

pub small_take : (n : ℕ) (xs : List ℕ) → Small xs → Small (take n xs)
small_take zero xs s i = omega arith
small_take (suc n) [] s i = s i
small_take (suc n) (x ∷ xs) s zero = s 0
small_take (suc n) (x ∷ xs) s (suc i) = small_take n xs (λ k. s (suc k)) i

pub small_drop : (n : ℕ) (xs : List ℕ) → Small xs → Small (drop n xs)
small_drop n xs s i = subst (λ x. x < 256) (sym (get_or-drop n xs i 0)) (s (n + i))

module _ (xs ys : List ℕ) (long : length xs ≡ 32) (wide : length ys ≡ 32) (small : Small xs) (low : Small ys) where
  -- the number tells the bytes
  alike : (i m n : ℕ) → i + 8 ≤ 32 → Spells xs i m → Spells ys i n → m ≡ n → eight xs i ≡ eight ys i
  alike i m n le s t e =
      let left = le_bytes_8 (eight xs i) n (length-take-le 8 (drop i xs) (omega (arith, length-drop i xs))) (small_take 8 (drop i xs) (small_drop i xs small)) (sym e ∙ s) in
      let right = le_bytes_8 (eight ys i) n (length-take-le 8 (drop i ys) (omega (arith, length-drop i ys))) (small_take 8 (drop i ys) (small_drop i ys low)) t in
      sym left ∙ right

  joined : (i : ℕ) → eight xs i ≡ eight ys i → drop (i + 8) xs ≡ drop (i + 8) ys → drop i xs ≡ drop i ys
  joined i e f =
      let rest = drop-drop 8 i xs ∙ f ∙ sym (drop-drop 8 i ys) in
      sym (take-append-drop 8 (drop i xs)) ∙ (λ j. e j ++ rest j) ∙ take-append-drop 8 (drop i ys)

  ended : drop 32 xs ≡ drop 32 ys
  ended = ap (λ n. drop n xs) (sym long) ∙ drop-length xs ∙ sym (ap (λ n. drop n ys) (sym wide) ∙ drop-length ys)

  module _ (a b c d e f g h : ℕ) (sa : Spells xs 0 a) (sb : Spells ys 0 b) (sc : Spells xs 8 c) (sd : Spells ys 8 d) (se : Spells xs 16 e) (sf : Spells ys 16 f) (sg : Spells xs 24 g) (sh : Spells ys 24 h) where
    all_alike : a ≡ b → c ≡ d → e ≡ f → g ≡ h → xs ≡ ys
    all_alike first second third fourth =
        joined 0 (alike 0 a b (omega arith) sa sb first) (joined 8 (alike 8 c d (omega arith) sc sd second)
        (joined 16 (alike 16 e f (omega arith) se sf third) (joined 24 (alike 24 g h (omega arith) sg sh fourth) ended)))

    to : (((nat_eq a b && nat_eq c d) && nat_eq e f) && nat_eq g h) ≡ true → bytes_eq xs ys ≡ true
    to t =
        let three = and_parts _ _ t in
        let two = and_parts _ _ three.0 in
        let one = and_parts _ _ two.0 in
        (bytes_eq-Decides xs ys).1 (all_alike ((Decides-eqb a b).0 one.0) ((Decides-eqb c d).0 one.1) ((Decides-eqb e f).0 two.1) ((Decides-eqb g h).0 three.1))

    from : bytes_eq xs ys ≡ true → (((nat_eq a b && nat_eq c d) && nat_eq e f) && nat_eq g h) ≡ true
    from t =
        let same = (bytes_eq-Decides xs ys).0 t in
        let spelt = λ (i : ℕ). ap (λ zs. from_le_bytes w64 (eight zs i)) same in
        and_whole _ _ (and_whole _ _ (and_whole _ _ ((Decides-eqb a b).1 (sa ∙ spelt 0 ∙ sym sb)) ((Decides-eqb c d).1 (sc ∙ spelt 8 ∙ sym sd)))
        ((Decides-eqb e f).1 (se ∙ spelt 16 ∙ sym sf))) ((Decides-eqb g h).1 (sg ∙ spelt 24 ∙ sym sh))

    -- four words are alike just where the bytes are
    pub four_words : (((nat_eq a b && nat_eq c d) && nat_eq e f) && nat_eq g h) ≡ bytes_eq xs ys
    four_words = both_ways _ _ to from
