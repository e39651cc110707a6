-- Thirty-two bytes in order are four numbers in order.
use Rattle.std.proofs.Common.{◌≡◌, ℕ, suc, ◌+◌, ◌*◌, ◌≤◌, ◌<◌, List, [], ◌∷◌, ◌++◌, length, refl, sym, ap, ◌∙◌, arith, Less, Equal, Greater}
use Rattle.std.specs.Prelude.{drop}
use Rattle.std.specs.Int.{w64, from_be_bytes}
use Rattle.std.specs.declared.cmp.Ordering.{Ordering}
use Rattle.std.specs.Ordering.{nat_cmp, ordering_then, MatchOrdering}
use Rattle.std.specs.Cmp.{ranks, nat_cmp_is}
use Rattle.std.proofs.Math.Seq.{drop-length}
use Rattle.std.proofs.lemmas.List.{drop-drop, take-append-drop, length-take-le, length-drop}
use Rattle.hw_types.specs.Graph.{bytes_cmp}
use Rattle.hw_types.proofs.EightLaws.{Small, eight, small_take, small_drop}

-- n is the number that eight bytes from i on spell, the first counting most
abbrev Ranks : List ℕ → ℕ → ℕ → Type 0
Ranks xs i n = n ≡ from_be_bytes w64 (eight xs i)

-- the number that the bytes spell after a
abbrev spelt : ℕ → List ℕ → ℕ
spelt a [] = a
spelt a (x ∷ xs) = spelt (a * 256 + x) xs

below : {m n : ℕ} → m < n → nat_cmp m n ≡ Less
below {m} {n} l = sym (nat_cmp_is m n Less l)

level : {m n : ℕ} → m ≡ n → nat_cmp m n ≡ Equal
level {m} {n} e = sym (nat_cmp_is m n Equal e)

above : {m n : ℕ} → n < m → nat_cmp m n ≡ Greater
above {m} {n} l = sym (nat_cmp_is m n Greater l)

-- what was greater stays so, whatever bytes follow
rises : (a b : ℕ) (xs ys : List ℕ) → length xs ≡ length ys → Small xs → a < b → spelt a xs < spelt b ys
rises a b [] [] e s l = l
rises a b [] (y ∷ ys) e s l = absurd (omega arith)
rises a b (x ∷ xs) [] e s l = absurd (omega arith)
rises a b (x ∷ xs) (y ∷ ys) e s l =
    let small : x < 256 = s 0 in
    rises (a * 256 + x) (b * 256 + y) xs ys (omega arith) (λ k. s (suc k)) (omega arith)

ranked : (a : ℕ) (xs ys : List ℕ) → length xs ≡ length ys → Small xs → Small ys → nat_cmp (spelt a xs) (spelt a ys) ≡ bytes_cmp xs ys
ranked a [] [] e s t = level {m = a} {n = a} refl
ranked a [] (y ∷ ys) e s t = absurd (omega arith)
ranked a (x ∷ xs) [] e s t = absurd (omega arith)
ranked a (x ∷ xs) (y ∷ ys) e s t =
    let long : length xs ≡ length ys = omega arith in
    go long (ranked (a * 256 + x) xs ys long (λ k. s (suc k)) (λ k. t (suc k))) (nat_cmp x y) refl (ranks x y)
  where
    go : length xs ≡ length ys → nat_cmp (spelt (a * 256 + x) xs) (spelt (a * 256 + x) ys) ≡ bytes_cmp xs ys → (o : Ordering) → nat_cmp x y ≡ o → MatchOrdering o (x < y) (x ≡ y) (y < x)
        → nat_cmp (spelt (a * 256 + x) xs) (spelt (a * 256 + y) ys) ≡ ordering_then (nat_cmp x y) (bytes_cmp xs ys)
    go long more Less h l =
        let under : x < y = l in
        below (rises (a * 256 + x) (a * 256 + y) xs ys long (λ k. s (suc k)) (omega arith)) ∙ sym (ap (λ o. ordering_then o (bytes_cmp xs ys)) h)
    go long more Equal h l =
        let same : x ≡ y = l in
        ap (λ z. nat_cmp (spelt (a * 256 + x) xs) (spelt (a * 256 + z) ys)) (sym same) ∙ more ∙ sym (ap (λ o. ordering_then o (bytes_cmp xs ys)) h)
    go long more Greater h l =
        let over : y < x = l in
        above (rises (a * 256 + y) (a * 256 + x) ys xs (sym long) (λ k. t (suc k)) (omega arith)) ∙ sym (ap (λ o. ordering_then o (bytes_cmp xs ys)) h)

-- eight bytes that are read at once are read one by one
as_spelt : (xs : List ℕ) → length xs ≡ 8 → from_be_bytes w64 xs ≡ spelt 0 xs
as_spelt [] e = absurd (omega arith)
as_spelt (a ∷ []) e = absurd (omega arith)
as_spelt (a ∷ b ∷ []) e = absurd (omega arith)
as_spelt (a ∷ b ∷ c ∷ []) e = absurd (omega arith)
as_spelt (a ∷ b ∷ c ∷ d ∷ []) e = absurd (omega arith)
as_spelt (a ∷ b ∷ c ∷ d ∷ f ∷ []) e = absurd (omega arith)
as_spelt (a ∷ b ∷ c ∷ d ∷ f ∷ g ∷ []) e = absurd (omega arith)
as_spelt (a ∷ b ∷ c ∷ d ∷ f ∷ g ∷ h ∷ []) e = absurd (omega arith)
as_spelt (a ∷ b ∷ c ∷ d ∷ f ∷ g ∷ h ∷ i ∷ []) e = omega arith
as_spelt (a ∷ b ∷ c ∷ d ∷ f ∷ g ∷ h ∷ i ∷ j ∷ xs) e = absurd (omega arith)

then_assoc : (o p q : Ordering) → ordering_then (ordering_then o p) q ≡ ordering_then o (ordering_then p q)
then_assoc Less p q = refl
then_assoc Equal p q = refl
then_assoc Greater p q = refl

then_equal : (o : Ordering) → ordering_then o Equal ≡ o
then_equal Less = refl
then_equal Equal = refl
then_equal Greater = refl

-- lists in two parts, the first parts as long
in_parts : (us vs xs ys : List ℕ) → length us ≡ length vs → bytes_cmp (us ++ xs) (vs ++ ys) ≡ ordering_then (bytes_cmp us vs) (bytes_cmp xs ys)
in_parts [] [] xs ys e = refl
in_parts [] (v ∷ vs) xs ys e = absurd (omega arith)
in_parts (u ∷ us) [] xs ys e = absurd (omega arith)
in_parts (u ∷ us) (v ∷ vs) xs ys e =
    ap (ordering_then (nat_cmp u v)) (in_parts us vs xs ys (omega arith)) ∙ sym (then_assoc (nat_cmp u v) (bytes_cmp us vs) (bytes_cmp xs ys))

module _ (xs ys : List ℕ) (long : length xs ≡ 32) (wide : length ys ≡ 32) (small : Small xs) (low : Small ys) where
  abbrev rest : ℕ → Ordering
  rest i = bytes_cmp (drop i xs) (drop i ys)

  -- the words at i decide, or else what follows
  stage : (i m n : ℕ) → i + 8 ≤ 32 → Ranks xs i m → Ranks ys i n → rest i ≡ ordering_then (nat_cmp m n) (rest (i + 8))
  stage i m n le s t =
      let left : length (eight xs i) ≡ 8 = length-take-le 8 (drop i xs) (omega (arith, length-drop i xs)) in
      let right : length (eight ys i) ≡ 8 = length-take-le 8 (drop i ys) (omega (arith, length-drop i ys)) in
      let words : nat_cmp m n ≡ bytes_cmp (eight xs i) (eight ys i) =
      (λ j. nat_cmp ((s ∙ as_spelt (eight xs i) left) j) ((t ∙ as_spelt (eight ys i) right) j))
      ∙ ranked 0 (eight xs i) (eight ys i) (left ∙ sym right) (small_take 8 (drop i xs) (small_drop i xs small)) (small_take 8 (drop i ys) (small_drop i ys low)) in
      (λ j. bytes_cmp (sym (take-append-drop 8 (drop i xs)) j) (sym (take-append-drop 8 (drop i ys)) j))
      ∙ in_parts (eight xs i) (eight ys i) (drop 8 (drop i xs)) (drop 8 (drop i ys)) (left ∙ sym right)
      ∙ (λ j. ordering_then (sym words j) (bytes_cmp (drop-drop 8 i xs j) (drop-drop 8 i ys j)))

  ended : rest 32 ≡ Equal
  ended =
      let left : drop 32 xs ≡ [] = ap (λ n. drop n xs) (sym long) ∙ drop-length xs in
      let right : drop 32 ys ≡ [] = ap (λ n. drop n ys) (sym wide) ∙ drop-length ys in
      λ j. bytes_cmp (left j) (right j)

  pub first_word : (a b : ℕ) → Ranks xs 0 a → Ranks ys 0 b → (a ≡ b → ⊥) → nat_cmp a b ≡ bytes_cmp xs ys
  first_word a b sa sb apart = go (nat_cmp a b) refl (ranks a b) ∙ sym (stage 0 a b (omega arith) sa sb)
    where
      go : (o : Ordering) → nat_cmp a b ≡ o → MatchOrdering o (a < b) (a ≡ b) (b < a) → nat_cmp a b ≡ ordering_then (nat_cmp a b) (rest 8)
      go Less h l = h ∙ sym (ap (λ o. ordering_then o (rest 8)) h)
      go Equal h l = absurd (apart l)
      go Greater h l = h ∙ sym (ap (λ o. ordering_then o (rest 8)) h)

  pub later_words : (a b c d e f g h : ℕ) → Ranks xs 0 a → Ranks ys 0 b → Ranks xs 8 c → Ranks ys 8 d → Ranks xs 16 e → Ranks ys 16 f → Ranks xs 24 g → Ranks ys 24 h
      → a ≡ b → ordering_then (ordering_then (nat_cmp c d) (nat_cmp e f)) (nat_cmp g h) ≡ bytes_cmp xs ys
  later_words a b c d e f g h sa sb sc sd se sf sg sh same =
      let fourth : rest 24 ≡ nat_cmp g h = stage 24 g h (omega arith) sg sh ∙ ap (ordering_then (nat_cmp g h)) ended ∙ then_equal (nat_cmp g h) in
      let third : rest 16 ≡ ordering_then (nat_cmp e f) (nat_cmp g h) = stage 16 e f (omega arith) se sf ∙ ap (ordering_then (nat_cmp e f)) fourth in
      let second : rest 8 ≡ ordering_then (nat_cmp c d) (ordering_then (nat_cmp e f) (nat_cmp g h)) = stage 8 c d (omega arith) sc sd ∙ ap (ordering_then (nat_cmp c d)) third in
      let first : bytes_cmp xs ys ≡ rest 8 = stage 0 a b (omega arith) sa sb ∙ ap (λ o. ordering_then o (rest 8)) (level same) in
      then_assoc (nat_cmp c d) (nat_cmp e f) (nat_cmp g h) ∙ sym (first ∙ second)
