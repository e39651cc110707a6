-- Two journals have a verdict, and one alone.
use Rattle.std.proofs.Common.{◌≡◌, ℕ, zero, suc, ◌⊎◌, ◌≤◌, ◌<◌, inl, inr, Bool, true, false, List, [], ◌∷◌, ◌++◌, length, min, take, drop, Some, refl, sym, ap, subst, ◌∙◌, arith}
use Rattle.std.specs.Prelude.{slice_get}
use Rattle.std.proofs.lemmas.Bool.{cases_lt}
use Rattle.std.proofs.lemmas.List.{take-append-drop, take-append-le, take_all}
use Rattle.hw_types.specs.declared.unit.Digest.{Digest}
use Rattle.hw_types.specs.declared.unit.Vertex.{Vertex}
use Rattle.hw_types.specs.declared.answers.Decision.{Decision}
use Rattle.hw_types.specs.Graph.{digest_eq}
use Rattle.hw_types.specs.Journal.{Setting}
use Rattle.hw_types.proofs.SettledLaws.{digest_self, digest_same}
use Rattle.hw_types.proofs.WordsLaws.{never_both}
use Rattle.hw_safety.specs.Chain.{Begins}
use Rattle.hw_safety.specs.declared.verdict.Verdict.{Verdict}
use Rattle.hw_safety.specs.declared.verdict.Verdict.TheVariants as verdict
use Rattle.hw_safety.specs.Verdicts.{journals_clash, IsClash, chain_of, AreInAgreement, DifferAt, culprit_weight, IsVerdict, SayTheSame}
use Rattle.hw_safety.specs.VerdictLaws.{VerdictIsFound, VerdictIsOne, AgreementIsATest}
use Rattle.hw_safety.proofs.ClashLaws.{clash_is_a_test}
use Rattle.hw_safety.proofs.ShownLaws as shown

-- ---- two lists compared

-- where two lists first differ
record FirstApart (xs ys : List Digest) : Type 0 where
  place : ℕ
  left : Digest
  right : Digest
  below : take place xs ≡ take place ys
  left_is : slice_get xs place ≡ Some left
  right_is : slice_get ys place ≡ Some right
  differ : left ≡ right → ⊥

one_longer : (x y : Digest) (xs ys : List Digest) → x ≡ y → Begins xs ys → Begins (x ∷ xs) (y ∷ ys)
one_longer x y xs ys e b = let tail = b.1 in (b.0, λ i. sym e i ∷ tail i)

one_later : (x y : Digest) (xs ys : List Digest) → x ≡ y → FirstApart xs ys → FirstApart (x ∷ xs) (y ∷ ys)
one_later x y xs ys e d = let front = d.below in record {
  place = suc d.place;
  left = d.left;
  right = d.right;
  below = λ i. e i ∷ front i;
  left_is = d.left_is;
  right_is = d.right_is;
  differ = d.differ;
}

-- the one begins the other, or they differ somewhere first
compare : (xs ys : List Digest) → Begins xs ys ⊎ (Begins ys xs ⊎ FirstApart xs ys)
compare [] ys = inl (ys, refl)
compare (x ∷ xs) [] = inr (inl (x ∷ xs, refl))
compare (x ∷ xs) (y ∷ ys) = go (digest_eq x y) refl (compare xs ys)
  where
    go : (b : Bool) → digest_eq x y ≡ b → Begins xs ys ⊎ (Begins ys xs ⊎ FirstApart xs ys) → Begins (x ∷ xs) (y ∷ ys) ⊎ (Begins (y ∷ ys) (x ∷ xs) ⊎ FirstApart (x ∷ xs) (y ∷ ys))
    go true e (inl b) = inl (one_longer x y xs ys (digest_same x y e) b)
    go true e (inr (inl b)) = inr (inl (one_longer y x ys xs (sym (digest_same x y e)) b))
    go true e (inr (inr d)) = inr (inr (one_later x y xs ys (digest_same x y e) d))
    go false e rest = inr (inr (record {
      place = 0;
      left = x;
      right = y;
      below = refl;
      left_is = refl;
      right_is = refl;
      differ = λ is. never_both (digest_eq x y) (subst (λ d. digest_eq x d ≡ true) is (digest_self x)) e;
    }))

get_more : (xs rest : List Digest) (n : ℕ) (x : Digest) → slice_get xs n ≡ Some x → slice_get (xs ++ rest) n ≡ Some x
get_more [] rest n x e = absurd cc
get_more (y ∷ ys) rest zero x e = e
get_more (y ∷ ys) rest (suc n) x e = get_more ys rest n x e

get_front : (xs : List Digest) (n k : ℕ) → k < n → slice_get (take n xs) k ≡ slice_get xs k
get_front xs zero k lt = absurd (omega arith)
get_front [] (suc n) k lt = refl
get_front (x ∷ xs) (suc n) zero lt = refl
get_front (x ∷ xs) (suc n) (suc k) lt = get_front xs n k (omega arith)

-- a list that begins another differs from it nowhere
pub never_apart : (xs ys : List Digest) (n : ℕ) (a b : Digest) → Begins xs ys → slice_get xs n ≡ Some a → slice_get ys n ≡ Some b → a ≡ b
never_apart xs ys n a b begins e f =
    let both : Some a ≡ Some b = sym (get_more xs begins.0 n a e) ∙ ap (λ zs. slice_get zs n) (sym begins.1) ∙ f in cc

module _ (dl dr : List Decision) where
  begins_or_differs : AreInAgreement dl dr (min (length dl) (length dr)) → (height : ℕ) (a b : Digest) → DifferAt dl dr height a b → ⊥
  begins_or_differs agree height a b d = elim agree.begins [
    | inl begins ↦ d.differ (never_apart (chain_of dl) (chain_of dr) height a b begins d.left_is d.right_is)
    | inr begins ↦ d.differ (sym (never_apart (chain_of dr) (chain_of dl) height b a begins d.right_is d.left_is))
  ]

  not_above : (h k : ℕ) (a b c d : Digest) → DifferAt dl dr h a b → DifferAt dl dr k c d → h < k → ⊥
  not_above h k a b c d p q lt =
      p.differ (let both : Some a ≡ Some b = sym p.left_is ∙ sym (get_front (chain_of dl) k h lt) ∙ ap (λ zs. slice_get zs h) q.below ∙ get_front (chain_of dr) k h lt ∙ p.right_is in cc)

  -- two lists first differ at one place, by two blocks
  differ_once : (h k : ℕ) (a b c d : Digest) → DifferAt dl dr h a b → DifferAt dl dr k c d → (h ≡ k) × (a ≡ c) × (b ≡ d)
  differ_once h k a b c d p q =
      let place : h ≡ k = elim (cases_lt h k) [
        | inl lt ↦ absurd (not_above h k a b c d p q lt)
        | inr le ↦ elim (cases_lt k h) [ inl lt ↦ absurd (not_above k h c d a b q p lt) | inr ge ↦ omega arith ]
      ] in
      let left : Some a ≡ Some c = sym p.left_is ∙ ap (slice_get (chain_of dl)) place ∙ q.left_is in
      let right : Some b ≡ Some d = sym p.right_is ∙ ap (slice_get (chain_of dr)) place ∙ q.right_is in
      (place, cc, cc)

-- ---- agreement, as a test

shorter_left : (m n : ℕ) → m ≤ n → min m n ≡ m
shorter_left m n le = omega arith

shorter_right : (m n : ℕ) → n ≤ m → min m n ≡ n
shorter_right m n le = omega arith

pub chain_length : (ds : List Decision) → length (chain_of ds) ≡ length ds
chain_length [] = refl
chain_length (d ∷ ds) = ap suc (chain_length ds)

-- a list that begins another is the same as far as a number within it goes
same_front : (xs ys : List Digest) (n : ℕ) → n ≤ length xs → Begins xs ys → take n xs ≡ take n ys
same_front xs ys n le b = sym (ap (take n) b.1 ∙ take-append-le n xs b.0 le)

-- and where the two are the same as far as the one goes, it begins the other
front_begins : (xs ys : List Digest) → take (length xs) xs ≡ take (length xs) ys → Begins xs ys
front_begins xs ys e = (drop (length xs) ys, sym (take-append-drop (length xs) ys) ∙ ap (λ zs. zs ++ drop (length xs) ys) (sym e ∙ take_all (length xs) xs (omega arith)))

pub agreement : AgreementIsATest
agreement dl dr = (
  λ agree. elim (cases_lt (length dr) (length dl)) [
    | inl lt ↦ (let is = shorter_right (length dl) (length dr) (omega arith) in there agree (length dr) is (omega arith) (omega arith))
    | inr le ↦ (let is = shorter_left (length dl) (length dr) le in there agree (length dl) is (omega arith) (omega arith))
  ],
  λ e. elim (cases_lt (length dr) (length dl)) [
    | inl lt ↦ (let is = shorter_right (length dl) (length dr) (omega arith) in
        record {
          begins = inr (front_begins (chain_of dr) (chain_of dl) (subst (λ n. take n (chain_of dr) ≡ take n (chain_of dl)) (is ∙ sym (chain_length dr)) (sym e)));
          shorter = refl;
        })
    | inr le ↦ (let is = shorter_left (length dl) (length dr) le in
        record {
          begins = inl (front_begins (chain_of dl) (chain_of dr) (subst (λ n. take n (chain_of dl) ≡ take n (chain_of dr)) (is ∙ sym (chain_length dl)) e));
          shorter = refl;
        })
  ],
)
  where
    there : AreInAgreement dl dr (min (length dl) (length dr)) → (n : ℕ) → min (length dl) (length dr) ≡ n → n ≤ length dl → n ≤ length dr
        → take (min (length dl) (length dr)) (chain_of dl) ≡ take (min (length dl) (length dr)) (chain_of dr)
    there agree n is low_left low_right = elim agree.begins [
      | inl b ↦ (let long = chain_length dl in same_front (chain_of dl) (chain_of dr) (min (length dl) (length dr)) (omega arith) b)
      | inr b ↦ (let long = chain_length dr in sym (same_front (chain_of dr) (chain_of dl) (min (length dl) (length dr)) (omega arith) b))
    ]

-- ---- the verdict

module _ (s : Setting) (left right : List Vertex) (dl dr : List Decision) where
  -- without a clash the chains decide
  by_chains : journals_clash s left right ≡ false → Begins (chain_of dl) (chain_of dr) ⊎ (Begins (chain_of dr) (chain_of dl) ⊎ FirstApart (chain_of dl) (chain_of dr)) → (v : Verdict) × IsVerdict s left right dl dr v
  by_chains none (inl b) = (verdict.Agree (min (length dl) (length dr)), (none, record { begins = inl b; shorter = refl }))
  by_chains none (inr (inl b)) = (verdict.Agree (min (length dl) (length dr)), (none, record { begins = inr b; shorter = refl }))
  by_chains none (inr (inr d)) =
      let cs = shown.found s left right in (
        verdict.Conflict d.place d.left d.right cs.0 (culprit_weight s left right),
        (
          none,
          record {
            blocks = record { below = d.below; left_is = d.left_is; right_is = d.right_is; differ = d.differ };
            culprits_are = cs.1;
            weight_is = refl;
          },
        ),
      )

  verdict_found : (v : Verdict) × IsVerdict s left right dl dr v
  verdict_found = go (journals_clash s left right) refl
    where
      go : (b : Bool) → journals_clash s left right ≡ b → (v : Verdict) × IsVerdict s left right dl dr v
      go true e = let c = (clash_is_a_test s left right).0 e in (verdict.Clash c.0 c.1, c.2)
      go false e = by_chains e (compare (chain_of dl) (chain_of dr))

  clash_or_none : (first second : List ℕ) → IsClash s left right first second → journals_clash s left right ≡ false → ⊥
  clash_or_none first second c none = never_both (journals_clash s left right) ((clash_is_a_test s left right).1 (first, second, c)) none

  agree_or_differ : (common height : ℕ) (a b : Digest) → AreInAgreement dl dr common → DifferAt dl dr height a b → ⊥
  agree_or_differ common height a b agree d = begins_or_differs dl dr (record { begins = agree.begins; shorter = refl }) height a b d

  verdict_one : (v w : Verdict) → IsVerdict s left right dl dr v → IsVerdict s left right dl dr w → SayTheSame s left right v w
  verdict_one (verdict.Agree m) (verdict.Agree n) p q = p.1.shorter ∙ sym q.1.shorter
  verdict_one (verdict.Agree m) (verdict.Conflict h a b cs weight) p q = absurd (agree_or_differ m h a b p.1 q.1.blocks)
  verdict_one (verdict.Agree m) (verdict.Clash a b) p q = absurd (clash_or_none a b q p.0)
  verdict_one (verdict.Conflict h a b cs weight) (verdict.Agree n) p q = absurd (agree_or_differ n h a b q.1 p.1.blocks)
  verdict_one (verdict.Conflict h a b cs weight) (verdict.Conflict k c d ds other) p q =
      let same = differ_once dl dr h k a b c d p.1.blocks q.1.blocks in
      (same.0, same.1, same.2, shown.one s left right cs ds p.1.culprits_are q.1.culprits_are, p.1.weight_is ∙ sym q.1.weight_is)
  verdict_one (verdict.Conflict h a b cs weight) (verdict.Clash c d) p q = absurd (clash_or_none c d q p.0)
  verdict_one (verdict.Clash a b) (verdict.Agree n) p q = absurd (clash_or_none a b p q.0)
  verdict_one (verdict.Clash a b) (verdict.Conflict k c d ds other) p q = absurd (clash_or_none a b p q.0)
  verdict_one (verdict.Clash a b) (verdict.Clash c d) p q = tt

pub found : VerdictIsFound
found s left right dl dr = verdict_found s left right dl dr

pub one : VerdictIsOne
one s left right dl dr v w p q = verdict_one s left right dl dr v w p q
