-- Two chains, side by side.
use Rattle.std.proofs.Common.{◌≡◌, ℕ, suc, ◌+◌, ◌≤◌, ◌<◌, ◌⊎◌, inl, inr, Bool, true, false, cond, not, List, [], ◌∷◌, length, take, min, Option, Some, None, refl, sym, ap, subst, ◌∙◌, arith}
use Rattle.std.specs.Prelude.{slice_get, nat_lt}
use Rattle.std.specs.List.{zip, prefix_len}
use Rattle.std.proofs.lemmas.Bool.{ltb-true, ltb-false}
use Rattle.hw_types.specs.declared.unit.Digest.{Digest}
use Rattle.hw_types.specs.declared.answers.Decision.{Decision}
use Rattle.hw_types.specs.Graph.{digest_eq}
use Rattle.hw_types.proofs.SettledLaws.{digest_same, digest_self}
use Rattle.hw_types.proofs.WordsLaws.{never_both}
use Rattle.hw_safety.specs.Verdicts.{chain_of, AreInAgreement, DifferAt}
use Rattle.hw_safety.proofs.VerdictLaws.{agreement, chain_length}
use Rattle.std.specs.Option.{option_and_then}
use Rattle.hw_audit.specs.declared.chains.Parting.{Parting}
use Rattle.hw_audit.specs.Chains.{first_apart, parting_at, parting_of}

abbrev same : Digest × Digest → Bool
same p = not (not (digest_eq p.0 p.1))

-- the two are alike as far as this number, and differ there if both go on
record Front (xs ys : List Digest) (k : ℕ) : Type 0 where
  alike : take k xs ≡ take k ys
  within : k ≤ length (zip xs ys)
  apart : k < length (zip xs ys) → (a : Digest) × (b : Digest) × (slice_get xs k ≡ Some a) × (slice_get ys k ≡ Some b) × (digest_eq a b ≡ false)

longer : (x y : Digest) (xs ys : List Digest) (k : ℕ) → x ≡ y → Front xs ys k → Front (x ∷ xs) (y ∷ ys) (suc k)
longer x y xs ys k e f =
    let more = f.alike in
    let within = f.within in
    record { alike = λ i. e i ∷ more i; within = omega arith; apart = λ lt. f.apart (omega arith) }

front : (xs ys : List Digest) → Front xs ys (prefix_len same (zip xs ys))
front [] ys = record { alike = refl; within = omega arith; apart = λ lt. absurd (omega arith) }
front (x ∷ xs) [] = record { alike = refl; within = omega arith; apart = λ lt. absurd (omega arith) }
front (x ∷ xs) (y ∷ ys) = go (digest_eq x y) refl (front xs ys)
  where
    go : (b : Bool) → digest_eq x y ≡ b → Front xs ys (prefix_len same (zip xs ys)) → Front (x ∷ xs) (y ∷ ys) (cond (not (not b)) (1 + prefix_len same (zip xs ys)) 0)
    go true e f = let next : suc (prefix_len same (zip xs ys)) ≡ 1 + prefix_len same (zip xs ys) = omega arith in subst (Front (x ∷ xs) (y ∷ ys)) next (longer x y xs ys (prefix_len same (zip xs ys)) (digest_same x y e) f)
    go false e f = record { alike = refl; within = omega arith; apart = λ lt. (x, y, refl, refl, e) }

zip_length : (xs ys : List Digest) → length (zip xs ys) ≡ min (length xs) (length ys)
zip_length [] ys = omega arith
zip_length (x ∷ xs) [] = omega arith
zip_length (x ∷ xs) (y ∷ ys) = let rest = zip_length xs ys in omega arith

-- what the search found
found_cases : (k n : ℕ) (o : Option ℕ) → o ≡ cond (nat_lt k n) (Some k) None → ((o ≡ Some k) × (k < n)) ⊎ ((o ≡ None) × (n ≤ k))
found_cases k n o e = go (nat_lt k n) refl e
  where
    go : (b : Bool) → nat_lt k n ≡ b → o ≡ cond b (Some k) None → ((o ≡ Some k) × (k < n)) ⊎ ((o ≡ None) × (n ≤ k))
    go true t e = inl (e, ltb-true k n t)
    go false f e = inr (e, ltb-false k n f)

module _ (dl dr : List Decision) where
  abbrev apart : ℕ
  apart = prefix_len same (zip (chain_of dl) (chain_of dr))

  cases : ((first_apart (chain_of dl) (chain_of dr) ≡ Some apart) × (apart < length (zip (chain_of dl) (chain_of dr)))) ⊎ ((first_apart (chain_of dl) (chain_of dr) ≡ None) × (length (zip (chain_of dl) (chain_of dr)) ≤ apart))
  cases = found_cases apart (length (zip (chain_of dl) (chain_of dr))) (first_apart (chain_of dl) (chain_of dr)) refl

  -- there they part
  parted : (h : ℕ) → first_apart (chain_of dl) (chain_of dr) ≡ Some h → (a : Digest) × (b : Digest) × DifferAt dl dr h a b
  parted h e = go cases
    where
      go : (((first_apart (chain_of dl) (chain_of dr) ≡ Some apart) × (apart < length (zip (chain_of dl) (chain_of dr)))) ⊎ ((first_apart (chain_of dl) (chain_of dr) ≡ None) × (length (zip (chain_of dl) (chain_of dr)) ≤ apart)))
          → (a : Digest) × (b : Digest) × DifferAt dl dr h a b
      go (inr p) = absurd (let no : Some h ≡ None = sym e ∙ p.0 in cc)
      go (inl p) =
          let f = front (chain_of dl) (chain_of dr) in
          let blocks = f.apart p.1 in
          let both : Some apart ≡ Some h = sym p.0 ∙ e in
          let here : apart ≡ h = cc in (
            blocks.0,
            blocks.1,
            subst (λ (k : ℕ). DifferAt dl dr k blocks.0 blocks.1) here (record {
              below = f.alike;
              left_is = blocks.2;
              right_is = blocks.3;
              differ = λ is. never_both (digest_eq blocks.0 blocks.1) (subst (λ (d : Digest). digest_eq blocks.0 d ≡ true) is (digest_self blocks.0)) blocks.4;
            }),
          )

  -- they part nowhere
  agree : first_apart (chain_of dl) (chain_of dr) ≡ None → AreInAgreement dl dr (min (length dl) (length dr))
  agree e = go cases
    where
      go : (((first_apart (chain_of dl) (chain_of dr) ≡ Some apart) × (apart < length (zip (chain_of dl) (chain_of dr)))) ⊎ ((first_apart (chain_of dl) (chain_of dr) ≡ None) × (length (zip (chain_of dl) (chain_of dr)) ≤ apart)))
          → AreInAgreement dl dr (min (length dl) (length dr))
      go (inl p) = absurd (let no : None ≡ Some apart = sym e ∙ p.0 in cc)
      go (inr p) =
          let f = front (chain_of dl) (chain_of dr) in
          let within = f.within in
          let long = p.1 in
          let zipped = zip_length (chain_of dl) (chain_of dr) in
          let left = chain_length dl in
          let right = chain_length dr in
          let all : apart ≡ min (length dl) (length dr) = omega arith in
          (agreement dl dr).1 (subst (λ (k : ℕ). take k (chain_of dl) ≡ take k (chain_of dr)) all f.alike)

  abbrev found : Option ℕ → Option Parting
  found o = option_and_then (λ height. parting_at height (slice_get (chain_of dl) height) (slice_get (chain_of dr) height)) o

  at_part : (h : ℕ) (a b : Digest) → DifferAt dl dr h a b → found (Some h) ≡ Some (record { height = h; left = a; right = b })
  at_part h a b d = ap (λ (o : Option Digest). parting_at h o (slice_get (chain_of dr) h)) d.left_is ∙ ap (λ (o : Option Digest). parting_at h (Some a) o) d.right_is

  -- the two blocks at which they part
  pub part_differs : (p : Parting) → parting_of (chain_of dl) (chain_of dr) ≡ Some p → DifferAt dl dr p.height p.left p.right
  part_differs p e = go (first_apart (chain_of dl) (chain_of dr)) refl e
    where
      go : (o : Option ℕ) → first_apart (chain_of dl) (chain_of dr) ≡ o → found o ≡ Some p → DifferAt dl dr p.height p.left p.right
      go None f g = absurd cc
      go (Some h) f g =
          let d = parted h f in
          let both : Some (record { height = h; left = d.0; right = d.1 }) ≡ Some p = sym (at_part h d.0 d.1 d.2) ∙ g in
          let is : record { height = h; left = d.0; right = d.1 } ≡ p = cc in
          subst (λ (q : Parting). DifferAt dl dr q.height q.left q.right) is d.2

  -- or they part nowhere
  pub no_part : parting_of (chain_of dl) (chain_of dr) ≡ None → AreInAgreement dl dr (min (length dl) (length dr))
  no_part e = go (first_apart (chain_of dl) (chain_of dr)) refl e
    where
      go : (o : Option ℕ) → first_apart (chain_of dl) (chain_of dr) ≡ o → found o ≡ None → AreInAgreement dl dr (min (length dl) (length dr))
      go None f g = agree f
      go (Some h) f g = let d = parted h f in absurd (let no : Some (record { height = h; left = d.0; right = d.1 }) ≡ None = sym (at_part h d.0 d.1 d.2) ∙ g in cc)
