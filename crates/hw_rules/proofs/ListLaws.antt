-- Lists of digests, by places.
use Rattle.std.proofs.Common.{◌≡◌, ℕ, zero, suc, ◌+◌, ◌<◌, inl, inr, Bool, true, false, List, [], ◌∷◌, length, get_or, refl, sym, ap, subst, ◌∙◌, arith}
use Rattle.std.specs.List.{list_all}
use Rattle.std.proofs.lemmas.List.{get_or_default}
use Rattle.std.proofs.lemmas.Bool.{cases_lt}
use Rattle.hw_types.specs.declared.unit.Digest.{Digest}
use Rattle.hw_types.specs.Graph.{digest_eq, digest_lt}
use Rattle.hw_types.specs.Below.{Among}
use Rattle.hw_types.specs.Rules.{has_digest, is_rising, is_rising_after}
use Rattle.hw_types.proofs.PastLaws.{any_of}
use Rattle.hw_types.proofs.StableLaws.{and_parts}
use Rattle.hw_types.proofs.SettledLaws.{digest_self}
use Rattle.hw_types.proofs.WordsLaws.{each_all, never_both, either}
use Rattle.hw_dag.proofs.PlaceLaws.{among_place}

-- the digest at that place comes before the next one
abbrev pub RisesAt : List Digest → ℕ → Type 0
RisesAt ds k = (e : Digest) → digest_lt (get_or ds k e) (get_or ds (suc k) e) ≡ true

-- a list rises where it does at each place
rises_after : (d : Digest) (ds : List Digest) → ((k : ℕ) → k < length ds → RisesAt (d ∷ ds) k) → is_rising_after d ds ≡ true
rises_after d [] h = refl
rises_after d (e ∷ es) h = rw (h 0 (omega arith) d) (rises_after e es (λ k lt f. h (suc k) (omega arith) f))

pub each_rises : (ds : List Digest) → ((k : ℕ) → suc k < length ds → RisesAt ds k) → is_rising ds ≡ true
each_rises [] h = refl
each_rises (d ∷ ds) h = rises_after d ds (λ k lt. h k (omega arith))

-- and only there
after_rises : (d : Digest) (ds : List Digest) → is_rising_after d ds ≡ true → (k : ℕ) → k < length ds → RisesAt (d ∷ ds) k
after_rises d [] t k lt f = absurd (omega arith)
after_rises d (e ∷ es) t zero lt f = (and_parts (digest_lt d e) (is_rising_after e es) t).0
after_rises d (e ∷ es) t (suc k) lt f = after_rises e es (and_parts (digest_lt d e) (is_rising_after e es) t).1 k (omega arith) f

pub rises_each : (ds : List Digest) → is_rising ds ≡ true → (k : ℕ) → suc k < length ds → RisesAt ds k
rises_each [] t k lt = absurd (omega arith)
rises_each (d ∷ ds) t k lt = after_rises d ds t k (omega arith)

-- one step of a walk over the pairs of neighbours
module _ (ds pair : List Digest) (at : ℕ) (answer : Bool) (d : Digest) (inside : suc at < length ds) (low : get_or pair 0 d ≡ get_or ds (at + 0) d) (high : get_or pair 1 d ≡ get_or ds (at + 1) d) (is : answer ≡ digest_lt (get_or pair 0 d) (get_or pair 1 d)) where
  here : (e : Digest) → digest_lt (get_or ds at e) (get_or ds (suc at) e) ≡ answer
  here e =
      let first : get_or ds at e ≡ get_or pair 0 d = get_or_default ds at e d (omega arith) ∙ ap (λ (m : ℕ). get_or ds m d) (omega arith) ∙ sym low in
      let second : get_or ds (suc at) e ≡ get_or pair 1 d = get_or_default ds (suc at) e d inside ∙ ap (λ (m : ℕ). get_or ds m d) (omega arith) ∙ sym high in
      ap (λ (x : Digest). digest_lt x (get_or ds (suc at) e)) first ∙ ap (λ (y : Digest). digest_lt (get_or pair 0 d) y) second ∙ sym is

  pub rises_more : answer ≡ true → ((k : ℕ) → k < at → RisesAt ds k) → (k : ℕ) → k < at + 1 → RisesAt ds k
  rises_more t before k lt e = elim (cases_lt k at) [
    | inl less ↦ before k less e
    | inr last ↦ (let same : at ≡ k = omega arith in subst (λ (m : ℕ). digest_lt (get_or ds m e) (get_or ds (suc m) e) ≡ true) same (here e ∙ t))
  ]

  pub never_rises : answer ≡ false → false ≡ is_rising ds
  never_rises f_is = elim (either (is_rising ds)) [
    | inl t ↦ absurd (never_both answer (sym (here d) ∙ rises_each ds t at inside d) f_is)
    | inr f ↦ sym f
  ]

-- a list has what stands at a place of it,
pub has_at : (own : List Digest) (d : Digest) → Among d own → has_digest own d ≡ true
has_at own d m = any_of (digest_eq d) d own m (digest_self d)

-- so it has all of itself
pub has_itself : (own : List Digest) → list_all (has_digest own) own ≡ true
has_itself own = each_all (has_digest own) own (has_at own)

-- and all of a list where it has what stands at each place
pub has_each : (own others : List Digest) (e : Digest) → ((k : ℕ) → k < length others → has_digest own (get_or others k e) ≡ true) → list_all (has_digest own) others ≡ true
has_each own others e h = each_all (has_digest own) others (λ d m. let k = among_place e d others m in subst (λ (f : Digest). has_digest own f ≡ true) k.2 (h k.0 k.1))
