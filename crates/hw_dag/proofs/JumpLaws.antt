-- Laws of jumps.
use Rattle.std.proofs.Common.{◌≡◌, ℕ, zero, suc, ◌+◌, ◌-◌, ◌*◌, ◌/◌, ◌%◌, ◌^◌, ◌<◌, ◌≤◌, ◌⊎◌, false, refl, sym, ap, ◌∙◌, subst, inl, inr, arith, eqb, eq-eqb, add-zero}
use Rattle.std.proofs.lemmas.Bool.Decides.{nat_tests}
use Rattle.std.specs.Int.{w64, trailing_zeros}
use Rattle.std.specs.Int.Count.{count_trailing_zeros}
use Rattle.std.proofs.lemmas.Nat.{pow_pos, pow-add}
use Rattle.std.proofs.lemmas.Bool.{cases_lt, cases_eq}
use Rattle.std.proofs.Math.Pow.{pow_mono}
use Rattle.hw_dag.specs.Jumps.{floor_log2, pointer_count_of, jump_of, landing, jump_count_within, jump_count}
use Rattle.hw_dag.proofs.LogLaws.{double, log2_rounded, log2_is, log2_at_least, trailing_odd, odd_power}

-- a jump isn't further than the target
pub jump_within : (s r : ℕ) → r < s → s < 2 ^ 64 → 2 ^ jump_of s r ≤ s - r
jump_within s r less fits =
    let some : 0 < s - r = omega arith in
    let short : s - r < 2 ^ 64 = omega arith in
    let small : 2 ^ jump_of s r ≤ 2 ^ floor_log2 (s - r) = pow_mono (omega arith) in
    omega (arith, small, (log2_rounded (s - r) some short).0)

pub landing_within : (s r : ℕ) → r < s → s < 2 ^ 64 → r ≤ landing s r
landing_within s r less fits = omega (arith, jump_within s r less fits)

pub landing_falls : (s r : ℕ) → r < s → landing s r < s
landing_falls s r less = omega (arith, pow_pos (jump_of s r))

pub jump_kept : (s r : ℕ) → r < s → jump_of s r < pointer_count_of s
jump_kept s r less = grind (arith, nat_tests)

-- a jump leads down, where the pointer is known
pub jump_falls : (i s r : ℕ) → jump_of s r ≡ i → r < s → s < 2 ^ 64 → (0 < 2 ^ i) × (r + 2 ^ i ≤ s)
jump_falls i s r which less fits =
    let short : r + 2 ^ jump_of s r ≤ s = omega (arith, jump_within s r less fits) in
    let P : ℕ → Type 0 = λ x. r + 2 ^ x ≤ s in
    (pow_pos i, subst P which short)

-- a jump's length is a number of 64 binary digits
pub jump_bound : (s r : ℕ) → r < s → s < 2 ^ 64 → jump_of s r < 64
jump_bound s r less fits =
    elim (cases_lt (jump_of s r) 64) [
      | inl low ↦ low
      | inr high ↦ absurd (let long : 2 ^ 64 ≤ 2 ^ jump_of s r = pow_mono high in omega (arith, jump_within s r less fits))
    ]

-- ---- pointers

pointer_some : (s : ℕ) → 0 < s → pointer_count_of s ≡ trailing_zeros w64 s + 1
pointer_some s some = grind (arith, nat_tests)

pointer_none : (s i : ℕ) → i < pointer_count_of s → 0 < s
pointer_none zero i kept = absurd (omega arith)
pointer_none (suc s) i kept = omega arith

-- what a power of 2 divides is kept by a pointer
divided_kept : (s b i : ℕ) → 0 < s → s < 2 ^ 64 → s ≡ b * 2 ^ i → i < pointer_count_of s
divided_kept s b i some fits whole =
    let odd = trailing_odd 64 s some fits in
    omega (arith, odd_power odd.0 (count_trailing_zeros 64 s) b i (sym odd.1 ∙ whole), pointer_some s some)

spread : (s a j i : ℕ) → s ≡ a * 2 ^ (j + i) → s ≡ (a * 2 ^ j) * 2 ^ i
spread s a j i whole = (rw (pow-add 2 j i) at whole) ∙ omega arith

-- and a kept pointer's length divides
kept_divided : (s i : ℕ) → s < 2 ^ 64 → i < pointer_count_of s → (b : ℕ) × (s ≡ b * 2 ^ i)
kept_divided s i fits kept =
    let some = pointer_none s i kept in
    let odd = trailing_odd 64 s some fits in
    let low : i ≤ count_trailing_zeros 64 s = omega (arith, pointer_some s some) in
    let P : ℕ → Type 0 = λ x. s ≡ (2 * odd.0 + 1) * 2 ^ x in (
      (2 * odd.0 + 1) * 2 ^ (count_trailing_zeros 64 s - i),
      spread s (2 * odd.0 + 1) (count_trailing_zeros 64 s - i) i (subst P (omega arith) odd.1),
    )

-- a positive multiple is no less
multiple_le : (s b d : ℕ) → 0 < s → s ≡ b * d → d ≤ s
multiple_le s zero d some whole = absurd (omega arith)
multiple_le s (suc b) d some whole = omega arith

-- one length less than an even number of lengths
one_less : (s b i : ℕ) → 0 < s → s < 2 ^ 64 → s ≡ b * 2 ^ suc i → i < pointer_count_of (s - 2 ^ i)
one_less s zero i some fits whole = absurd (omega arith)
one_less s (suc b) i some fits whole =
    let twice = rw (double i) at whole in
    divided_kept (s - 2 ^ i) (2 * b + 1) i (omega (arith, pow_pos i, twice)) (omega arith) (omega (arith, twice))

pub pointers_lead : (s i : ℕ) → s < 2 ^ 64 → i < pointer_count_of s → (2 ^ i ≤ s) × (i + 1 < pointer_count_of s → i < pointer_count_of (s - 2 ^ i))
pointers_lead s i fits kept =
    let some = pointer_none s i kept in
    let whole = kept_divided s i fits kept in (
      multiple_le s whole.0 (2 ^ i) some whole.1,
      (λ next.
          let longer : suc i < pointer_count_of s = omega (arith, next) in
          let twice = kept_divided s (suc i) fits longer in
          one_less s twice.0 i some fits twice.1),
    )

-- ---- the number of jumps

within_same : (n s : ℕ) → jump_count_within n s s ≡ 0
unfolding jump_count_within
within_same zero s = refl
within_same (suc n) s = rw (eq-eqb s s refl)

within_step : (n s r : ℕ) → r < s → jump_count_within (suc n) s r ≡ jump_count_within n (landing s r) r + 1
unfolding jump_count_within
within_step n s r less = let apart : eqb s r ≡ false = grind (arith, nat_tests) in rw apart

pub jump_count-same : (s : ℕ) → jump_count s s ≡ 0
unfolding jump_count
jump_count-same s = within_same (s - s) s

arrived : (n s r : ℕ) → s ≡ r → jump_count_within n s r ≡ 0
arrived n s r same = let P : ℕ → Type 0 = λ x. jump_count_within n s x ≡ 0 in subst P same (within_same n s)

pub jump_count-arrived : (s r : ℕ) → s ≡ r → jump_count s r ≡ 0
unfolding jump_count
jump_count-arrived s r same = arrived (s - r) s r same

-- more rounds than the distance change nothing
within_more : (n m s r : ℕ) → r ≤ s → s < 2 ^ 64 → s - r ≤ n → s - r ≤ m → jump_count_within n s r ≡ jump_count_within m s r
within_more zero m s r above fits enough more =
    let same : s ≡ r = omega arith in arrived zero s r same ∙ sym (arrived m s r same)
within_more (suc n) zero s r above fits enough more =
    let same : s ≡ r = omega arith in arrived (suc n) s r same ∙ sym (arrived zero s r same)
within_more (suc n) (suc m) s r above fits enough more =
    elim (cases_lt r s) [
      | inl less ↦
          let low = landing_within s r less fits in
          let falls = landing_falls s r less in
          within_step n s r less
          ∙ ap (λ (x : ℕ). x + 1) (within_more n m (landing s r) r low (omega arith) (omega arith) (omega arith))
          ∙ sym (within_step m s r less)
      | inr le ↦ let same : s ≡ r = omega arith in arrived (suc n) s r same ∙ sym (arrived (suc m) s r same)
    ]

pub jump_count-step : (s r : ℕ) → r < s → s < 2 ^ 64 → jump_count s r ≡ jump_count (landing s r) r + 1
unfolding jump_count
jump_count-step s r less fits =
    let low = landing_within s r less fits in
    let falls = landing_falls s r less in
    within_more (s - r) (suc (s - r - 1)) s r (omega arith) fits (omega arith) (omega arith)
    ∙ within_step (s - r - 1) s r less
    ∙ ap (λ (x : ℕ). x + 1) (within_more (s - r - 1) (landing s r - r) (landing s r) r low (omega arith) (omega arith) (omega arith))

-- where the pointer is known
pub step_by : (i s r : ℕ) → jump_of s r ≡ i → r < s → s < 2 ^ 64 → jump_count s r ≡ jump_count (s - 2 ^ i) r + 1
step_by i s r which less fits =
    let P : ℕ → Type 0 = λ x. jump_count s r ≡ jump_count (s - 2 ^ x) r + 1 in
    subst P which (jump_count-step s r less fits)

-- ---- few jumps

-- where a power of 2 divides the start and is more than the distance, each jump takes the distance below a lesser power
down : (k q s r : ℕ) → s ≡ q * 2 ^ k → r ≤ s → s - r < 2 ^ k → s < 2 ^ 64 → jump_count s r ≤ k
down zero q s r whole above short fits =
    let same : s ≡ r = omega arith in
    let P : ℕ → Type 0 = λ x. jump_count s x ≤ 0 in
    subst P same (omega (arith, jump_count-same s))
down (suc k) zero s r whole above short fits =
    let same : s ≡ r = omega arith in
    let P : ℕ → Type 0 = λ x. jump_count s x ≤ suc k in
    subst P same (omega (arith, jump_count-same s))
down (suc k) (suc p) s r whole above short fits =
    let twice = rw (double k) at whole in
    elim (cases_lt (s - r) (2 ^ k)) [
      | inl near ↦ let few = down k (2 * suc p) s r (omega (arith, twice)) above near fits in omega (arith, few)
      | inr far ↦
          let some : 0 < 2 ^ k = pow_pos k in
          let less : r < s = omega arith in
          let logarithm = log2_is (s - r) k (omega arith) far (omega (arith, double k)) in
          let odd = trailing_odd 64 s (omega arith) fits in
          let divides = odd_power odd.0 (count_trailing_zeros 64 s) (suc p) (suc k) (sym odd.1 ∙ whole) in
          let which : jump_of s r ≡ k = omega (arith, logarithm, divides) in
          let few = down k (2 * p + 1) (s - 2 ^ k) r (omega (arith, twice)) (omega arith) (omega (arith, double k)) (omega arith) in
          omega (arith, few, step_by k s r which less fits)
    ]

-- a number is even or odd
halves : (q : ℕ) → ((p : ℕ) × (q ≡ 2 * p)) ⊎ ((p : ℕ) × (q ≡ 2 * p + 1))
halves q = elim (cases_eq (q % 2) 0) [ inl even ↦ inl (q / 2, omega arith) | inr odd ↦ inr (q / 2, omega arith) ]

-- where a lesser power divides it, each jump leads to a number that a greater power divides
up : (k j q s r : ℕ) → s ≡ q * 2 ^ j → r ≤ s → s - r < 2 ^ (j + k) → s < 2 ^ 64 → jump_count s r ≤ k + (j + k)
up zero j q s r whole above short fits =
    let near : s - r < 2 ^ j = rw add-zero at short in
    let few = down j q s r whole above near fits in omega (arith, few)
up (suc k) j q s r whole above short fits =
    let P : ℕ → Type 0 = λ x. s - r < 2 ^ x in
    let shorter : s - r < 2 ^ (suc j + k) = subst P (omega arith) short in
    elim (halves q) [
      | inl (p, even) ↦
          let few = up k (suc j) p s r (rw (double j) (rw even at whole ∙ omega arith)) above shorter fits in omega (arith, few)
      | inr (p, odd) ↦
          let split : s ≡ (2 * p + 1) * 2 ^ j = rw odd at whole in
          elim (cases_lt (s - r) (2 ^ j)) [
            | inl near ↦ let few = down j q s r whole above near fits in omega (arith, few)
            | inr far ↦
                let some : 0 < 2 ^ j = pow_pos j in
                let less : r < s = omega arith in
                let logarithm = log2_at_least (s - r) j (omega arith) far in
                let lowest = trailing_odd 64 s (omega arith) fits in
                let at_least = odd_power lowest.0 (count_trailing_zeros 64 s) (2 * p + 1) j (sym lowest.1 ∙ split) in
                let at_most = odd_power p j (2 * lowest.0 + 1) (count_trailing_zeros 64 s) (sym split ∙ lowest.1) in
                let which : jump_of s r ≡ j = omega (arith, logarithm, at_least, at_most) in
                let few = up k (suc j) p (s - 2 ^ j) r (rw (double j) (omega (arith, split))) (omega arith) (omega arith) (omega arith) in
                omega (arith, few, step_by j s r which less fits)
          ]
    ]

pub jumps_few : (s r : ℕ) → r < s → s < 2 ^ 64 → jump_count s r ≤ 2 * (floor_log2 (s - r) + 1)
jumps_few s r less fits =
    let k = floor_log2 (s - r) in
    let rounded = log2_rounded (s - r) (omega arith) (omega arith) in
    let short : s - r < 2 ^ suc k = omega (arith, double k, rounded.1) in
    let P : ℕ → Type 0 = λ x. s - r < 2 ^ x in
    let same : suc k ≡ 0 + suc k = omega arith in
    let few = up (suc k) 0 s s r (omega arith) (omega arith) (subst P same short) fits in omega (arith, few)
