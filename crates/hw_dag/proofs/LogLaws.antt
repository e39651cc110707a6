-- Laws of powers of 2: the logarithm rounded down, and the trailing zeros.
use Rattle.std.proofs.Common.{◌≡◌, ℕ, zero, suc, ◌+◌, ◌-◌, ◌*◌, ◌/◌, ◌%◌, ◌^◌, ◌<◌, ◌≤◌, refl, subst, inl, inr, arith}
use Rattle.std.specs.Int.Count.{count_leading_zeros, count_trailing_zeros, under}
use Rattle.std.proofs.lemmas.Nat.{leading_top, pow_pos}
use Rattle.std.proofs.lemmas.Bool.{cases_lt}
use Rattle.std.proofs.Math.Nat.{pow-suc}
use Rattle.std.proofs.Math.Pow.{pow_mono}
use Rattle.hw_dag.specs.Jumps.{floor_log2}

pub double : (k : ℕ) → 2 ^ suc k ≡ 2 * 2 ^ k
double k = omega (arith, pow-suc 2 k)

pub log2_rounded : (n : ℕ) → 0 < n → n < 2 ^ 64 → (2 ^ floor_log2 n ≤ n) × (n < 2 * 2 ^ floor_log2 n)
log2_rounded n some fits =
    let top = leading_top 64 n some fits in
    let same : top.0 ≡ 63 - count_leading_zeros 64 n = omega (arith, top.1) in
    let P : ℕ → Type 0 = λ i. (2 ^ i ≤ n) × (n < 2 * 2 ^ i) in
    subst P same (top.2, (omega (arith, top.3, double top.0)))

-- of two powers of 2 that enclose one number, the lower one isn't the greater
log2_le : (j k n : ℕ) → 2 ^ j ≤ n → n < 2 * 2 ^ k → j ≤ k
log2_le j k n low high =
    elim (cases_lt k j) [ inl less ↦ absurd (let more : 2 ^ suc k ≤ 2 ^ j = pow_mono less in omega (arith, double k)) | inr le ↦ le ]

-- the logarithm is the one exponent between whose powers the number is
pub log2_is : (n k : ℕ) → n < 2 ^ 64 → 2 ^ k ≤ n → n < 2 * 2 ^ k → floor_log2 n ≡ k
log2_is n k fits low high =
    let some : 0 < n = omega (arith, pow_pos k) in
    let between = log2_rounded n some fits in
    omega (arith, log2_le (floor_log2 n) k n between.0 high, log2_le k (floor_log2 n) n low between.1)

-- at least as much as a power of 2 below the number
pub log2_at_least : (n k : ℕ) → n < 2 ^ 64 → 2 ^ k ≤ n → k ≤ floor_log2 n
log2_at_least n k fits low =
    let some : 0 < n = omega (arith, pow_pos k) in
    log2_le k (floor_log2 n) n low (log2_rounded n some fits).1

-- an even number is twice what an odd number times a power is
twice_odd : (n a t : ℕ) → n % 2 ≡ 0 → n / 2 ≡ (2 * a + 1) * 2 ^ t → n ≡ (2 * a + 1) * 2 ^ suc t
twice_odd n a t even half = rw (double t) (omega arith)

-- a number above 0 is an odd number times 2 to the trailing zeros
pub trailing_odd : (k n : ℕ) → 0 < n → n < 2 ^ k → (a : ℕ) × (n ≡ (2 * a + 1) * 2 ^ count_trailing_zeros k n)
unfolding count_trailing_zeros
trailing_odd zero n some fits = absurd (omega arith)
trailing_odd (suc k) n some fits = by_digit (n % 2) refl (λ half fewer. trailing_odd k (n / 2) half fewer) where
  by_digit : (d : ℕ) → n % 2 ≡ d → (0 < n / 2 → n / 2 < 2 ^ k → (a : ℕ) × (n / 2 ≡ (2 * a + 1) * 2 ^ count_trailing_zeros k (n / 2)))
      → (a : ℕ) × (n ≡ (2 * a + 1) * 2 ^ under d (count_trailing_zeros k (n / 2)))
  by_digit zero even go =
      let half = go (omega arith) (omega (arith, double k)) in
      (half.0, twice_odd n half.0 (count_trailing_zeros k (n / 2)) even half.1)
  by_digit (suc d) odd go = (n / 2, omega arith)

-- a power of 2 that divides an odd number times another power is no greater
pub odd_power : (a t b m : ℕ) → (2 * a + 1) * 2 ^ t ≡ b * 2 ^ m → m ≤ t
odd_power a t b zero e = omega arith
odd_power a zero b (suc m) e = absurd (let even = rw (double m) at e in omega (arith, even))
odd_power a (suc t) b (suc m) e =
    let whole = rw (double t, double m) at e in
    let halves : (2 * a + 1) * 2 ^ t ≡ b * 2 ^ m = omega (arith, whole) in
    omega (arith, odd_power a t b m halves)
