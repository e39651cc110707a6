-- Rounds of lengths beyond the limits.
use Rattle.std.proofs.Common.{◌≡◌, ℕ, ◌^◌, ◌<◌, ◌≤◌, ◌/◌, false, max, arith, lit<}
use Rattle.std.specs.Prelude.{◌==◌}
use Rattle.std.proofs.Math.Nat.{div-eq_of_lt, max-eq_left, pow-le-pow_right}
use Rattle.std.proofs.lemmas.Bool.{le-ltb, ne_eqb}
use Rattle.hw_types.specs.Rounds.{changes_lawfully}

-- All moments lie in one round of 2^64 milliseconds or more, so its length never changes.
pub long_round : (before exponent time other : ℕ) → other ≤ 40 → 64 ≤ exponent → before < 2 ^ 64 → time < 2 ^ 64 → changes_lawfully before exponent time other ≡ false
long_round before exponent time other small large b t =
    let wide : 2 ^ 64 ≤ 2 ^ exponent = pow-le-pow_right (lit< tt) large in
    let greater : max exponent other ≡ exponent = max-eq_left (omega arith) in
    let nb : before / 2 ^ exponent ≡ 0 = div-eq_of_lt (omega arith) in
    let nt : time / 2 ^ exponent ≡ 0 = div-eq_of_lt (omega arith) in
    let differ : (exponent == other) ≡ false = ne_eqb exponent other (λ e. omega arith) in
    rw (differ, greater) (le-ltb (before / 2 ^ exponent) (time / 2 ^ exponent) (omega arith))
