use Rattle.std.proofs.Common.{◌≡◌, ℕ, ◌*◌, ◌^◌, ◌≤◌, ◌<◌, sym, ap, ◌∙◌, arith}
use Rattle.std.proofs.Math.Nat.{div-eq_of_lt}
use Rattle.std.proofs.Math.Pow.{pow_mono}
use Rattle.hw_c.proofs.facts.round_of.Goals as goal

pub returns-then-exponent-ge64 : goal.returns-then-exponent-ge64
returns-then-exponent-ge64 c =
    let high : 64 ≤ c.args.exponent = omega arith in
    let wide : 2 ^ 64 ≤ 2 ^ c.args.exponent = pow_mono high in
    let within : c.args.time < 2 ^ c.args.exponent = omega arith in
    let nothing : 0 * 2 ^ c.args.exponent ≡ 0 = omega arith in
    sym (ap (λ (q : ℕ). q * 2 ^ c.args.exponent) (div-eq_of_lt within) ∙ nothing)
