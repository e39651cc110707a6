-- Laws of needs as keys.
use Rattle.std.proofs.Common.{◌≡◌, ℕ, true, eqb, refl, ap, eqb-true, rules, arith}
use Rattle.std.specs.Ordering.{is_eq, nat_cmp}
use Rattle.std.proofs.lemmas.Bool.Decides.{nat_tests}
use Rattle.std.proofs.lemmas.Map.Text.{is_eq-slice_cmp}
use Rattle.hw_types.specs.declared.unit.Need.{Need}
use Rattle.hw_types.specs.declared.unit.Need.TheVariants as need
use Rattle.hw_types.specs.contracts.unit.NeedPartialEq.TheImpl as test
use Rattle.hw_types.specs.Settled.{need_eq}
use Rattle.hw_types.proofs.SettledLaws.{digest_same, digest_self}
use Rattle.hw_park.specs.Keys.{key_of, ties}

number_tie : (v w : ℕ) → is_eq (nat_cmp v w) ≡ eqb v w
number_tie v w = grind (arith, nat_tests)

-- the keys of two needs tie where the needs are equal
pub key_same : (m n : Need) → ties (key_of m) (key_of n) ≡ need_eq m n
key_same (need.Unit d) (need.Unit e) = is_eq-slice_cmp d.0 e.0
key_same (need.Evidence v) (need.Evidence w) = number_tie v w
key_same (need.Endorsed d) (need.Endorsed e) = is_eq-slice_cmp d.0 e.0
key_same (need.Unit d) (need.Evidence w) = refl
key_same (need.Unit d) (need.Endorsed e) = refl
key_same (need.Evidence v) (need.Unit e) = refl
key_same (need.Evidence v) (need.Endorsed e) = refl
key_same (need.Endorsed d) (need.Unit e) = refl
key_same (need.Endorsed d) (need.Evidence w) = refl

-- equal needs are one
pub need_same : (m n : Need) → need_eq m n ≡ true → m ≡ n
need_same (need.Unit d) (need.Unit e) h = ap need.Unit (digest_same d e h)
need_same (need.Evidence v) (need.Evidence w) h = ap need.Evidence (eqb-true v w h)
need_same (need.Endorsed d) (need.Endorsed e) h = ap need.Endorsed (digest_same d e h)
need_same (need.Unit d) (need.Evidence w) h = absurd cc
need_same (need.Unit d) (need.Endorsed e) h = absurd cc
need_same (need.Evidence v) (need.Unit e) h = absurd cc
need_same (need.Evidence v) (need.Endorsed e) h = absurd cc
need_same (need.Endorsed d) (need.Unit e) h = absurd cc
need_same (need.Endorsed d) (need.Evidence w) h = absurd cc

-- a need is equal to itself
pub need_self : (n : Need) → need_eq n n ≡ true
need_self (need.Unit d) = digest_self d
need_self (need.Evidence v) = search rules
need_self (need.Endorsed d) = digest_self d

-- the derived test is that of the definitions
pub test_same : (m n : Need) → test.eq-value.it m n ≡ need_eq m n
test_same (need.Unit d) (need.Unit e) = refl
test_same (need.Evidence v) (need.Evidence w) = refl
test_same (need.Endorsed d) (need.Endorsed e) = refl
test_same (need.Unit d) (need.Evidence w) = refl
test_same (need.Unit d) (need.Endorsed e) = refl
test_same (need.Evidence v) (need.Unit e) = refl
test_same (need.Evidence v) (need.Endorsed e) = refl
test_same (need.Endorsed d) (need.Unit e) = refl
test_same (need.Endorsed d) (need.Evidence w) = refl
