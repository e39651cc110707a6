-- Tests that tell equal values.
use Rattle.std.proofs.Common.{◌≡◌, true, refl, ap, subst, eqb-true, eq-eqb}
use Rattle.hw_types.specs.declared.unit.Need.{Need}
use Rattle.hw_types.specs.declared.unit.Need.TheVariants as need
use Rattle.hw_types.specs.Same.{unit_eq}
use Rattle.hw_types.specs.Settled.{need_eq}
use Rattle.hw_types.proofs.OrderLaws.{unit_same, unit_self}
use Rattle.hw_types.proofs.SettledLaws.{digest_same, digest_self}
use Rattle.hw_theorem.specs.Equal.{UnitsAreTold, NeedsAreTold}

need_same : (m n : Need) → need_eq m n ≡ true → m ≡ n
need_same (need.Unit d) (need.Unit e) h = ap need.Unit (digest_same d e h)
need_same (need.Evidence v) (need.Evidence w) h = ap need.Evidence (eqb-true v w h)
need_same (need.Endorsed d) (need.Endorsed e) h = ap need.Endorsed (digest_same d e h)
need_same (need.Unit d) (need.Evidence w) h = absurd cc
need_same (need.Unit d) (need.Endorsed e) h = absurd cc
need_same (need.Evidence v) (need.Unit e) h = absurd cc
need_same (need.Evidence v) (need.Endorsed e) h = absurd cc
need_same (need.Endorsed d) (need.Unit e) h = absurd cc
need_same (need.Endorsed d) (need.Evidence w) h = absurd cc

need_self : (n : Need) → need_eq n n ≡ true
need_self (need.Unit d) = digest_self d
need_self (need.Evidence v) = eq-eqb v v refl
need_self (need.Endorsed d) = digest_self d

pub units_told : UnitsAreTold
units_told u v = (unit_same u v, λ same. subst (λ w. unit_eq u w ≡ true) same (unit_self u))

pub needs_told : NeedsAreTold
needs_told m n = (need_same m n, λ same. subst (λ k. need_eq m k ≡ true) same (need_self m))
