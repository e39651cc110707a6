-- The test of equality says when two units are one.
use Rattle.std.proofs.Common.{◌≡◌, ℕ, Bool, true, false, ◌&&◌, List, [], ◌∷◌, Option, Some, None, ◌<◌, nat_le, not, if◌then◌else◌, refl, sym, ◌∙◌, subst, eq-eqb, arith}
use Rattle.std.proofs.lemmas.Bool.Decides.{nat_tests}
use lib.Pointwise.{pointwise, bytes_decides}
use Rattle.std.proofs.lemmas.Bool.{false≢true}
use Rattle.hw_types.specs.declared.unit.Obs.{Obs}
use Rattle.hw_types.specs.declared.unit.Obs.TheVariants.{Absent, Correct, Faulty}
use Rattle.hw_types.specs.declared.unit.Digest.{Digest}
use Rattle.hw_types.specs.declared.unit.WireUnit.{WireUnit}
use Rattle.hw_types.specs.declared.unit.Evidence.{Evidence}
use Rattle.hw_types.specs.declared.answers.PairFault.TheVariants.{Same}
use Rattle.hw_types.specs.Journal.{pair_fault}
use Rattle.hw_types.specs.Same.{obs_eq, value_eq, unit_eq}
use Rattle.hw_types.specs.Graph.{digest_eq}
use Rattle.hw_types.proofs.SettledLaws.{digest_self}
use Rattle.hw_types.proofs.OrderLaws.{unit_same}

both : (a b : Bool) → a ≡ true → b ≡ true → a && b ≡ true
both true true p q = refl
both true false p q = q
both false b p q = p

own : {A : Type 0} (E : A → A → Bool) → ((x : A) → E x x ≡ true) → (xs : List A) → pointwise E xs xs ≡ true
own E self [] = refl
own E self (x ∷ xs) = both (E x x) (pointwise E xs xs) (self x) (own E self xs)

obs_self : (o : Obs) → obs_eq o o ≡ true
obs_self Absent = refl
obs_self Faulty = refl
obs_self (Correct d) = digest_self d

value_self : (value : Option (List ℕ)) → value_eq value value ≡ true
value_self None = refl
value_self (Some bytes) = (bytes_decides bytes bytes).1 refl

unit_self : (u : WireUnit) → unit_eq u u ≡ true
unit_self u =
    both _ _ (both _ _ (both _ _ (both _ _ (both _ _ (both _ _ (both _ _ (digest_self u.instance) (eq-eqb u.creator u.creator refl))
    (eq-eqb u.seq u.seq refl)) (eq-eqb u.time u.time refl)) (eq-eqb u.exponent u.exponent refl))
    (own obs_eq obs_self u.panorama)) (value_self u.value)) (own digest_eq digest_self u.endorsed)

pub same_unit : (u v : WireUnit) → u ≡ v → unit_eq u v ≡ true
same_unit u v same = subst (λ w. unit_eq u w ≡ true) same (unit_self u)

pub other_unit : (u v : WireUnit) → (u ≡ v → ⊥) → unit_eq u v ≡ false
other_unit u v differ = go (unit_eq u v) refl where
  go : (b : Bool) → unit_eq u v ≡ b → b ≡ false
  go true same = absurd (differ (unit_same u v same))
  go false same = refl

-- where the other tests find nothing, the last one decides
pub last_test : (validators : ℕ) (instance : Digest) (e : Evidence) (b : Bool) → e.left.unit.creator ≡ e.right.unit.creator → e.left.unit.creator < validators
    → e.left.unit.seq ≡ e.right.unit.seq → digest_eq e.left.unit.instance instance ≡ true → digest_eq e.right.unit.instance instance ≡ true
    → unit_eq e.left.unit e.right.unit ≡ b → pair_fault validators instance e ≡ (if b then Some Same else None)
last_test validators instance e b creators within numbers left right units =
    let t1 = eq-eqb e.left.unit.creator e.right.unit.creator creators in
    let t2 : nat_le validators e.left.unit.creator ≡ false = grind (arith, nat_tests) in
    let t3 = eq-eqb e.left.unit.seq e.right.unit.seq numbers in
    rw (units, t1, t2, t3, left, right) refl

-- what a test that was denied says
pub not_denied : (b n : Bool) → n ≡ not b → n ≡ false → b ≡ true
not_denied true n e f = refl
not_denied false n e f = absurd (false≢true (sym f ∙ e))
