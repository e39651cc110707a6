-- Steps of a run, one after the other.
use Rattle.std.proofs.Common.{◌≡◌, ℕ, ◌+◌, ◌<◌, Bool, true, false, [], ◌∷◌, ◌++◌, length, Ok, Err, refl, sym, ap, subst, ◌∙◌, arith, length-append}
use Rattle.std.specs.Prelude.{◌||◌}
use Rattle.hw_service.specs.declared.fault.ServiceFault.{ServiceFault}
use Rattle.hw_service.specs.Steps.{Step, Taken, any_failed, AreTaken, TakesAll, TakesUntil}

or_false : (b : Bool) → (b || false) ≡ b
or_false true = refl
or_false false = refl

any_more : {S : Type 0} (ts : Taken S) (z : S) (failed : Bool) → any_failed (ts ++ (z, failed) ∷ []) ≡ (any_failed ts || failed)
any_more [] z failed = or_false failed
any_more ((s, true) ∷ ts) z failed = refl
any_more ((s, false) ∷ ts) z failed = any_more ts z failed

each_more : {S : Type 0} (step : Step S) (number k : ℕ) (first : S) (ts : Taken S) (m z : S) (failed : Bool) → k ≡ number + length ts → AreTaken step number first ts m → step k m z (Ok failed)
    → AreTaken step number first (ts ++ (z, failed) ∷ []) z
unfolding AreTaken
each_more {S} step number k first [] m z failed e is next =
    let here : k ≡ number = let it : k ≡ number + 0 = e in omega (arith, it) in
    (subst (λ (n : ℕ). step n first z (Ok failed)) here (subst (λ (x : S). step k x z (Ok failed)) is next), refl)
each_more step number k first (t ∷ ts) m z failed e are next = (are.0, each_more step (number + 1) k t.0 ts m z failed (omega (arith, e)) are.1 next)

-- no step yet
pub none_taken : {S : Type 0} (step : Step S) (number : ℕ) (s : S) → TakesAll step number 0 s s false
unfolding AreTaken
none_taken step number s = record { taken = []; count_is = refl; each = refl; failed_is = refl }

-- one step more
pub one_taken : {S : Type 0} (step : Step S) (number count k : ℕ) (first m z : S) (before failed : Bool) → TakesAll step number count first m before → k ≡ number + count → step k m z (Ok failed)
    → TakesAll step number (count + 1) first z (before || failed)
one_taken step number count k first m z before failed all e next = record {
  taken = all.taken ++ (z, failed) ∷ [];
  count_is = omega (arith, length-append all.taken ((z, failed) ∷ []), all.count_is);
  each = each_more step number k first all.taken m z failed (e ∙ ap (λ (n : ℕ). number + n) (sym all.count_is)) all.each next;
  failed_is = ap (λ (b : Bool). b || failed) all.failed_is ∙ sym (any_more all.taken z failed);
}

-- a step that ends the run
pub last_taken : {S : Type 0} (step : Step S) (number count total k : ℕ) (first m z : S) (before : Bool) (e : ServiceFault) → TakesAll step number count first m before → count < total → k ≡ number + count → step k m z (Err e)
    → TakesUntil step number total first z e
last_taken step number count total k first m z before e all less is next = record {
  taken = all.taken;
  fewer = subst (λ (n : ℕ). n < total) (sym all.count_is) less;
  before = m;
  each = all.each;
  ends = subst (λ (n : ℕ). step n m z (Err e)) (is ∙ ap (λ (n : ℕ). number + n) (sym all.count_is)) next;
}

-- all of them, where the count is written otherwise
pub all_taken : {S : Type 0} (step : Step S) (number count other : ℕ) (first last : S) (failed : Bool) → TakesAll step number count first last failed → count ≡ other → TakesAll step number other first last failed
all_taken step number count other first last failed all e = subst (λ (n : ℕ). TakesAll step number n first last failed) e all
