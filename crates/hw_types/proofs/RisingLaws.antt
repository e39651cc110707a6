-- Lists in the order of names: the same members make the same list.
use Rattle.std.proofs.Common.{◌≡◌, ℕ, zero, suc, ◌⊎◌, inl, inr, Bool, true, false, cond, List, [], ◌∷◌, refl, sym, ap, subst, ◌∙◌, Less}
use Rattle.std.specs.Prelude.{filter}
use Rattle.std.specs.Ordering.{ordering_reverse}
use Rattle.std.proofs.lemmas.Cmp.{nat_list_cmp_total}
use Rattle.hw_types.specs.declared.unit.Obs.{Obs}
use Rattle.hw_types.specs.declared.config.Config.{Config}
use Rattle.hw_types.specs.Closure.{closure, closure_after}
use Rattle.hw_types.specs.Graph.{Node, cites, unit_cites, reach, past}
use Rattle.hw_types.specs.Below.{Among}
use Rattle.hw_types.specs.ByName.{Before, BeforeAll, IsRising}
use Rattle.hw_types.specs.Rules.{state_rule, state_tests}
use Rattle.hw_types.specs.Tests.{first_broken}
use Rattle.hw_types.proofs.ClosureLaws.{Within, Among-filter}
use Rattle.hw_types.proofs.PastLaws.{reach_grows, reach_stays}

pub never_itself : (x : Node) → Before x x → ⊥
never_itself x h = let turned : Less ≡ ordering_reverse Less = sym h ∙ nat_list_cmp_total.antisymm x.digest.0 x.digest.0 ∙ ap ordering_reverse h in cc

both_before : (x y : Node) → Before x y → Before y x → ⊥
both_before x y h k = never_itself x (nat_list_cmp_total.trans x.digest.0 y.digest.0 x.digest.0 h k)

-- of a list that has all of x ∷ xs and no more, the first is x
first_same : (x y : Node) (xs ys : List Node) → BeforeAll x xs → BeforeAll y ys → ((y ≡ x) ⊎ Among x ys) → ((x ≡ y) ⊎ Among y xs) → x ≡ y
first_same x y xs ys bx by (inl e) q = sym e
first_same x y xs ys bx by (inr m) (inl e) = e
first_same x y xs ys bx by (inr m) (inr n) = absurd (both_before x y (bx y n) (by x m))

rest_within : (x y : Node) (xs ys : List Node) → x ≡ y → BeforeAll x xs → Within (x ∷ xs) (y ∷ ys) → Within xs ys
rest_within x y xs ys same bx w z m = go (w z (inr m))
  where
    go : ((y ≡ z) ⊎ Among z ys) → Among z ys
    go (inl e) = absurd (never_itself x (subst (λ v. Before x v) (sym (same ∙ e)) (bx z m)))
    go (inr n) = n

pub rising_same : (xs ys : List Node) → IsRising xs → IsRising ys → Within xs ys → Within ys xs → xs ≡ ys
rising_same [] [] r s w v = refl
rising_same [] (y ∷ ys) r s w v = absurd (v y (inl refl))
rising_same (x ∷ xs) [] r s w v = absurd (w x (inl refl))
rising_same (x ∷ xs) (y ∷ ys) r s w v =
    let same = first_same x y xs ys r.0 s.0 (w x (inl refl)) (v y (inl refl)) in
    let tails = rising_same xs ys r.1 s.1 (rest_within x y xs ys same r.0 w) (rest_within y x ys xs (sym same) s.0 v) in
    λ i. same i ∷ tails i

filter_before : (p : Node → Bool) (x : Node) (ys : List Node) → BeforeAll x ys → BeforeAll x (filter p ys)
filter_before p x ys b y m = b y (Among-filter p y ys m).0

pub rising_filter : (p : Node → Bool) (xs : List Node) → IsRising xs → IsRising (filter p xs)
rising_filter p [] r = tt
rising_filter p (x ∷ xs) r = go (p x) (rising_filter p xs r.1)
  where
    go : (b : Bool) → IsRising (filter p xs) → IsRising (cond b (x ∷ filter p xs) (filter p xs))
    go true s = (filter_before p x xs r.0, s)
    go false s = s

pub rising_closure : (admits : List Node → Node → Bool) (xs : List Node) (n : ℕ) → IsRising xs → IsRising (closure_after n admits xs)
unfolding closure_after
rising_closure admits xs zero r = tt
rising_closure admits xs (suc n) r = rising_filter (admits (closure_after n admits xs)) xs r

pub rising_reach : (leads : Node → Node → Bool) (first : Node → Bool) (units : List Node) → IsRising units → IsRising (reach leads first units)
unfolding reach closure
rising_reach leads first units r = rising_closure _ units _ r

-- More units, to which no citation of the old ones and none of the panorama leads, change no past.
module _ (units more : List Node) (rising : IsRising units) (rising_more : IsRising more) (part : Within units more)
    (closed : (x y : Node) → Among y units → Among x more → cites y.unit.panorama x ≡ true → Among x units) where
  pub past_stable : (panorama : List Obs) → ((x : Node) → Among x more → cites panorama x ≡ true → Among x units) → past more panorama ≡ past units panorama
  past_stable panorama own = rising_same (past more panorama) (past units panorama)
      (rising_reach unit_cites (cites panorama) more rising_more) (rising_reach unit_cites (cites panorama) units rising)
      (reach_stays unit_cites (cites panorama) units more part closed own) (reach_grows unit_cites (cites panorama) units more part closed own)

  -- and no verdict of a state rule
  pub state_rule_stable : (config : Config) (u : Node) → ((x : Node) → Among x more → cites u.unit.panorama x ≡ true → Among x units) → state_rule config more u ≡ state_rule config units u
  state_rule_stable config u own = ap (λ below. first_broken (state_tests config below u)) (past_stable u.unit.panorama own)
