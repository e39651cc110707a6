-- The rules on rounds.
use Rattle.std.proofs.Common.{◌≡◌, ℕ, ◌*◌, ◌/◌, ◌^◌, ◌≤◌, ◌<◌, ◌⊎◌, inl, inr, true, false, not, List, [], ◌∷◌, length, Option, Some, None, refl, sym, ap, subst, ◌∙◌, arith, eqb-true, eq-eqb, ltb-false, leb-false, div-mul-le_self, mul-le-mul_right}
use Rattle.std.specs.Prelude.{◌&&◌, ◌||◌, ◌==◌, nat_lt, nat_le, filter}
use Rattle.std.proofs.Math.Nat.{mul-div_left}
use Rattle.std.proofs.lemmas.Nat.{le-div, pow_pos}
use Rattle.hw_types.specs.declared.unit.Obs.{Obs}
use Rattle.hw_types.specs.declared.unit.Obs.TheVariants.{Absent, Correct, Faulty}
use Rattle.hw_types.specs.Graph.{Node, node_eq, is_some_and, is_faulty_mark, past, slot, observes, observed, latest, previous, follows, lane_of, is_on_lane}
use Rattle.hw_types.specs.Below.{Among}
use Rattle.hw_types.specs.Rounds.{round_id, changes_lawfully}
use Rattle.hw_types.specs.Rules.{same_round}
use Rattle.hw_types.specs.Journal.{Setting}
use Rattle.hw_types.specs.Step.{lane_units_in, may_not_step}
use Rattle.hw_types.proofs.ClosureLaws.{filter-Among}
use Rattle.hw_types.proofs.PastLaws.{reach_further}
use Rattle.hw_types.proofs.StableLaws.{and_whole}
use Rattle.hw_types.proofs.SettledLaws.{digest_self}
use Rattle.hw_types.proofs.WordsLaws.{either, not_false, or_none, among_is, find_node_is}
use Rattle.hw_types.proofs.LaneLaws.{on_own_lane, followed_cited, followed_seq}
use Rattle.hw_honest.proofs.KeptLaws.{KeptGraph, settled, faulty, state, lawful, time_rises}
use Rattle.hw_honest.proofs.ChosenLaws.{IsUsable, own}
use Rattle.hw_honest.proofs.BelowLaws.{inside, below_latest, previous_own, none_and}

-- ---- numbers

two_power : (e : ℕ) → 0 < 2 ^ e
two_power e = pow_pos e

div_rises : (a b e : ℕ) → a ≤ b → a / 2 ^ e ≤ b / 2 ^ e
div_rises a b e le = le-div (a / 2 ^ e) b (2 ^ e) (two_power e) (let down = div-mul-le_self a (2 ^ e) in omega arith)

-- a later moment is in no earlier round
pub round_rises : (a b e : ℕ) → a ≤ b → round_id a e ≤ round_id b e
round_rises a b e le = mul-le-mul_right (2 ^ e) (div_rises a b e le)

-- a round begins in itself
pub round_begins : (time e : ℕ) → round_id time e / 2 ^ e ≡ time / 2 ^ e
round_begins time e = mul-div_left (time / 2 ^ e) (two_power e)

-- the begin of a round is in that round
pub round_of_round : (time e : ℕ) → round_id (round_id time e) e ≡ round_id time e
round_of_round time e = ap (λ n. n * 2 ^ e) (round_begins time e)

-- a round begins no later than its moments
pub round_before : (time e : ℕ) → round_id time e ≤ time
round_before time e = div-mul-le_self time (2 ^ e)

-- ---- two in a list

some_long : {A : Type 0} (x : A) (xs : List A) → Among x xs → 1 ≤ length xs
some_long x [] m = absurd m
some_long x (y ∷ ys) m = omega arith

two_long : {A : Type 0} (x y : A) (xs : List A) → Among x xs → Among y xs → (x ≡ y → ⊥) → 2 ≤ length xs
two_long x y [] m n ne = absurd m
two_long x y (z ∷ zs) (inl e) (inl f) ne = absurd (ne (sym e ∙ f))
two_long x y (z ∷ zs) (inl e) (inr n) ne = let le = some_long y zs n in omega arith
two_long x y (z ∷ zs) (inr m) n ne = let le = some_long x zs m in omega arith

-- two units of a lane in the round are counted
pub two_in_round : (units : List Node) (p x y : Node) (round e : ℕ) → Among x units → Among y units → is_on_lane units x p ≡ true → is_on_lane units y p ≡ true
    → round_id x.unit.time e ≡ round → round_id y.unit.time e ≡ round → (x ≡ y → ⊥) → 2 ≤ lane_units_in units p round e
unfolding lane_units_in
two_in_round units p x y round e m n lx ly rx ry ne =
    two_long x y (filter (λ z. is_on_lane units z p && (round_id z.unit.time e == round)) units)
    (filter-Among (λ z. is_on_lane units z p && (round_id z.unit.time e == round)) x units m (and_whole _ _ lx (eq-eqb _ _ rx)))
    (filter-Among (λ z. is_on_lane units z p && (round_id z.unit.time e == round)) y units n (and_whole _ _ ly (eq-eqb _ _ ry))) ne

-- ---- where a step may be made

-- the own slot isn't marked, and the own last unit lets a unit of this time follow
pub record MayStep (units : List Node) (own_slot : Obs) (last : Option Node) (time round exponent : ℕ) : Type 0 where
  pub honest : is_faulty_mark own_slot ≡ false
  pub before : (p : Node) → last ≡ Some p → p.unit.time ≤ time
  pub alone : (p : Node) → last ≡ Some p → lane_units_in units p round exponent < 2
  pub lawful_change : (p : Node) → last ≡ Some p → changes_lawfully p.unit.time p.unit.exponent time exponent ≡ true

-- where the test against a step fails, this holds
pub may_step : (units : List Node) (own_slot : Obs) (last : Option Node) (time round exponent : ℕ) → may_not_step units own_slot last time round exponent ≡ false → MayStep units own_slot last time round exponent
may_step units own_slot last time round exponent h = record {
  honest = parts.0;
  before = λ p e. ltb-false time p.unit.time (or_none _ _ (or_none _ _ (tests p e)).0).0;
  alone = λ p e. leb-false 2 (lane_units_in units p round exponent) (or_none (nat_lt time p.unit.time) _ (or_none _ _ (tests p e)).0).1;
  lawful_change = λ p e. not_false _ (or_none _ _ (tests p e)).1;
}
  where
    parts : (is_faulty_mark own_slot ≡ false) × (is_some_and (λ (p : Node). nat_lt time p.unit.time || nat_le 2 (lane_units_in units p round exponent) || not (changes_lawfully p.unit.time p.unit.exponent time exponent)) last ≡ false)
    parts = or_none _ _ h

    tests : (p : Node) → last ≡ Some p → (nat_lt time p.unit.time || nat_le 2 (lane_units_in units p round exponent) || not (changes_lawfully p.unit.time p.unit.exponent time exponent)) ≡ false
    tests p e = sym (ap (is_some_and (λ (q : Node). nat_lt time q.unit.time || nat_le 2 (lane_units_in units q round exponent) || not (changes_lawfully q.unit.time q.unit.exponent time exponent))) e) ∙ parts.1

-- ---- the rules

module _ (s : Setting) (graph : KeptGraph s) (me now time : ℕ) (os : List Obs) (usable : IsUsable s graph me time os)
    (may : MayStep (settled s graph) (slot (state s graph) me) (own s graph me) time (round_id now s.config.min_exponent) s.config.min_exponent)
    (in_round : time / 2 ^ s.config.min_exponent ≡ now / 2 ^ s.config.min_exponent) where
  abbrev e : ℕ
  e = s.config.min_exponent

  -- the units
  abbrev units : List Node
  units = settled s graph

  -- those below the panorama
  abbrev under : List Node
  under = past (settled s graph) os

  -- the unit that the previous one follows is not in the round
  not_third : (p g : Node) → latest under os me ≡ Some p → previous under p ≡ Some g → (g.unit.time / 2 ^ e == time / 2 ^ e) ≡ true → ⊥
  not_third p g hp hg t = go (slot p.unit.panorama p.unit.creator) refl
    where
      is_own : own s graph me ≡ Some p
      is_own = previous_own s graph me time os usable p hp

      mp : Among p units
      mp = inside s graph me time os usable p (below_latest s graph me time os usable me p hp).0

      counted : Among g units → follows p g ≡ true → ⊥
      counted mg follows_it =
          let earlier = time_rises s graph p g mp mg (followed_cited s.config.weights (faulty s graph) units (lawful s graph) p g follows_it) in
          let before = may.before p is_own in
          let number = followed_seq s.config.weights (faulty s graph) units (lawful s graph) p g mp mg follows_it in
          let same = eqb-true (g.unit.time / 2 ^ e) (time / 2 ^ e) t in
          let low = div_rises g.unit.time p.unit.time e earlier in
          let high = div_rises p.unit.time time e before in
          let at_p : p.unit.time / 2 ^ e ≡ now / 2 ^ e = omega (arith, in_round) in
          let at_g : g.unit.time / 2 ^ e ≡ now / 2 ^ e = same ∙ in_round in
          let start = on_own_lane s.config.weights (faulty s graph) units (lawful s graph) p mp in
          let many = two_in_round units p p g (round_id now e) e mp mg
          (among_is p (lane_of units p) start)
          (among_is g (lane_of units p) (reach_further follows (λ a. node_eq a p) units g p start mg follows_it))
          (ap (λ n. n * 2 ^ e) at_p) (ap (λ n. n * 2 ^ e) at_g)
          (λ eq. let n = ap (λ (z : Node). z.unit.seq) eq in absurd (omega arith)) in
          let few = may.alone p is_own in
          absurd (omega (arith, many, few))

      go : (o : Obs) → slot p.unit.panorama p.unit.creator ≡ o → ⊥
      go Absent k = let no : None ≡ Some g = sym (ap (observed under) k) ∙ hg in cc
      go Faulty k = let no : None ≡ Some g = sym (ap (observed under) k) ∙ hg in cc
      go (Correct d) k =
          let f = find_node_is under g d (sym (ap (observed under) k) ∙ hg) in
          counted (inside s graph me time os usable g f.0) (ap (λ o. observes o g.digest) (k ∙ ap Correct (sym f.1)) ∙ digest_self g.digest)

  module _ (u : Node) (its_panorama : u.unit.panorama ≡ os) (its_creator : u.unit.creator ≡ me) (its_time : u.unit.time ≡ time) (its_exponent : u.unit.exponent ≡ e) where
    previous_is : previous under u ≡ latest under os me
    previous_is = λ i. latest under (its_panorama i) (its_creator i)

    pub previous_last : (p : Node) → previous under u ≡ Some p → own s graph me ≡ Some p
    previous_last p h = previous_own s graph me time os usable p (sym previous_is ∙ h)

    pub no_third : is_some_and (λ p. is_some_and (λ g. same_round g u) (previous under p)) (previous under u) ≡ false
    no_third = none_and _ (previous under u) (λ p hp. none_and (λ g. same_round g u) (previous under p) (λ g hg. third p g hp hg (either (same_round g u))))
      where
        third : (p g : Node) → previous under u ≡ Some p → previous under p ≡ Some g → ((same_round g u ≡ true) ⊎ (same_round g u ≡ false)) → same_round g u ≡ false
        third p g hp hg (inr none) = none
        third p g hp hg (inl same) = absurd (not_third p g (sym previous_is ∙ hp) hg (subst (λ k. (g.unit.time / 2 ^ k == time / 2 ^ k) ≡ true) its_exponent (subst (λ k. (g.unit.time / 2 ^ u.unit.exponent == k / 2 ^ u.unit.exponent) ≡ true) its_time same)))

    pub no_change : is_some_and (λ p. not (changes_lawfully p.unit.time p.unit.exponent u.unit.time u.unit.exponent)) (previous under u) ≡ false
    no_change = none_and _ (previous under u) (λ p hp. ap not
        (subst (λ k. changes_lawfully p.unit.time p.unit.exponent u.unit.time k ≡ true) (sym its_exponent) (subst (λ k. changes_lawfully p.unit.time p.unit.exponent k e ≡ true) (sym its_time) (may.lawful_change p (previous_last p hp)))))
