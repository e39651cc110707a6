-- The units of a lane are a chain.
use Rattle.std.proofs.Common.{◌≡◌, ℕ, ◌≤◌, ◌⊎◌, inl, inr, Bool, true, List, Some, sym, subst, ◌∙◌, arith}
use Rattle.hw_types.specs.Graph.{Node, node_eq, follows, lane_of}
use Rattle.hw_types.specs.Below.{Among}
use Rattle.hw_types.specs.Lawful.{IsLawful}
use Rattle.hw_types.proofs.PastLaws.{reach_further, reach_keeps}
use Rattle.hw_types.proofs.GraphLaws.{rising_one_name}
use Rattle.hw_types.proofs.SettledLaws.{digest_self}
use Rattle.hw_types.proofs.LaneLaws.{on_own_lane, lane_within, lane_seq, followed_previous}

module _ (weights : List ℕ) (faulty : ℕ → Bool) (units : List Node) (lawful : IsLawful weights faulty units) where
  first_is : (x u : Node) → Among x units → Among u units → node_eq x u ≡ true → x ≡ u
  first_is x u m n t = rising_one_name units lawful.in_order x u u.digest m n t (digest_self u.digest)

  one_followed : (z x y : Node) → Among z units → Among x units → Among y units → follows z x ≡ true → follows z y ≡ true → x ≡ y
  one_followed z x y mz mx my tx ty = let same : Some x ≡ Some y = sym (followed_previous weights faulty units lawful z x mz mx tx) ∙ followed_previous weights faulty units lawful z y mz my ty in cc

  pub lane_further : (u x y : Node) → Among y (lane_of units u) → Among x units → follows y x ≡ true → Among x (lane_of units u)
  lane_further u x y h m t = reach_further follows (λ a. node_eq a u) units x y h m t

  -- a lane is its last unit and the lane of the one that it follows
  lane_head : (u x : Node) → Among u units → Among x (lane_of units u) → (x ≡ u) ⊎ ((p : Node) × Among p units × (follows u p ≡ true) × Among x (lane_of units p))
  lane_head u x m h = (reach_keeps follows (λ y. node_eq y u) units
      (λ y. Among y units × ((y ≡ u) ⊎ ((p : Node) × Among p units × (follows u p ≡ true) × Among y (lane_of units p))))
      (λ y n t. (n, inl (first_is y u n m t)))
      (λ y z q n t. (n, inr (down y z n t q.1))) x h).1
    where
      down : (y z : Node) → Among y units → follows z y ≡ true → ((z ≡ u) ⊎ ((p : Node) × Among p units × (follows u p ≡ true) × Among z (lane_of units p)))
          → (p : Node) × Among p units × (follows u p ≡ true) × Among y (lane_of units p)
      down y z n t (inl e) = (y, n, subst (λ w. follows w y ≡ true) e t, on_own_lane weights faulty units lawful y n)
      down y z n t (inr p) = (p.0, p.1, p.2, lane_further p.0 y z p.3 n t)

  -- of two units of a lane one is on the other's lane
  pub lane_order : (u x y : Node) → Among u units → Among x (lane_of units u) → Among y (lane_of units u) → Among x (lane_of units y) ⊎ Among y (lane_of units x)
  lane_order u x y m hx hy = (reach_keeps follows (λ z. node_eq z u) units
      (λ z. Among z units × (Among x (lane_of units z) ⊎ Among z (lane_of units x)))
      (λ z n t. (n, inl (subst (λ w. Among x (lane_of units w)) (sym (first_is z u n m t)) hx)))
      (λ z w q n t. (n, next z w q.0 n t q.1)) y hy).1
    where
      mx : Among x units
      mx = lane_within weights faulty units lawful u x hx

      next : (z w : Node) → Among w units → Among z units → follows w z ≡ true → (Among x (lane_of units w) ⊎ Among w (lane_of units x)) → Among x (lane_of units z) ⊎ Among z (lane_of units x)
      next z w mw mz t (inr h) = inr (lane_further x z w h mz t)
      next z w mw mz t (inl h) = elim (lane_head w x mw h) [
        | inl e ↦ inr (lane_further x z w (subst (λ a. Among w (lane_of units a)) (sym e) (on_own_lane weights faulty units lawful w mw)) mz t)
        | inr p ↦ inl (subst (λ a. Among x (lane_of units a)) (one_followed w p.0 z mw p.1 mz p.2 t) p.3)
      ]

  -- the one with the lesser number is on the lane of the other
  pub lane_chain : (u x y : Node) → Among u units → Among x (lane_of units u) → Among y (lane_of units u) → x.unit.seq ≤ y.unit.seq → Among x (lane_of units y)
  lane_chain u x y m hx hy le = elim (lane_order u x y m hx hy) [
    | inl h ↦ h
    | inr h ↦ elim (lane_seq weights faulty units lawful x y (lane_within weights faulty units lawful u x hx) h) [
      | inl same ↦ subst (λ a. Among x (lane_of units a)) (sym same) (on_own_lane weights faulty units lawful x (lane_within weights faulty units lawful u x hx))
      | inr less ↦ absurd (omega arith)
    ]
  ]

  -- a lane has one unit of each number
  pub lane_one : (u x y : Node) → Among u units → Among x (lane_of units u) → Among y (lane_of units u) → x.unit.seq ≡ y.unit.seq → x ≡ y
  lane_one u x y m hx hy e = elim (lane_seq weights faulty units lawful y x (lane_within weights faulty units lawful u y hy) (lane_chain u x y m hx hy (omega arith))) [
    | inl same ↦ same
    | inr less ↦ absurd (omega arith)
  ]
