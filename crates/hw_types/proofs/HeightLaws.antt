-- A fork choice is a block below its panorama, and a block is one higher than its parent.
use Rattle.std.proofs.Common.{◌≡◌, ℕ, zero, suc, ◌+◌, ◌≤◌, ◌<◌, inl, inr, Bool, true, List, length, Option, Some, None, refl, ap, subst, ◌∙◌, arith}
use Rattle.std.specs.Prelude.{◌&&◌, map}
use Rattle.hw_types.specs.declared.unit.Obs.{Obs}
use Rattle.hw_types.specs.Graph.{Node, past, reach}
use Rattle.hw_types.specs.Closure.{closure, closure_after}
use Rattle.hw_types.specs.Below.{Among}
use Rattle.hw_types.specs.Votes.{ForkAt, is_block, is_at, score_of, children_of, best_child, walk, ghost_walk, choice_of, choices_after, fork_over, fork_of, unit_fork, height_within, height_of}
use Rattle.hw_types.proofs.ClosureLaws.{Among-filter, length-filter}
use Rattle.hw_types.proofs.StableLaws.{and_parts}
use Rattle.hw_types.proofs.ChoiceLaws.{IsGraph, fold_in, scored_in, past_fewer, ghost_walk_in}

-- no more units are below a panorama than there are
rounds_short : {A : Type 0} (n : ℕ) (admits : List A → A → Bool) (xs : List A) → length (closure_after n admits xs) ≤ length xs
unfolding closure_after
rounds_short zero admits xs = omega arith
rounds_short (suc n) admits xs = length-filter (admits (closure_after n admits xs)) xs

pub past_short : (units : List Node) (panorama : List Obs) → length (past units panorama) ≤ length units
unfolding reach closure
past_short units panorama = rounds_short (length units) _ units

-- a fork choice is below its panorama
pub chosen_below : (weights : List ℕ) (units : List Node) (panorama : List Obs) (x : Node) → fork_of weights units panorama ≡ Some x → Among x (past units panorama)
unfolding fork_over
chosen_below weights units panorama x e = ghost_walk_in weights (past units panorama) (choice_of (choices_after (length (past units panorama)) weights (past units panorama))) panorama x e

-- ---- a fork choice is a block

best_block : (weights : List ℕ) (below : List Node) (fork_at : ForkAt) (panorama : List Obs) (place : Option Node) (d : ℕ × Node) → best_child weights below fork_at panorama place ≡ Some d → is_block d.1 ≡ true
unfolding best_child
best_block weights below fork_at panorama place d e = elim (fold_in (map (λ c. (score_of weights below fork_at panorama c, c)) (children_of below fork_at place)) None d e) [
  | inl h ↦ absurd cc
  | inr m ↦ (and_parts _ _ (Among-filter (λ b. is_block b && is_at (fork_at b) place) d.1 below (scored_in (score_of weights below fork_at panorama) (children_of below fork_at place) d m)).1).0
]

walk_block : (n : ℕ) (weights : List ℕ) (below : List Node) (fork_at : ForkAt) (panorama : List Obs) (place : Option Node) (y : Node) → (place ≡ Some y → is_block y ≡ true) → walk n weights below fork_at panorama place ≡ Some y → is_block y ≡ true
unfolding walk
walk_block zero weights below fork_at panorama place y at e = at e
walk_block (suc n) weights below fork_at panorama place y at e = go (best_child weights below fork_at panorama place) refl e (λ c. walk_block n weights below fork_at panorama (Some c.1) y)
  where
    go : (o : Option (ℕ × Node)) → best_child weights below fork_at panorama place ≡ o → elim o as (λ z. Option Node) [ None ↦ place | Some c ↦ walk n weights below fork_at panorama (Some c.1) ] ≡ Some y
        → ((c : ℕ × Node) → (Some c.1 ≡ Some y → is_block y ≡ true) → walk n weights below fork_at panorama (Some c.1) ≡ Some y → is_block y ≡ true) → is_block y ≡ true
    go None b h later = at h
    go (Some c) b h later = later c (λ k. let same : c.1 ≡ y = cc in subst (λ z. is_block z ≡ true) same (best_block weights below fork_at panorama place c b)) h

pub chosen_block : (weights : List ℕ) (units : List Node) (panorama : List Obs) (y : Node) → fork_of weights units panorama ≡ Some y → is_block y ≡ true
unfolding fork_over ghost_walk
chosen_block weights units panorama y e = walk_block (length (past units panorama)) weights (past units panorama) (choice_of (choices_after (length (past units panorama)) weights (past units panorama))) panorama None y (λ k. absurd cc) e

-- ---- heights

module _ (weights : List ℕ) (units : List Node) (graph : IsGraph units) where
  abbrev parent : ForkAt
  parent = unit_fork weights units

  abbrev size : Node → ℕ
  size u = length (past units u.unit.panorama)

  abbrev height : Node → ℕ
  height y = height_of weights units y

  -- what so many steps count from there
  abbrev above : ℕ → Option Node → ℕ
  above n o = elim o as (λ z. ℕ) [ None ↦ 0 | Some p ↦ 1 + height_within n parent p ]

  pub own_smaller : (u p : Node) → parent u ≡ Some p → size p < size u
  own_smaller u p e = past_fewer units graph u.unit.panorama p (chosen_below weights units u.unit.panorama p e)

  -- as many steps as there are units below are enough to count
  enough_steps : (n m : ℕ) (y : Node) → size y ≤ n → size y ≤ m → height_within n parent y ≡ height_within m parent y
  unfolding height_within
  enough_steps zero zero y a b = refl
  enough_steps zero (suc m) y a b = go (parent y) refl
    where
      go : (o : Option Node) → parent y ≡ o → 0 ≡ above m o
      go None e = refl
      go (Some p) e = absurd (let fewer = own_smaller y p e in omega arith)
  enough_steps (suc n) zero y a b = go (parent y) refl
    where
      go : (o : Option Node) → parent y ≡ o → above n o ≡ 0
      go None e = refl
      go (Some p) e = absurd (let fewer = own_smaller y p e in omega arith)
  enough_steps (suc n) (suc m) y a b = go (parent y) refl (λ p c d. enough_steps n m p c d)
    where
      go : (o : Option Node) → parent y ≡ o → ((p : Node) → size p ≤ n → size p ≤ m → height_within n parent p ≡ height_within m parent p) → above n o ≡ above m o
      go None e later = refl
      go (Some p) e later = let fewer = own_smaller y p e in ap (λ h. 1 + h) (later p (omega arith) (omega arith))

  next_step : (y : Node) (o : Option Node) → parent y ≡ o → height y ≡ above (length units) o
  unfolding height_of height_within
  next_step y o e =
      let short = past_short units y.unit.panorama in
      let one : height_within (suc (length units)) parent y ≡ above (length units) o = ap (above (length units)) e in
      enough_steps (length units) (suc (length units)) y short (omega arith) ∙ one

  -- a block is one above its parent
  pub parent_height : (y p : Node) → parent y ≡ Some p → height y ≡ 1 + height p
  unfolding height_of
  parent_height y p e = next_step y (Some p) e

  -- and without one it has height 0
  pub root_height : (y : Node) → parent y ≡ None → height y ≡ 0
  root_height y e = next_step y None e
