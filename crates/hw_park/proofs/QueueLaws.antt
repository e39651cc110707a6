-- Laws of the ready numbers.
use Rattle.std.proofs.Common.{◌≡◌, ◌≢◌, ◌⊎◌, inl, inr, ℕ, ◌+◌, ◌<◌, ◌≤◌, Bool, true, false, cond, ◌==◌, List, [], ◌∷◌, ◌++◌, length, length-append, Option, Some, None, refl, ap, sym, ◌∙◌, subst, rules, arith, if◌then◌else◌}
use Rattle.std.specs.List.Sorted.{IsPermutation}
use Rattle.std.specs.Ordering.{nat_cmp, is_lt}
use Rattle.std.specs.BinaryHeap.{IsUpperBound}
use Rattle.std.specs.declared.cmp.Reverse.{Reverse}
use Rattle.std.specs.List.{count_by}
use Rattle.std.proofs.lemmas.List.Sums.{sum_by-cons, count_by-le-length}
use Rattle.std.proofs.lemmas.List.Sorted.{sum_by-IsPermutation}
use Rattle.std.proofs.lemmas.Bool.{cases_eq, cases_lt}
use Rattle.std.proofs.lemmas.Bool.Decides.{nat_tests}
use Rattle.hw_park.specs.Kept.{listed, itself, is_so, tally_of, IsQueue, IsQueueOf}
use Rattle.hw_park.specs.Held.{HasBecome}
use Rattle.hw_park.proofs.ListedLaws.{worth, listed-push, count-optional, count-step, count-all}
use Rattle.hw_park.proofs.WaiterLaws.{IsSet, waiting-set, waiting-other}

-- one of a number
abbrev one_of : Reverse ℕ → ℕ → ℕ
one_of r k = if r.0 == k then 1 else 0

-- how often a number is there, with one number more
pub tally-more : (r : Reverse ℕ) (old new : List (Reverse ℕ)) → IsPermutation (r ∷ old) new → (k : ℕ) → tally_of new k ≡ one_of r k + tally_of old k
tally-more r old new moved k = sum_by-IsPermutation (λ s. cond (s.0 == k) 1 0) (r ∷ old) new moved ∙ sum_by-cons (λ s. cond (s.0 == k) 1 0) r old

-- how often it is there, with one number less
pub tally-less : (r : Reverse ℕ) (old new : List (Reverse ℕ)) → IsPermutation old (r ∷ new) → (k : ℕ) → tally_of old k ≡ one_of r k + tally_of new k
tally-less r old new moved k = sym (sum_by-IsPermutation (λ s. cond (s.0 == k) 1 0) old (r ∷ new) moved) ∙ sum_by-cons (λ s. cond (s.0 == k) 1 0) r new

-- a number is there once
pub one-self : (r : Reverse ℕ) → one_of r r.0 ≡ 1
one-self r = search rules

-- no other number is
pub one-other : (r : Reverse ℕ) (k : ℕ) → r.0 ≢ k → one_of r k ≡ 0
one-other r k apart = grind (arith, nat_tests)

-- not before is behind, or equal
not_less : (a b : ℕ) → is_lt (nat_cmp a b) ≡ false → b ≤ a
not_less a b h = go (cases_lt a b)
  where
    go : ((a < b) ⊎ (b ≤ a)) → b ≤ a
    go (inl low) = absurd (grind (arith, nat_tests))
    go (inr high) = high

-- no number below the first is there
pub tally-below : (r : Reverse ℕ) (ready : List (Reverse ℕ)) → IsUpperBound (λ x y. nat_cmp y.0 x.0) r ready → (k : ℕ) → k < r.0 → tally_of ready k ≡ 0
tally-below r [] bound k low = refl
tally-below r (s ∷ ss) bound k low =
    let first = not_less s.0 r.0 bound.0 in
    let rest = tally-below r ss bound.1 k low in
    let none = one-other s k (λ e. absurd (omega arith)) in
    sum_by-cons (λ t. cond (t.0 == k) 1 0) s ss ∙ omega (arith, rest, none)

-- the worth of an item that is ready, and of one that isn't
pub worth-ready : (o : Option Bool) (b : Bool) → is_so o ≡ b → worth itself o ≡ (if b then 1 else 0)
worth-ready o b said = ap {B = ℕ} (λ (x : Bool). if x then 1 else 0) said

-- the first of the ready numbers is that of a ready item
pub first_ready : (at : ℕ → Option Bool) (n : ℕ) (ready rest : List (Reverse ℕ)) (len room : ℕ) (r : Reverse ℕ)
    → IsQueueOf at n ready len room → IsPermutation ready (r ∷ rest) → is_so (at r.0) ≡ true
first_ready at n ready rest len room r queue moved = go (is_so (at r.0)) refl
  where
    go : (b : Bool) → is_so (at r.0) ≡ b → is_so (at r.0) ≡ true
    go true e = e
    go false e =
        let none = worth-ready (at r.0) false e in
        absurd (omega (arith, none, queue.once r.0, tally-less r ready rest moved r.0, one-self r))

-- no item parked before it is ready
pub none_earlier : (at : ℕ → Option Bool) (n : ℕ) (ready rest : List (Reverse ℕ)) (len room : ℕ) (r : Reverse ℕ)
    → IsQueueOf at n ready len room → IsPermutation ready (r ∷ rest) → IsUpperBound (λ x y. nat_cmp y.0 x.0) r rest
    → (j : ℕ) → j < r.0 → is_so (at j) ≡ false
none_earlier at n ready rest len room r queue moved bound j low = go (is_so (at j)) refl
  where
    go : (b : Bool) → is_so (at j) ≡ b → is_so (at j) ≡ false
    go false e = e
    go true e =
        let one = worth-ready (at j) true e in
        absurd (omega (arith, one, queue.once j, tally-less r ready rest moved j, one-other r j (λ same. absurd (omega arith)), tally-below r rest bound j low))

-- a ready number is below the numbers to come
pub ready_below : (at : ℕ → Option Bool) (n : ℕ) (ready : List (Reverse ℕ)) (len room : ℕ) (k : ℕ)
    → IsQueueOf at n ready len room → is_so (at k) ≡ true → k < n
ready_below at n ready len room k queue said = go (cases_lt k n)
  where
    go : ((k < n) ⊎ (n ≤ k)) → k < n
    go (inl low) = low
    go (inr high) = let gone = queue.below k high in absurd (cc (ap is_so gone))

-- the ready numbers without the first, once its item is gone
pub queue-popped : (at new : ℕ → Option Bool) (n : ℕ) (ready rest : List (Reverse ℕ)) (len less room : ℕ) (r : Reverse ℕ)
    → IsQueueOf at n ready len room → IsPermutation ready (r ∷ rest) → IsQueue rest → less + 1 ≡ len
    → new r.0 ≡ None → ((j : ℕ) → j ≢ r.0 → new j ≡ at j)
    → IsQueueOf new n rest less room
queue-popped at new n ready rest len less room r queue moved ordered fewer gone others =
    let said = first_ready at n ready rest len room r queue moved in
    let one = worth-ready (at r.0) true said in
    let none = ap (worth itself) gone in
    let step = count-step itself at new n r.0 others (λ high. absurd (cc (ap is_so (queue.below r.0 high), said))) in
    let step_all = count-step (λ _. true) at new n r.0 others (λ high. absurd (cc (ap is_so (queue.below r.0 high), said))) in
    let none_all = ap (worth (λ _. true)) gone in
    record {
      ordered = ordered;
      once = λ k. at_each k (cases_eq r.0 k);
      many = omega (arith, queue.many, step, one, none, fewer);
      fits = omega (arith, queue.fits, step_all, none_all, count-all (listed at n), count-all (listed new n));
      below = λ k high. beyond k high (cases_eq k r.0);
    }
  where
    at_each : (k : ℕ) → ((r.0 ≡ k) ⊎ (r.0 ≢ k)) → tally_of rest k ≡ (if is_so (new k) then 1 else 0)
    at_each k (inl e) =
        let one = worth-ready (at r.0) true (first_ready at n ready rest len room r queue moved) in
        let here : tally_of rest r.0 ≡ 0 = omega (arith, one, queue.once r.0, tally-less r ready rest moved r.0, one-self r) in
        let both : tally_of rest r.0 ≡ (if is_so (new r.0) then 1 else 0) = here ∙ sym (ap (worth itself) gone) in
        subst (λ (j : ℕ). tally_of rest j ≡ (if is_so (new j) then 1 else 0)) e both
    at_each k (inr ne) =
        let same = ap (worth itself) (others k (λ e. ne (sym e))) in
        omega (arith, same, queue.once k, tally-less r ready rest moved k, one-other r k ne)

    beyond : (k : ℕ) → n ≤ k → ((k ≡ r.0) ⊎ (k ≢ r.0)) → new k ≡ None
    beyond k high (inl e) = subst (λ (j : ℕ). new j ≡ None) (sym e) gone
    beyond k high (inr ne) = others k ne ∙ queue.below k high

-- the same answers
pub queue-same : (at new : ℕ → Option Bool) (n : ℕ) (ready : List (Reverse ℕ)) (len room : ℕ) → IsQueueOf at n ready len room → ((k : ℕ) → new k ≡ at k) → IsQueueOf new n ready len room
queue-same at new n ready len room queue same = subst (λ (f : ℕ → Option Bool). IsQueueOf f n ready len room) (λ i k. sym (same k) i) queue

module _ (at new : ℕ → Option Bool) (x n : ℕ) (ready : List (Reverse ℕ)) (len room : ℕ) (queue : IsQueueOf at n ready len room) (step : HasBecome at new x) where
  counted_more : count_by itself (listed new n) ≡ count_by itself (listed at n) + 1
  counted_more =
      let step_one = count-step itself at new n x step.others (λ high. absurd (cc (sym (queue.below x high) ∙ step.was))) in
      let was = worth-ready (at x) false (ap is_so step.was) in
      let now = worth-ready (new x) true (ap is_so step.here) in
      omega (arith, step_one, was, now)

  as_long : length (listed new n) ≡ length (listed at n)
  as_long =
      let step_all = count-step (λ _. true) at new n x step.others (λ high. absurd (cc (sym (queue.below x high) ∙ step.was))) in
      let was = ap (worth (λ _. true)) step.was in
      let now = ap (worth (λ _. true)) step.here in
      omega (arith, step_all, was, now, count-all (listed at n), count-all (listed new n))

  -- there is room for the number of an item that lost its last need
  pub queue-room : len < room
  queue-room = omega (arith, queue.many, queue.fits, counted_more, as_long, count_by-le-length itself (listed new n))

  -- it is ready
  pub queue-pushed : (more : List (Reverse ℕ)) (wider : ℕ) (r : Reverse ℕ) (longer : ℕ) → r.0 ≡ x → IsPermutation (r ∷ ready) more → IsQueue more → longer ≡ len + 1 → room ≤ wider
      → IsQueueOf new n more longer wider
  queue-pushed more wider r longer of moved ordered grown wide = record {
    ordered = ordered;
    once = λ k. once k (cases_eq r.0 k);
    many = omega (arith, queue.many, counted_more, grown);
    fits = omega (arith, queue.fits, wide, as_long);
    below = λ k high. below k high (cases_eq k x);
  }
    where
      once : (k : ℕ) → ((r.0 ≡ k) ⊎ (r.0 ≢ k)) → tally_of more k ≡ (if is_so (new k) then 1 else 0)
      once k (inl e) =
          let was = worth-ready (at x) false (ap is_so step.was) in
          let now = worth-ready (new x) true (ap is_so step.here) in
          let here : tally_of more r.0 ≡ 1 = omega (arith, tally-more r ready more moved r.0, one-self r, queue.once r.0, ap (λ (j : ℕ). worth itself (at j)) of, was) in
          let there : tally_of more r.0 ≡ worth itself (new r.0) = omega (arith, here, ap (λ (j : ℕ). worth itself (new j)) of, now) in
          subst (λ (j : ℕ). tally_of more j ≡ worth itself (new j)) e there
      once k (inr ne) =
          let same = ap (worth itself) (step.others k (λ e. ne (of ∙ sym e))) in
          omega (arith, tally-more r ready more moved k, one-other r k ne, queue.once k, same)

      below : (k : ℕ) → n ≤ k → ((k ≡ x) ⊎ (k ≢ x)) → new k ≡ None
      below k high (inl e) = absurd (cc (sym (queue.below k high) ∙ ap at e ∙ step.was))
      below k high (inr ne) = step.others k ne ∙ queue.below k high

-- the list with one more
pub listed_more : {W : Type 0} (n : ℕ) (old new : ℕ → Option W) (w : W) → IsSet old new n (Some w) → listed new (n + 1) ≡ listed old n ++ w ∷ []
listed_more n old new w added =
    listed-push old new n w (λ k low. waiting-other old new n (Some w) added k (λ e. absurd (omega arith))) (waiting-set old new n (Some w) added)

-- an item more, which isn't ready
pub queue-parked : (at new : ℕ → Option Bool) (n : ℕ) (ready same : List (Reverse ℕ)) (len long room wider : ℕ) → IsQueueOf at n ready len room → IsSet at new n (Some false)
    → same ≡ ready → long ≡ len → length (listed at n) + 1 ≤ wider → IsQueueOf new (n + 1) same long wider
queue-parked at new n ready same len long room wider queue added is level wide =
    let list = listed_more n at new false added in
    let length_is = ap length list ∙ length-append (listed at n) (false ∷ []) in
    let counted = ap (count_by itself) list ∙ count-optional itself (listed at n) (Some false) in
    record {
      ordered = rw is queue.ordered;
      once = λ k. ap (λ (rs : List (Reverse ℕ)). tally_of rs k) is ∙ queue.once k ∙ once k (cases_eq k n);
      many = omega (arith, queue.many, level, counted);
      fits = omega (arith, length_is, wide);
      below = λ k high. waiting-other at new n (Some false) added k (λ e. absurd (omega arith)) ∙ queue.below k (omega arith);
    }
  where
    once : (k : ℕ) → ((k ≡ n) ⊎ (k ≢ n)) → worth itself (at k) ≡ worth itself (new k)
    once k (inl e) =
        ap (λ (j : ℕ). worth itself (at j)) e
        ∙ ap (worth itself) (queue.below n (omega arith))
        ∙ sym (ap (worth itself) (waiting-set at new n (Some false) added))
        ∙ sym (ap (λ (j : ℕ). worth itself (new j)) e)
    once k (inr ne) = sym (ap (worth itself) (waiting-other at new n (Some false) added k ne))
