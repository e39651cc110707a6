-- Laws of running weights and of the place that a pick finds.
use Rattle.std.proofs.Common.{◌≡◌, ℕ, zero, suc, ◌+◌, ◌-◌, ◌*◌, ◌/◌, ◌^◌, ◌<◌, ◌≤◌, true, false, nat_lt, List, [], ◌∷◌, length, take, get_or, leb, sum, refl, ap, ◌∙◌, inl, inr, arith, lit<}
use Rattle.std.proofs.lemmas.Bool.{cases_lt, lt-ltb, leb-true, leb-false}
use Rattle.std.proofs.lemmas.Bool.Decides.{nat_tests}
use Rattle.std.proofs.lemmas.List.Sums.{sum_by-cons}
use Rattle.std.proofs.lemmas.Nat.{mul-le, div_below}
use Rattle.std.specs.List.Sorted.{IsNonDecreasingBy, IsPartitionPoint}
use Rattle.std.proofs.lemmas.List.Sorted.{IsNonDecreasingBy-from_default}
use Rattle.std.proofs.lemmas.List.{take_all}
use Rattle.hw_types.specs.Rounds.{first_above}
use Rattle.hw_rounds.specs.Drawing.{IsRunning}

-- the first weight, and those behind it
sum_take : (w : ℕ) (ws : List ℕ) (k : ℕ) → sum (take (suc k) (w ∷ ws)) ≡ w + sum (take k ws)
sum_take w ws k = sum_by-cons (λ x. x) w (take k ws)

-- the place is the first whose weights add up to more than the pick
pub first_above_is : (ws : List ℕ) (pick k : ℕ) → k ≤ length ws → ((i : ℕ) → i < k → sum (take (suc i) ws) ≤ pick) → (k < length ws → pick < sum (take (suc k) ws))
    → first_above ws pick ≡ k
first_above_is [] pick k within low high = omega arith
first_above_is (w ∷ ws) pick zero within low high =
    let least : pick < w = omega (arith, high (omega arith), sum_take w ws 0) in
    rw (lt-ltb pick w least) refl
first_above_is (w ∷ ws) pick (suc k) within low high =
    let first : w ≤ pick = omega (arith, low 0 (omega arith), sum_take w ws 0) in
    let passed : nat_lt pick w ≡ false = grind (arith, nat_tests) in
    let rest = first_above_is ws (pick - w) k (omega arith)
    (λ i h. omega (arith, low (suc i) (omega arith), sum_take w ws (suc i)))
    (λ h. omega (arith, high (omega arith), sum_take w ws (suc k))) in
    rw (passed, rest) (omega arith)

pub sum_take_le : (ws : List ℕ) (i j : ℕ) → i ≤ j → sum (take i ws) ≤ sum (take j ws)
sum_take_le ws zero j h = omega arith
sum_take_le [] (suc i) j h = omega arith
sum_take_le (w ∷ ws) (suc i) zero h = absurd (omega arith)
sum_take_le (w ∷ ws) (suc i) (suc j) h = omega (arith, sum_take_le ws i j (omega arith), sum_take w ws i, sum_take w ws j)

-- a share of less than the whole is less than the total
pub share_below : (number total : ℕ) → number < 2 ^ 64 → 0 < total → number * total / 2 ^ 64 < total
share_below number total below some =
    let most = mul-le number total (2 ^ 64 - 1) total (omega arith) (omega arith) in
    div_below (number * total) (2 ^ 64) total (lit< tt) (omega (arith, most))

-- running weights rise
pub running_rises : (weights running : List ℕ) → IsRunning weights running → IsNonDecreasingBy (λ x. x) running
running_rises weights running sums =
    IsNonDecreasingBy-from_default (λ x. x) running 0 (λ i j le lt.
    let many = sums.as_many in
    let first = sums.sums i (omega arith) in
    let second = sums.sums j (omega arith) in
    omega (arith, first, second, sum_take_le weights (suc i) (suc j) (omega arith)))

-- the last of them is the total
pub running_total : (weights running : List ℕ) (total : ℕ) → IsRunning weights running → 0 < length running → total ≡ get_or running (length running - 1) 0 → total ≡ sum weights
running_total weights running total sums some last =
    let many = sums.as_many in
    let at_last = sums.sums (length running - 1) (omega arith) in
    let all : take (suc (length running - 1)) weights ≡ weights = take_all (suc (length running - 1)) weights (omega arith) in
    last ∙ at_last ∙ ap sum all

-- the bisection finds the place
pub place_found : (weights running : List ℕ) (pick k : ℕ) → IsRunning weights running → k ≤ length running
    → IsPartitionPoint (λ y. leb y pick ≡ true) (λ y. leb y pick ≡ false) running k → first_above weights pick ≡ k
place_found weights running pick k sums within point =
    let many = sums.as_many in
    first_above_is weights pick k (omega arith)
    (λ i h. omega (arith, sums.sums i (omega arith), leb-true (get_or running i 0) pick (point.0 i 0 (omega arith) h)))
    (λ h. omega (arith, sums.sums k h, leb-false (get_or running k 0) pick (point.1 k 0 (omega arith) (omega arith))))

-- where all running weights are passed, so is the total
all_passed : (weights running : List ℕ) (pick k : ℕ) → IsRunning weights running → length weights ≡ k
    → ((i : ℕ) → i < k → get_or running i 0 ≤ pick) → sum weights ≤ pick
all_passed weights running pick zero sums whole passed =
    let none : take 0 weights ≡ weights = take_all 0 weights (omega arith) in
    omega (arith, ap sum none)
all_passed weights running pick (suc j) sums whole passed =
    let every : take (suc j) weights ≡ weights = take_all (suc j) weights (omega arith) in
    omega (arith, sums.sums j (omega arith), passed j (omega arith), ap sum every)

-- where the pick is below the total, the place is a validator
pub place_within : (weights running : List ℕ) (pick k : ℕ) → IsRunning weights running → k ≤ length running → pick < sum weights
    → IsPartitionPoint (λ y. leb y pick ≡ true) (λ y. leb y pick ≡ false) running k → k < length weights
place_within weights running pick k sums within below point =
    let many = sums.as_many in
    elim (cases_lt k (length weights)) [
      | inl less ↦ less
      | inr whole ↦
          let all = all_passed weights running pick k sums (omega arith) (λ i h. leb-true (get_or running i 0) pick (point.0 i 0 (omega arith) h)) in
          absurd (omega (arith, all))
    ]
