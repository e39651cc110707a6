use Rattle.std.proofs.Common.{◌≡◌, ℕ, ◌*◌, ◌/◌, ◌^◌, List, sum, leb, true, false, sym, ◌∙◌, ap, arith, rules}
use Rattle.std.specs.List.Sorted.{IsPartitionPoint}
use Rattle.std.proofs.lemmas.List.Sorted.{IsPartitionedBy-leb, IsPartitionPoint-from_clause}
use Rattle.hw_types.specs.Rounds.{first_above}
use Rattle.hw_rounds.specs.Drawing.{IsRunning}
use Rattle.hw_rounds.proofs.DrawingLaws.{running_rises, running_total, place_found, place_within, share_below}
use Rattle.hw_rounds.proofs.drawing.drawn_place.Goals as goal

-- what the bisection found
point_of : (c : goal.After-partition_point) (weights : List ℕ) → IsRunning weights c.args.running.now
    → IsPartitionPoint (λ y. leb y (c.from.result * c.from-2.result / 2 ^ 64) ≡ true) (λ y. leb y (c.from.result * c.from-2.result / 2 ^ 64) ≡ false) c.args.running.now c.partition_point.result
point_of c weights is_running =
    let pick = c.from.result * c.from-2.result / 2 ^ 64 in
    IsPartitionPoint-from_clause (λ s. leb s pick) c.args.running.now c.partition_point.result c.partition_point.ensures.partitioned
    (IsPartitionedBy-leb (λ x. x) c.args.running.now pick (running_rises weights c.args.running.now is_running)) (search rules)

-- and the pick is the number's share of the total
pick_of : (c : goal.After-partition_point) (weights : List ℕ) → IsRunning weights c.args.running.now
    → c.from.result * c.from-2.result / 2 ^ 64 ≡ c.args.number * sum weights / 2 ^ 64
pick_of c weights is_running =
    let item = c.in-Some.ensures.item in
    let total = running_total weights c.args.running.now c.in-Some.total.now is_running item.3.0 (item.3.1 0) in
    let high : c.from-2.result ≡ sum weights = c.from-2.ensures ∙ total in
    λ i. c.from.ensures i * high i / 2 ^ 64

pub returns-clause-exact : goal.returns-clause-exact
returns-clause-exact c = λ weights is_running.
    sym (place_found weights c.args.running.now (c.from.result * c.from-2.result / 2 ^ 64) c.partition_point.result is_running c.partition_point.ensures.bound (point_of c weights is_running))
    ∙ ap (first_above weights) (pick_of c weights is_running)

pub returns-clause-within : goal.returns-clause-within
returns-clause-within c = λ weights is_running some.
    let below = share_below c.args.number (sum weights) c.ranges.number.fits some in
    place_within weights c.args.running.now (c.from.result * c.from-2.result / 2 ^ 64) c.partition_point.result is_running c.partition_point.ensures.bound
    (omega (arith, below, pick_of c weights is_running)) (point_of c weights is_running)
