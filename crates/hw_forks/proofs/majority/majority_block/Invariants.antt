use Rattle.std.proofs.Common.{ℕ, ◌≡◌, ◌+◌, ◌-◌, ◌≤◌}
use Rattle.std.specs.Prelude.{IfSome}
use Rattle.hw_dag.specs.Admission.{height_above}
use Rattle.hw_forks.specs.Votes.{height_at}
use Rattle.hw_forks.specs.Walk.{HasMajority}
use Rattle.hw_forks.proofs.majority.majority_block.Given as goal

-- what is found has the majority, and no block above `high` has
abbrev pub invariant-loop-low : goal.invariant-loop-low
invariant-loop-low l = IfSome l.found (λ block. HasMajority l.dag l.votes block.0) × (l.low ≡ height_above l.dag l.found) × (height_above l.dag l.fn.place ≤ l.low)
    × ((c : ℕ) → HasMajority l.dag l.votes c → height_at l.dag c ≤ l.high) × (l.high ≤ l.top.height)

abbrev pub decreases-loop-low : goal.decreases-loop-low
decreases-loop-low l = l.high + 1 - l.low
