use Rattle.std.proofs.Common.{ℕ, ◌<◌, ◌≤◌, nat_le}
use Rattle.hw_types.specs.Votes.{weight_of}
use Rattle.hw_horizon.specs.Bounds.{bound_of, support_of}
use Rattle.hw_horizon.proofs.bounds.Bounds.rules_out.Given as goal

abbrev pub invariant-loop-below : goal.invariant-loop-below
invariant-loop-below l = (j : ℕ) → j < l.below → j < l.fn.level → l.fn.quorum ≤ weight_of l.weights (λ v. nat_le l.fn.quorum (support_of (bound_of l.bound-items j) v))
