use Rattle.std.proofs.Common.{◌≡◌, ℕ, ◌<◌, length}
use Rattle.hw_horizon.specs.Bounds.{bound_of}
use Rattle.hw_horizon.proofs.bounds.Bounds.new.Given as goal

abbrev pub invariant-loop : goal.invariant-loop
invariant-loop l = record {
  firsts : (j : ℕ) → j < length l.bounds.items → length (bound_of l.bounds.items j).firsts ≡ l.validators;
  many : length l.bounds.items ≡ l.counter;
  support : (j : ℕ) → j < length l.bounds.items → length (bound_of l.bounds.items j).support ≡ l.validators;
}
