use Rattle.std.proofs.Common.{◌≡◌, ℕ, ◌<◌, length}
use Rattle.hw_horizon.specs.Search.{table_of}
use Rattle.hw_horizon.proofs.horizons.tables_of.Given as goal

abbrev pub invariant-loop : goal.invariant-loop
invariant-loop l = record {
  count : length l.tables.items ≡ l.counter;
  each : (k : ℕ) → k < length l.tables.items → length (table_of l.tables.items k) ≡ l.validators;
}
