use Rattle.std.proofs.Common.{◌≡◌, ◌⊎◌, ℕ, ◌<◌, ◌≤◌}
use Rattle.hw_dag.specs.Dag.{unit_at}
use Rattle.hw_c.specs.Due.{IsTime}
use Rattle.hw_c.proofs.due.first_later.Given as goal

abbrev pub invariant-loop-no : goal.invariant-loop-no
invariant-loop-no l = record {
  later : l.now < l.first;
  within : l.first ≤ l.end;
  free : (n : ℕ) → n < l.no → l.now < (unit_at l.dag n).signed.unit.time → l.first ≤ (unit_at l.dag n).signed.unit.time;
  is : (l.first ≡ l.end) ⊎ IsTime l.dag l.first;
}
