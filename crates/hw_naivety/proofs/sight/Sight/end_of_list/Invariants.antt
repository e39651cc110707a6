-- The units of the names so far have lesser numbers.
use Rattle.std.proofs.Common.{◌≡◌, ◌<◌, ℕ, [], get_or}
use Rattle.hw_dag.specs.Dag.{unit_at, count_of}
use Rattle.hw_naivety.proofs.sight.Sight.end_of_list.Given as goal

abbrev pub invariant-loop-name : goal.invariant-loop-name
invariant-loop-name l = (k : ℕ) → k < l.name-index → (n : ℕ) → n < count_of l.self.dag.now → (unit_at l.self.dag.now n).digest ≡ get_or l.name-items k (record { 0 = [] }) → n < l.end
