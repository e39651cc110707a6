use Rattle.std.proofs.Common.{◌≡◌, map}
use Rattle.std.specs.Prelude.{filter}
use Rattle.std.specs.List.{range_with_len}
use Rattle.hw_dag.specs.Walks.{is_marked}
use Rattle.hw_light.specs.Under.{number_in}
use Rattle.hw_light.proofs.under.marked_numbers.Given as goal

abbrev pub invariant-loop-number : goal.invariant-loop-number
invariant-loop-number l = map number_in l.numbers.items ≡ filter (is_marked l.marked) (range_with_len 0 l.number)
