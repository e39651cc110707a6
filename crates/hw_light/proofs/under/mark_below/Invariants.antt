use Rattle.std.proofs.Common.{◌≡◌, ◌≤◌, length}
use Rattle.hw_dag.specs.Dag.{count_of}
use Rattle.hw_light.proofs.UnderLaws.{IsWalked}
use Rattle.hw_light.proofs.under.mark_below.Given as goal

abbrev pub invariant-loop-next : goal.invariant-loop-next
invariant-loop-next l = record {
  within : l.next ≤ count_of l.fn.dag;
  length_is : length l.marked ≡ length l.fn.marked;
  walked : IsWalked l.fn.dag l.fn.marked l.next l.marked;
}

abbrev pub decreases-loop-next : goal.decreases-loop-next
decreases-loop-next l = l.next
