-- The slots so far are joined, and the others are as they were.
use Rattle.hw_dag.proofs.JoiningLaws.{IsPartJoined}
use Rattle.hw_dag.proofs.joining.join.Given as goal

abbrev pub invariant-loop-validator : goal.invariant-loop-validator
invariant-loop-validator l = IsPartJoined l.dag l.fn.left l.right l.left l.validator
