-- Slots that are joined make the least panorama above two consistent ones, and it is consistent.
use Rattle.std.proofs.Common.{◌∙◌, arith}
use Rattle.hw_dag.proofs.JoinLaws.{AreJoined, join_least, join_consistent}
use Rattle.hw_dag.proofs.joining.join.Goals as goal

pub returns-clause-least : goal.returns-clause-least
returns-clause-least c =
    let joined : AreJoined c.args.dag.now c.args.left.now c.args.right.now c.loop-validator.left = record {
      length_is = c.loop-validator.invariant.length_is ∙ c.requires.left.length_is;
      slots = λ v lt. c.loop-validator.invariant.joined_below v (omega arith);
    } in
    join_least c.args.dag.now c.validators-validator-end.ensures.graph c.args.left.now c.args.right.now c.loop-validator.left c.requires.left c.requires.right joined

pub returns-clause-consistent : goal.returns-clause-consistent
returns-clause-consistent c =
    let joined : AreJoined c.args.dag.now c.args.left.now c.args.right.now c.loop-validator.left = record {
      length_is = c.loop-validator.invariant.length_is ∙ c.requires.left.length_is;
      slots = λ v lt. c.loop-validator.invariant.joined_below v (omega arith);
    } in
    join_consistent c.args.dag.now c.validators-validator-end.ensures.graph c.args.left.now c.args.right.now c.loop-validator.left c.requires.left c.requires.right joined
    c.requires.left_consistent c.requires.right_consistent
