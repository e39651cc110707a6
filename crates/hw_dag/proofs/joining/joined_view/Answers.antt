-- Equal slots are their join.
use Rattle.std.proofs.Common.{rules, ◌≡◌}
use Rattle.hw_dag.proofs.JoinLaws.{joined_same}
use Rattle.hw_dag.proofs.joining.joined_view.Goals as goal

pub returns-then-eq : goal.returns-then-eq
returns-then-eq c =
    let same : c.args.left ≡ c.args.right = search rules in
    joined_same c.args.dag.now c.requires.graph c.args.left c.args.right c.requires.left same
