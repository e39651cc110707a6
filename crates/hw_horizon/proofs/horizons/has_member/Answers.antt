use Rattle.std.proofs.Common.{sym, ◌∙◌, arith}
use Rattle.hw_dag.specs.Dag.{graph, observations, node_at}
use Rattle.hw_horizon.proofs.KeptLaws.{member_above}
use Rattle.hw_horizon.proofs.horizons.has_member.Goals as goal

pub returns-clause-member : goal.returns-clause-member
returns-clause-member c =
    c.has_member-2.ensures ∙ member_above c.args.question.now.weights.now (graph c.args.question.now.dag.now) (observations c.args.question.now.dag.now c.args.question.now.panorama.now) (node_at c.args.question.now.dag.now c.args.question.now.block.0) c.args.question.now.quorum _ c.args.level
    c.put_lower-2.new.scratch.lower c.put_members.new.present c.put_lower-2.ensures.lower (c.put_lower-2.ensures.scratch.lower ∙ sym c.args.question.now.asked.weights_are.length_is) c.put_members.ensures.members (omega arith)
