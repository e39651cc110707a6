use Rattle.std.proofs.Common.{ap, ◌∙◌}
use Rattle.hw_dag.specs.Dag.{SettledUnit}
use Rattle.hw_horizon.proofs.FenceLaws.{own_is}
use Rattle.hw_horizon.proofs.votes.own_fence.Goals as goal

pub returns-clause-fence : goal.returns-clause-fence
returns-clause-fence c = own_is c.args.dag.now c.requires.graph c.args.tip c.vote.result c.requires.known (c.vote.ensures ∙ ap (λ (u : SettledUnit). u.vote) c.unit.ensures)
