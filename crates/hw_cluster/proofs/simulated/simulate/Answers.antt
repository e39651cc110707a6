use Rattle.std.proofs.Common.{◌∙◌}
use Rattle.hw_honest.proofs.SimulationLaws.{simulation_none}
use Rattle.hw_cluster.specs.Numbers.{numbers_of}
use Rattle.hw_cluster.proofs.RunLaws.{simulated_numbers}
use Rattle.hw_cluster.proofs.simulated.simulate.Goals as goal

pub returns-clause-numbers : goal.returns-clause-numbers
returns-clause-numbers c =
    let n = c.summary-ended.result in
    simulated_numbers c.args.number c.args.nodes c.args.steps c.key_for-key.result c.in_ok-cluster.cluster c.run.new.cluster c.new.result n.units n.finals n.refused n.culprits
    c.key_for-key.ensures c.in_ok-cluster.ensures c.new.ensures c.in_ok-refused.ensures.left (c.summary-ended.ensures.refused ∙ c.in_ok-refused.ensures.refused) c.in_ok-refused.ensures.nodes c.summary-ended.ensures.units c.summary-ended.ensures.finals c.summary-ended.ensures.culprits

pub returns-clause-culprits : goal.returns-clause-culprits
returns-clause-culprits c =
    let n = c.summary-ended.result in
    simulation_none c.args.number c.args.nodes c.args.steps (numbers_of n) c.requires.some c.requires.few
    (simulated_numbers c.args.number c.args.nodes c.args.steps c.key_for-key.result c.in_ok-cluster.cluster c.run.new.cluster c.new.result n.units n.finals n.refused n.culprits
    c.key_for-key.ensures c.in_ok-cluster.ensures c.new.ensures c.in_ok-refused.ensures.left (c.summary-ended.ensures.refused ∙ c.in_ok-refused.ensures.refused) c.in_ok-refused.ensures.nodes c.summary-ended.ensures.units c.summary-ended.ensures.finals c.summary-ended.ensures.culprits)
