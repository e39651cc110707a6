use Rattle.std.proofs.Common.{ap, ◌∙◌}
use Rattle.hw_types.specs.declared.config.Config.{Config}
use Rattle.hw_types.specs.Limits.{config_fault}
use Rattle.hw_honest.proofs.SimulationLaws.{within_limits}
use Rattle.hw_cluster.proofs.NodesLaws.{no_fault}
use Rattle.hw_cluster.proofs.simulated.begin.Goals as goal

pub unreachable-requires : goal.unreachable-requires
unreachable-requires c =
    no_fault (config_fault c.in_ok-sim_config.field-0) c.in-Err-Fault.field-0 c.in-Err-Fault.field-0-0 (ap (λ (k : Config). config_fault k) c.in_ok-sim_config.ensures ∙ within_limits c.args.key c.args.nodes c.requires.some c.requires.few)
    c.in-Err-Fault.field-0-is c.in-Err-Fault.ensures.fault
