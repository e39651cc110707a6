use Rattle.std.proofs.Common.{◌≤◌, length, ap, ◌∙◌, arith}
use Rattle.hw_types.specs.Limits.{config_fault}
use Rattle.hw_types.proofs.LimitLaws.{within_limits}
use Rattle.hw_meeting_node.proofs.meeter.validators.Goals as goal

pub overflow_cast-result : goal.overflow_cast-result
overflow_cast-result c =
    let limits = within_limits c.config.result.now (ap config_fault c.config.ensures.config ∙ c.config.ensures.lawful) in
    let few : length c.config.result.now.weights ≤ 1024 = limits.few in
    omega (arith, few, c.len.ensures)

pub returns-clause-few : goal.returns-clause-few
returns-clause-few c =
    let limits = within_limits c.config.result.now (ap config_fault c.config.ensures.config ∙ c.config.ensures.lawful) in
    let few : length c.config.result.now.weights ≤ 1024 = limits.few in
    omega (arith, few, c.len.ensures)
