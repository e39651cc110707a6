use Rattle.hw_crash.proofs.SampleLaws.{a_power_failure}
use Rattle.hw_crash.proofs.laws.a_power_failure.Goals as goal

pub returns : goal.returns
returns c = a_power_failure
