use Rattle.hw_honest.proofs.LaneTimes.{times_rise_on_lanes, two_in_round_are_the_last}
use Rattle.hw_honest.proofs.plans.times_rise_on_lanes.Goals as goal

pub returns-clause-rise : goal.returns-clause-rise
returns-clause-rise c = times_rise_on_lanes

pub returns-clause-two : goal.returns-clause-two
returns-clause-two c = two_in_round_are_the_last
