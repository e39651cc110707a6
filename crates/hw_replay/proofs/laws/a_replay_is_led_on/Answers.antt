use Rattle.hw_replay.proofs.MidwayLaws.{midway_leads}
use Rattle.hw_replay.proofs.laws.a_replay_is_led_on.Goals as goal

pub returns : goal.returns
returns c = midway_leads
