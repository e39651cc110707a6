use Rattle.hw_replay.proofs.DeliveredLaws.{replay_delivers}
use Rattle.hw_replay.proofs.laws.a_replay_delivers.Goals as goal

pub returns : goal.returns
returns c = replay_delivers
