use Rattle.std.proofs.Common.{length, arith}
use Rattle.hw_node_cases.proofs.GrownLaws.{enough_room}
use Rattle.hw_node_cases.proofs.node.feeds.fed.Goals as goal

pub replay_fed-requires-clause-room : goal.replay_fed-requires-clause-room
replay_fed-requires-clause-room g =
    enough_room g.new-fanout.result g.reserve.new.self.places (length g.loop-plan.consumers.items) g.len.result g.new-fanout.ensures g.in_ok-reserve.ensures.room (omega (arith, g.len.ensures))
