use Rattle.std.proofs.Common.{length, arith}
use Rattle.hw_node_cases.proofs.GrownLaws.{enough_room}
use Rattle.hw_node_cases.proofs.node.feeds.replayed.Goals as goal

pub pass_along-requires-clause-room : goal.pass_along-requires-clause-room
pass_along-requires-clause-room g c =
    enough_room c.new-fanout.result c.reserve.new.self.places (length c.args.consumers.now.items) c.len.result c.new-fanout.ensures c.in_ok-reserve.ensures.room (omega (arith, c.len.ensures, c.args.consumers.now.ok))
