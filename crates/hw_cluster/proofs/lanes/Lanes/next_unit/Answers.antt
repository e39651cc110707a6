use Rattle.std.proofs.Common.{ap, arith}
use Rattle.hw_cluster.specs.Lanes.{seq_behind}
use Rattle.hw_cluster.proofs.LanesLaws.{highest_at}
use Rattle.hw_cluster.proofs.lanes.Lanes.next_unit.Goals as goal

pub seq_behind-requires : goal.seq_behind-requires
seq_behind-requires c = (let e = ap seq_behind c.last_of.ensures in let low = highest_at c.args.self.now.last c.args.creator in let small = c.requires in omega arith)
