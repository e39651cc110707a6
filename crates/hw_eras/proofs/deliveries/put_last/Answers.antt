use Rattle.std.proofs.Common.{◌-◌, arith}
use Rattle.hw_eras.proofs.NodeLaws.{has_put}
use Rattle.hw_eras.proofs.deliveries.put_last.Goals as goal

pub returns-clause-eras : goal.returns-clause-eras
returns-clause-eras c =
    has_put c.args.cores.now.items (c.len-last.result - 1) c.index_mut.result.now c.args.core.now c.swap.new.x (omega arith) c.index_mut.ensures.value c.requires.eras c.requires.made c.requires.config c.swap.ensures.x_after
