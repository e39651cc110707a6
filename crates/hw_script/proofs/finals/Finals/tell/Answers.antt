use Rattle.std.proofs.Common.{arith}
use Rattle.hw_script.proofs.ToldLaws.{behind_new}
use Rattle.hw_script.proofs.finals.Finals.tell.Goals as goal

pub put-requires-clause-is_new : goal.put-requires-clause-is_new
put-requires-clause-is_new c = λ index d le is. let from = c.loop-index.auto.index in behind_new c.args.names.now c.args.self.now c.args.core.now c.requires index d (omega arith) is
