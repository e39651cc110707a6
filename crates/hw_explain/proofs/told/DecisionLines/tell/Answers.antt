use Rattle.std.proofs.Common.{arith}
use Rattle.hw_explain.proofs.ToldLaws.{behind_lines, behind_new}
use Rattle.hw_explain.proofs.told.DecisionLines.tell.Goals as goal

pub loop-index-init : goal.loop-index-init
loop-index-init c = behind_lines c.args.self.now c.args.core.now c.requires

pub put-requires-clause-is_new : goal.put-requires-clause-is_new
put-requires-clause-is_new c = λ index d le is. let from = c.loop-index.auto.index in behind_new c.args.self.now c.args.core.now c.requires index d (omega arith) is
