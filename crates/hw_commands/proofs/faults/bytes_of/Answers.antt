use Rattle.hw_io.proofs.About.{fails-or-lacks}
use Rattle.hw_commands.proofs.faults.bytes_of.Goals as goal

pub returns-in-Err-Failed-clause-about : goal.returns-in-Err-Failed-clause-about
returns-in-Err-Failed-clause-about g c = λ tells. fails-or-lacks _ c.args.name.now _ _ (rw c.in-Err-Failed.field-0-is at (c.in-Err-Failed.ensures.about tells))
