use Rattle.hw_crash.proofs.CutLaws.{cut_mended}
use Rattle.hw_crash.proofs.laws.cut_logs_are_mended.Goals as goal

pub returns : goal.returns
returns c = cut_mended
