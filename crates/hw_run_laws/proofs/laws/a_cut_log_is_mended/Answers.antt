use Rattle.hw_run_laws.proofs.MendLaws.{cut_mended}
use Rattle.hw_run_laws.proofs.laws.a_cut_log_is_mended.Goals as goal

pub returns : goal.returns
returns c = cut_mended
