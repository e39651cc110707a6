use Rattle.hw_samples.proofs.RunMembers.{a_run_is_there}
use Rattle.hw_samples.proofs.premises.a_deciding_run_is_there.Goals as goal

pub returns : goal.returns
returns c = a_run_is_there
