use Rattle.hw_horizon.proofs.RunLaws.{run_decides}
use Rattle.hw_horizon.proofs.detector_laws.a_run_decides.Goals as goal

pub returns : goal.returns
returns c = run_decides
