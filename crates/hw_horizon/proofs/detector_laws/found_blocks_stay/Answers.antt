use Rattle.hw_horizon.proofs.NumberLaws.{stays}
use Rattle.hw_horizon.proofs.StayLaws.{detector_stays}
use Rattle.hw_horizon.proofs.detector_laws.found_blocks_stay.Goals as goal

pub returns-clause-found : goal.returns-clause-found
returns-clause-found c = stays

pub returns-clause-kept : goal.returns-clause-kept
returns-clause-kept c = detector_stays
