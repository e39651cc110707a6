use Rattle.hw_safety.proofs.DetectorLaws.{decides, only, only_grow, quiet, after_excess, nothing_at_first}
use Rattle.hw_safety.proofs.MarkLaws.{marked}
use Rattle.hw_safety.proofs.chain.a_detector_decides.Goals as goal

pub returns-clause-first : goal.returns-clause-first
returns-clause-first c = nothing_at_first

pub returns-clause-decides : goal.returns-clause-decides
returns-clause-decides c = decides

pub returns-clause-nothing_else : goal.returns-clause-nothing_else
returns-clause-nothing_else c = only

pub returns-clause-grow : goal.returns-clause-grow
returns-clause-grow c = only_grow

pub returns-clause-quiet : goal.returns-clause-quiet
returns-clause-quiet c = quiet

pub returns-clause-marked : goal.returns-clause-marked
returns-clause-marked c = marked

pub returns-clause-excess : goal.returns-clause-excess
returns-clause-excess c = after_excess
