use Rattle.hw_safety.proofs.ApartLaws.{difference, conflict}
use Rattle.hw_safety.proofs.VerdictHeightLaws.{one_height, chains}
use Rattle.hw_safety.proofs.verdicts.conflict_is_accountable.Goals as goal

pub returns-clause-difference : goal.returns-clause-difference
returns-clause-difference c = difference

pub returns-clause-conflict : goal.returns-clause-conflict
returns-clause-conflict c = conflict

pub returns-clause-height : goal.returns-clause-height
returns-clause-height c = one_height

pub returns-clause-chains : goal.returns-clause-chains
returns-clause-chains c = chains
