use Rattle.hw_safety.proofs.AncestorLaws.{ancestors_have_summits, ancestor_stands}
use Rattle.hw_safety.proofs.summits.ancestors_stand.Goals as goal

pub returns-clause-stand : goal.returns-clause-stand
returns-clause-stand c = ancestor_stands

pub returns-clause-summits : goal.returns-clause-summits
returns-clause-summits c = ancestors_have_summits
