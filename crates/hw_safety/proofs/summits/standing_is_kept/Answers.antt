use Rattle.hw_safety.proofs.HeightLaws.{summits_are_kept, stood_is_kept}
use Rattle.hw_safety.proofs.summits.standing_is_kept.Goals as goal

pub returns-clause-stood : goal.returns-clause-stood
returns-clause-stood c = stood_is_kept

pub returns-clause-summits : goal.returns-clause-summits
returns-clause-summits c = summits_are_kept
