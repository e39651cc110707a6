use Rattle.hw_safety.proofs.PairLaws.{delivered_pairs, delivered_signed}
use Rattle.hw_safety.proofs.verdicts.delivered_have_pairs.Goals as goal

pub returns-clause-pairs : goal.returns-clause-pairs
returns-clause-pairs c = delivered_pairs

pub returns-clause-signed : goal.returns-clause-signed
returns-clause-signed c = delivered_signed
