use Rattle.hw_naivety.proofs.JudgedLaws.{judged_stays}
use Rattle.hw_naivety.proofs.laws.judged_stays.Goals as goal

pub returns : goal.returns
returns c = judged_stays
