use Rattle.hw_naivety.proofs.GrowLaws.{noted_stays}
use Rattle.hw_naivety.proofs.laws.noted_stays.Goals as goal

pub returns : goal.returns
returns c = noted_stays
