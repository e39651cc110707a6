use Rattle.hw_script_grammar.proofs.NumeralLaws.{below_is, below_there}
use Rattle.hw_script_grammar.proofs.laws.numbers_are_decimal.Goals as goal

pub returns : goal.returns
returns c = λ limit n w most. (below_is limit n w most, below_there limit n w most)
