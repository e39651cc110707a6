use Rattle.hw_text.specs.Errors.{limit_text}
use Rattle.hw_text.proofs.errors.put_limit.Goals as goal

pub returns-in-ZeroWeight : goal.returns-in-ZeroWeight
unfolding limit_text
returns-in-ZeroWeight c = rw c.in-ZeroWeight.is (rw c.from.ensures at c.put_numbered.ensures.ok)
