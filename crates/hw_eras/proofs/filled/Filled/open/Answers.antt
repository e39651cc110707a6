use Rattle.std.proofs.Common.{arith}
use Rattle.hw_eras.specs.Filled.{logs_in}
use Rattle.hw_eras.proofs.FilledLaws.{opens}
use Rattle.hw_eras.proofs.filled.Filled.open.Goals as goal

pub returns-in-Ok-clause-eras : goal.returns-in-Ok-clause-eras
returns-in-Ok-clause-eras c =
    opens c.args.self.now.eras c.open_next.new.self (logs_in c.args.self.now) c.in-Ok.field-0 (λ e. absurd (let other = c.if-len-eq-MAX_LOGS.false in let count = c.len.ensures in omega arith))
    c.in-Ok.ensures.none c.in-Ok.ensures.still c.in-Ok.ensures.opened c.in-Ok.ensures.eras
