use Rattle.std.proofs.Common.{◌<◌, ◌^◌, length, arith}
use Rattle.hw_types.specs.Real.{settled_in}
use Rattle.hw_eras.proofs.AuditLaws.{answers_short}
use Rattle.hw_eras.proofs.audit.audit_era.Goals as goal

pub returns-clause-short : goal.returns-clause-short
returns-clause-short c =
    let few : length (settled_in c.args.left.now) < 2 ^ 32 = (let count = c.settled_count-count.ensures in let fits = c.settled_count-count.type_inv in omega arith) in
    answers_short c.args.left.now c.args.right.now c.audit.result few c.audit.ensures.verdict
