use Rattle.std.proofs.Common.{arith}
use Rattle.hw_service.proofs.BeginLaws.{told_none, fed_from, some_from, part_from, has_begun, begins_not}
use Rattle.hw_service.proofs.begin.begin_host.Goals as goal

pub returns-in-Ok-clause-begins : goal.returns-in-Ok-clause-begins
returns-in-Ok-clause-begins g c = λ door written.
    let e = c.in-Ok.ensures in
    has_begun _ _ _ _ _ _ _ c.in_ok-config.ensures.files door written _ _ _ _ c.in_ok-config.ensures.read c.in-Ok.node _ e.is.0 e.is.1 e.said e.log
    (fed_from _ _ _ _ _ (told_none _ _ _ c.in_ok-fanout.ensures (omega (arith, c.len.ensures))) e.fed)

pub returns-in-Err-clause-begins_not : goal.returns-in-Err-clause-begins_not
returns-in-Err-clause-begins_not g c = λ door written.
    let e = c.in-Err.ensures in
    rw c.fault_of_start.ensures (begins_not _ _ _ _ _ _ _ c.in_ok-config.ensures.files door written _ _ _ _ c.in_ok-config.ensures.read c.in-Err.fault _ e.said e.log
    (some_from _ _ _ _ _ _ _ (told_none _ _ _ c.in_ok-fanout.ensures (omega (arith, c.len.ensures))) e.stopped)
    (part_from _ _ _ _ _ _ _ _ (told_none _ _ _ c.in_ok-fanout.ensures (omega (arith, c.len.ensures))) e.part))
