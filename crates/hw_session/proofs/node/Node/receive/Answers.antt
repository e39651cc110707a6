use Rattle.std.proofs.Common.{sym, ◌∙◌}
use Rattle.hw_session.proofs.node.Node.receive.Goals as goal

pub returns-in-Ok-clause-received : goal.returns-in-Ok-clause-received
returns-in-Ok-clause-received g c = record { accepts = c.in-Ok.ensures.accepted; writes = c.in-Ok.ensures.log }

pub returns-then-is_clash-clause-received : goal.returns-then-is_clash-clause-received
returns-then-is_clash-clause-received g c =
    let e = rw c.in-Err-Refused.field-0-is at c.in-Err-Refused.ensures in
    (c.in-Err-Refused.cause, sym c.is_clash.ensures ∙ c.if-is_clash.true, record { accepts = e.accepted; writes = e.log })

pub returns-else-is_clash-clause-received : goal.returns-else-is_clash-clause-received
returns-else-is_clash-clause-received g c =
    let e = rw c.in-Err-Refused.field-0-is at c.in-Err-Refused.ensures in
    (c.in-Err-Refused.cause, sym c.is_clash.ensures ∙ c.if-is_clash.false, record { accepts = e.accepted; writes = e.log })

pub returns-in-Err-AppendFault-clause-received : goal.returns-in-Err-AppendFault-clause-received
returns-in-Err-AppendFault-clause-received g c =
    let e = rw c.in-Err-AppendFault.field-0-is at c.in-Err-AppendFault.ensures in
    record { accepts = e.accepted; writes = e.log }

pub returns-in-Err-OutOfMemory-clause-received : goal.returns-in-Err-OutOfMemory-clause-received
returns-in-Err-OutOfMemory-clause-received g c =
    let e = rw c.in-Err-OutOfMemory.field-0-is at c.in-Err-OutOfMemory.ensures in
    record { accepts = e.accepted; writes = e.log }
