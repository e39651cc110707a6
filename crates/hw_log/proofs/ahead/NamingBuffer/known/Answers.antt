use Rattle.std.proofs.Common.{refl, arith}
use Rattle.hw_log.proofs.AheadLaws.{ahead_known}
use Rattle.hw_log.proofs.ahead.NamingBuffer.known.Goals as goal

pub returns-then-stands_at-clause-digest : goal.returns-then-stands_at-clause-digest
returns-then-stands_at-clause-digest c =
    let inside = c.self.inside in
    let at = c.if-stands_at.ensures refl in
    rw (← c.self.view_is)
    (ahead_known inside.buffer inside.used inside.next inside.ahead.parts.items inside.ahead.digests.items c.index.result.now c.args.part
    c.index-then-stands_at.result.now c.self.invariant (omega arith) c.index.ensures c.index-then-stands_at.ensures at.0 at.1)
