use Rattle.std.proofs.Common.{arith}
use Rattle.hw_log.proofs.AheadLaws.{ahead_used}
use Rattle.hw_log.proofs.ahead.NamingBuffer.consume.Goals as goal

pub invariant_of-self : goal.invariant_of-self
invariant_of-self c =
    let inside = c.self.inside in
    rw c.consume.ensures.rest
    (ahead_used inside.buffer inside.used c.args.count _ inside.ahead.parts.items inside.ahead.digests.items c.self.invariant (omega (arith, c.saturating_add-self-inside.ensures)))
