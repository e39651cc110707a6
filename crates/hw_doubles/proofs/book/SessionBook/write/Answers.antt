use Rattle.std.proofs.Common.{◌-◌, ap, ◌∙◌, arith}
use Rattle.hw_io.specs.Doors.{after_write}
use Rattle.hw_doubles.proofs.Last.{in_session-set}
use Rattle.hw_doubles.proofs.book.SessionBook.write.Goals as goal

pub returns-then-count-gt0-clause-sessions : goal.returns-then-count-gt0-clause-sessions
returns-then-count-gt0-clause-sessions c =
    let change = after_write c.tell.result c.args.bytes.now in
    in_session-set c.args.self.now.is_open change c.args.self.now.sessions.items (c.len-count.result - 1) c.index_mut.result.now c.tell.new.self
    c.if-self.true (omega (arith, c.if-count-gt0.true, c.len-count.ensures)) (c.tell.ensures.told ∙ ap change c.index_mut.ensures.value)
