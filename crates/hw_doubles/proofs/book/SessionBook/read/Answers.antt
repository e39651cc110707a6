use Rattle.std.proofs.Common.{◌-◌, Ok, ap, ◌∙◌, arith}
use Rattle.hw_io.specs.Doors.{after_read}
use Rattle.hw_doubles.proofs.Last.{in_session-set}
use Rattle.hw_doubles.proofs.book.SessionBook.read.Goals as goal

pub returns-then-count-gt0-clause-sessions : goal.returns-then-count-gt0-clause-sessions
returns-then-count-gt0-clause-sessions c =
    let change = after_read (Ok c.hear.result) c.hear.new.buf in
    in_session-set c.args.self.now.is_open change c.args.self.now.sessions.items (c.len-count.result - 1) c.index_mut.result.now c.hear.new.self
    c.if-self.true (omega (arith, c.if-count-gt0.true, c.len-count.ensures)) (c.hear.ensures.heard ∙ ap change c.index_mut.ensures.value)
