use Rattle.std.proofs.Common.{◌-◌, ap, ◌∙◌, arith}
use Rattle.hw_io.specs.Doors.{with_failure}
use Rattle.hw_doubles.proofs.Last.{in_session-set}
use Rattle.hw_doubles.proofs.book.SessionBook.fail.Goals as goal

pub returns-then-count-gt0-clause-sessions : goal.returns-then-count-gt0-clause-sessions
returns-then-count-gt0-clause-sessions c =
    in_session-set c.args.self.now.is_open with_failure c.args.self.now.sessions.items (c.len-count.result - 1) c.index_mut.result.now c.fail.new.self
    c.if-self.true (omega (arith, c.if-count-gt0.true, c.len-count.ensures)) (c.fail.ensures ∙ ap with_failure c.index_mut.ensures.value)
