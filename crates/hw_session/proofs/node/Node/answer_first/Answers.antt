use Rattle.std.proofs.Common.{sym}
use Rattle.hw_session.proofs.NextLaws.{some_hello, no_hello}
use Rattle.hw_session.proofs.node.Node.answer_first.Goals as goal

pub returns-in-Some-clause-answers : goal.returns-in-Some-clause-answers
returns-in-Some-clause-answers g c =
    some_hello c.args.self.now c.args.frame.now c.in-Some.instance (g.D.Door.sessions c.args.door.now) (g.D.Door.sessions c.answer_hello.new.door) c.answer_hello.result (sym c.in-Some.ensures) c.answer_hello.ensures.answers

pub returns-in-None-clause-answers : goal.returns-in-None-clause-answers
returns-in-None-clause-answers g c = no_hello c.args.self.now c.args.frame.now (g.D.Door.sessions c.args.door.now) (sym c.in-None.ensures)
