use Rattle.std.proofs.Common.{subst}
use Rattle.std.proofs.lemmas.Result.{err_from_is_err_and}
use Rattle.hw_types.specs.declared.unit.Digest.{Digest}
use Rattle.hw_types.specs.declared.answers.Frame.TheVariants as frame
use Rattle.hw_link.specs.Frames.{framed}
use Rattle.hw_link.specs.Sent.{Sends}
use Rattle.hw_session.proofs.NextLaws.{hello_answers, other_ends}
use Rattle.hw_session.proofs.node.Node.answer_hello.Goals as goal

pub returns-clause-answers : goal.returns-clause-answers
returns-clause-answers g c =
    hello_answers c.args.self.now c.args.instance (g.D.Door.sessions c.args.door.now) (g.D.Door.sessions c.say.new.door) c.say.result c.in_ok-own.ensures.same
    (subst (λ (d : Digest). Sends {T = Unit {0}} (framed (frame.Hello d)) (g.D.Door.sessions c.args.door.now) (g.D.Door.sessions c.say.new.door) c.say.result) c.in_ok-own.ensures.own c.say.ensures.sent)

pub returns-in_err-own-clause-answers : goal.returns-in_err-own-clause-answers
returns-in_err-own-clause-answers g c =
    let p = err_from_is_err_and c.from_residual.result c.from_residual.ensures.1 in
    rw (p.1, p.2) (other_ends c.args.self.now c.args.instance (g.D.Door.sessions c.args.door.now) c.in_err-own.field-0.0 c.in_err-own.ensures.other)

pub returns-in_err-own-clause-link : goal.returns-in_err-own-clause-link
returns-in_err-own-clause-link g c =
    let p = err_from_is_err_and c.from_residual.result c.from_residual.ensures.1 in
    rw (p.1, p.2) (c.in_err-own.ensures.link (g.D.Door.faults c.args.door.now))
