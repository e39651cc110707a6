use Rattle.std.proofs.Common.{Err, sym, subst}
use Rattle.std.proofs.lemmas.Result.{err_from_is_err_and}
use Rattle.hw_types.specs.declared.answers.Frame.{Frame}
use Rattle.hw_session.specs.Driving.{greeting, drive_greeting}
use Rattle.hw_session.specs.DriveHandling.{AnswersAs}
use Rattle.hw_session.proofs.DriveLaws.{bad_answers, greeting_bad, other_answers}
use Rattle.hw_session.proofs.node.Node.drive_greeting.Goals as goal

pub returns-in_err-_own-in-Hello-clause-answers : goal.returns-in_err-_own-in-Hello-clause-answers
returns-in_err-_own-in-Hello-clause-answers g c =
    let p = err_from_is_err_and c.from_residual.result c.from_residual.ensures.1 in
    let n = c.args.self.now in
    let e = c.in_err-_own-in-Hello.field-0.0 in
    let At : Frame → Type 0 = λ f. AnswersAs n c.args.mark (drive_greeting (greeting n c.args.mark) c.args.place f) (g.D.Door.sessions c.args.door.now) (g.D.Door.sessions c.args.door.now) (Err e) in
    rw (p.1, p.2) (subst At (sym c.in-Hello.is) (other_answers n c.args.mark (greeting n c.args.mark) c.args.place _ _ e c.in_err-_own-in-Hello.ensures.other))

pub returns-in_err-_own-in-Hello-clause-link : goal.returns-in_err-_own-in-Hello-clause-link
returns-in_err-_own-in-Hello-clause-link g c =
    let p = err_from_is_err_and c.from_residual.result c.from_residual.ensures.1 in
    rw (p.1, p.2) (c.in_err-_own-in-Hello.ensures.link (g.D.Door.faults c.args.door.now))

pub returns-in_default-clause-answers : goal.returns-in_default-clause-answers
returns-in_default-clause-answers g c =
    bad_answers c.args.self.now c.args.mark (greeting c.args.self.now c.args.mark) c.args.place _ _ (greeting_bad (greeting c.args.self.now c.args.mark) c.args.place c.args.frame.now c.in_default.not-Hello)
