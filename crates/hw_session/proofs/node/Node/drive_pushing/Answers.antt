use Rattle.std.proofs.Common.{◌≡◌, ◌+◌, sym, subst, ap}
use Rattle.hw_types.specs.declared.answers.Frame.{Frame}
use Rattle.hw_link.specs.Talk.{Reaction}
use Rattle.hw_session.specs.declared.stage.Stage.TheVariants as stage
use Rattle.hw_session.specs.Driving.{Driver, drive_pushing}
use Rattle.hw_session.specs.DriveHandling.{AnswersAs}
use Rattle.hw_session.proofs.DriveLaws.{bad_answers, pushing_bad, push_alike, push_mark}
use Rattle.hw_session.proofs.node.Node.drive_pushing.Goals as goal

pub returns-in-Want-clause-answers : goal.returns-in-Want-clause-answers
returns-in-Want-clause-answers g c =
    let By : Reaction Driver → Type 0 = λ r. AnswersAs c.args.self.now (record c.args.mark.now { pushed = c.args.mark.now.pushed + 1 }) r (g.D.Door.sessions c.args.door.now) (g.D.Door.sessions c.push.new.door) c.push.result in
    let At : Frame → Type 0 = λ f. By (drive_pushing (record { stage = stage.Pushing c.args.left; node = c.args.self.now; mark = c.args.mark.now }) c.args.left c.args.place f) in
    subst At (sym c.in-Want.is)
    (subst By (push_alike c.args.self.now (record c.args.mark.now { pushed = c.args.mark.now.pushed + 1 }) stage.Greeting (stage.Pushing c.args.left) c.args.left) c.push.ensures.answers)

pub returns-in-Want-clause-marks : goal.returns-in-Want-clause-marks
returns-in-Want-clause-marks g c =
    let At : Frame → Type 0 = λ f. record c.args.mark.now { pushed = c.args.mark.now.pushed + 1 } ≡ (drive_pushing (record { stage = stage.Pushing c.args.left; node = c.args.self.now; mark = c.args.mark.now }) c.args.left c.args.place f).state.mark in
    subst At (sym c.in-Want.is) (push_mark (record { stage = stage.Pushing c.args.left; node = c.args.self.now; mark = record c.args.mark.now { pushed = c.args.mark.now.pushed + 1 } }) c.args.left)

pub returns-in_default-clause-answers : goal.returns-in_default-clause-answers
returns-in_default-clause-answers g c =
    bad_answers c.args.self.now c.args.mark.now (record { stage = stage.Pushing c.args.left; node = c.args.self.now; mark = c.args.mark.now }) c.args.place _ _
    (pushing_bad (record { stage = stage.Pushing c.args.left; node = c.args.self.now; mark = c.args.mark.now }) c.args.left c.args.place c.args.frame.now c.in_default.not-Want)

pub returns-in_default-clause-marks : goal.returns-in_default-clause-marks
returns-in_default-clause-marks g c =
    ap (λ (r : Reaction Driver). r.state.mark) (sym (pushing_bad (record { stage = stage.Pushing c.args.left; node = c.args.self.now; mark = c.args.mark.now }) c.args.left c.args.place c.args.frame.now c.in_default.not-Want))
