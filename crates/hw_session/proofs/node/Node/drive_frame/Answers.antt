use Rattle.std.proofs.Common.{Err, refl, sym, subst}
use Rattle.hw_types.specs.declared.answers.Frame.{Frame}
use Rattle.hw_link.specs.declared.end.SessionEnd.TheVariants as end
use Rattle.hw_session.specs.declared.stage.Stage.{Stage}
use Rattle.hw_session.specs.declared.stage.Stage.TheVariants as stage
use Rattle.hw_session.specs.Driving.{Driver, greeting, drive_at}
use Rattle.hw_session.specs.DriveHandling.{ReactsAs}
use Rattle.hw_session.specs.Standing.{standing, driver_standing}
use Rattle.hw_session.proofs.DriveLaws.{as_reacts, bad_reacts, leaving_bad, greeting_keeps, pushing_node, done_answers}
use Rattle.hw_session.proofs.node.Node.drive_frame.Goals as goal

pub returns-in-Greeting-clause-reacts : goal.returns-in-Greeting-clause-reacts
returns-in-Greeting-clause-reacts g c =
    let At : Stage → Type 0 = λ s. ReactsAs g.F.Files.tells (standing c.args.self.now (g.F.Files.held c.args.files.now)) c.args.frame (drive_at s (record { stage = s; node = c.args.self.now; mark = c.args.mark.now }) c.args.place c.args.frame) (driver_standing c.args.self.now c.args.mark.now (g.F.Files.held c.args.files.now)) (g.D.Door.sessions c.args.door.now) (g.D.Door.sessions c.drive_greeting-next.new.door) c.drive_greeting-next.result in
    let keeps = greeting_keeps (greeting c.args.self.now c.args.mark.now) c.args.place c.args.frame in
    subst At (sym c.in-Greeting.is) (as_reacts c.args.self.now _ c.args.mark.now _ _ _ _ _ _ keeps.0 keeps.1 c.drive_greeting-next.ensures.answers)

pub returns-in-Pushing-clause-reacts : goal.returns-in-Pushing-clause-reacts
returns-in-Pushing-clause-reacts g c =
    let At : Stage → Type 0 = λ s. ReactsAs g.F.Files.tells (standing c.args.self.now (g.F.Files.held c.args.files.now)) c.args.frame (drive_at s (record { stage = s; node = c.args.self.now; mark = c.args.mark.now }) c.args.place c.args.frame) (driver_standing c.args.self.now c.drive_pushing-next.new.mark (g.F.Files.held c.args.files.now)) (g.D.Door.sessions c.args.door.now) (g.D.Door.sessions c.drive_pushing-next.new.door) c.drive_pushing-next.result in
    let d : Driver = record { stage = stage.Pushing c.in-Pushing.left; node = c.args.self.now; mark = c.args.mark.now } in
    subst At (sym c.in-Pushing.is)
    (as_reacts c.args.self.now _ c.drive_pushing-next.new.mark _ _ _ _ _ _ (pushing_node d c.in-Pushing.left c.args.place c.args.frame) c.drive_pushing-next.ensures.marks c.drive_pushing-next.ensures.answers)

pub returns-in-Done-clause-reacts : goal.returns-in-Done-clause-reacts
returns-in-Done-clause-reacts g c =
    let At : Stage → Frame → Type 0 = λ s f. ReactsAs g.F.Files.tells (standing c.args.self.now (g.F.Files.held c.args.files.now)) f (drive_at s (record { stage = s; node = c.args.self.now; mark = c.args.mark.now }) c.args.place f) (driver_standing c.args.self.now c.args.mark.now (g.F.Files.held c.args.files.now)) (g.D.Door.sessions c.args.door.now) (g.D.Door.sessions c.args.door.now) (Err end.Done) in
    let d : Driver = record { stage = stage.Leaving; node = c.args.self.now; mark = c.args.mark.now } in
    subst (λ (s : Stage). At s c.args.frame) (sym c.in-Leaving.is)
    (subst (λ (f : Frame). At stage.Leaving f) (sym c.in-Done.is)
    (as_reacts c.args.self.now _ c.args.mark.now _ _ _ _ _ _ refl refl (done_answers c.args.self.now d _)))

pub returns-in_default-clause-reacts : goal.returns-in_default-clause-reacts
returns-in_default-clause-reacts g c =
    let At : Stage → Type 0 = λ s. ReactsAs g.F.Files.tells (standing c.args.self.now (g.F.Files.held c.args.files.now)) c.args.frame (drive_at s (record { stage = s; node = c.args.self.now; mark = c.args.mark.now }) c.args.place c.args.frame) (driver_standing c.args.self.now c.args.mark.now (g.F.Files.held c.args.files.now)) (g.D.Door.sessions c.args.door.now) (g.D.Door.sessions c.args.door.now) (Err (end.BadFrame c.args.place)) in
    let d : Driver = record { stage = stage.Leaving; node = c.args.self.now; mark = c.args.mark.now } in
    subst At (sym c.in-Leaving.is)
    (bad_reacts c.args.self.now c.args.frame c.args.mark.now d c.args.place _ _ _ _ refl refl (leaving_bad d c.args.place c.args.frame c.in_default.not-Done))
