use Rattle.std.proofs.Common.{Ok, Err, refl, sym, subst}
use Rattle.std.proofs.lemmas.Result.{err_from_is_err_and}
use Rattle.hw_types.specs.declared.answers.Frame.{Frame}
use Rattle.hw_session.specs.declared.stage.Stage.TheVariants as stage
use Rattle.hw_session.specs.Driving.{drive_wanting}
use Rattle.hw_session.specs.DriveHandling.{ReactsAs}
use Rattle.hw_session.specs.Standing.{standing, driver_standing}
use Rattle.hw_session.proofs.DriveLaws.{as_reacts, bad_reacts, wanting_bad, goes_answers, vertex_goes, vertex_ends}
use Rattle.hw_session.proofs.node.Node.drive_wanting.Goals as goal

pub returns-in-Vertex-clause-reacts : goal.returns-in-Vertex-clause-reacts
returns-in-Vertex-clause-reacts g c =
    let At : Frame → Type 0 = λ f. ReactsAs g.F.Files.tells (standing c.args.self.now (g.F.Files.held c.args.files.now)) f (drive_wanting (record { stage = stage.Wanting; node = c.args.self.now; mark = c.args.mark }) c.args.place f) (driver_standing c.receive.new.self c.args.mark (g.F.Files.held c.receive.new.files)) (g.D.Door.sessions c.args.door.now) (g.D.Door.sessions c.args.door.now) (Ok stage.Wanting) in
    subst At (sym c.in-Vertex.is)
    (vertex_goes stage.Wanting c.args.self.now c.args.mark c.in-Vertex.vertex _ _ _ _ (λ k. tt) c.in_ok-_taken-in-Vertex._taken (g.D.Door.sessions c.args.door.now) c.in_ok-_taken-in-Vertex.ensures.received)

pub returns-in_err-_taken-in-Vertex-clause-reacts : goal.returns-in_err-_taken-in-Vertex-clause-reacts
returns-in_err-_taken-in-Vertex-clause-reacts g c =
    let p = err_from_is_err_and c.from_residual.result c.from_residual.ensures.1 in
    let e = c.in_err-_taken-in-Vertex.field-0.0 in
    let At : Frame → Type 0 = λ f. ReactsAs g.F.Files.tells (standing c.args.self.now (g.F.Files.held c.args.files.now)) f (drive_wanting (record { stage = stage.Wanting; node = c.args.self.now; mark = c.args.mark }) c.args.place f) (driver_standing c.receive.new.self c.args.mark (g.F.Files.held c.receive.new.files)) (g.D.Door.sessions c.args.door.now) (g.D.Door.sessions c.args.door.now) (Err e) in
    rw (p.1, p.2) (subst At (sym c.in-Vertex.is)
    (vertex_ends stage.Wanting c.args.self.now c.args.mark c.in-Vertex.vertex _ _ _ _ (λ k. tt) e (g.D.Door.sessions c.args.door.now) c.in_err-_taken-in-Vertex.ensures.received))

pub returns-in_err-_taken-in-Vertex-clause-link : goal.returns-in_err-_taken-in-Vertex-clause-link
returns-in_err-_taken-in-Vertex-clause-link g c =
    let p = err_from_is_err_and c.from_residual.result c.from_residual.ensures.1 in
    rw (p.1, p.2) (c.in_err-_taken-in-Vertex.ensures.link (g.D.Door.faults c.args.door.now))

pub returns-clause-reacts : goal.returns-clause-reacts
returns-clause-reacts g c =
    bad_reacts c.args.self.now c.args.frame c.args.mark (record { stage = stage.Wanting; node = c.args.self.now; mark = c.args.mark }) c.args.place _ _ _ _ refl refl
    (wanting_bad (record { stage = stage.Wanting; node = c.args.self.now; mark = c.args.mark }) c.args.place c.args.frame c.in_default.not-Vertex c.in_default.not-Missing c.in_default.not-Have)

pub returns-in-Missing-clause-reacts : goal.returns-in-Missing-clause-reacts
returns-in-Missing-clause-reacts g c =
    let At : Frame → Type 0 = λ f. ReactsAs g.F.Files.tells (standing c.args.self.now (g.F.Files.held c.args.files.now)) f (drive_wanting (record { stage = stage.Wanting; node = c.args.self.now; mark = c.args.mark }) c.args.place f) (driver_standing c.args.self.now c.args.mark (g.F.Files.held c.args.files.now)) (g.D.Door.sessions c.args.door.now) (g.D.Door.sessions c.args.door.now) (Ok stage.Wanting) in
    subst At (sym c.in-Missing.is)
    (as_reacts c.args.self.now _ c.args.mark _ _ _ _ _ _ refl refl (goes_answers c.args.self.now (record { stage = stage.Wanting; node = c.args.self.now; mark = c.args.mark }) _ tt))

pub returns-in-Have-clause-reacts : goal.returns-in-Have-clause-reacts
returns-in-Have-clause-reacts g c =
    let At : Frame → Type 0 = λ f. ReactsAs g.F.Files.tells (standing c.args.self.now (g.F.Files.held c.args.files.now)) f (drive_wanting (record { stage = stage.Wanting; node = c.args.self.now; mark = c.args.mark }) c.args.place f) (driver_standing c.args.self.now c.args.mark (g.F.Files.held c.args.files.now)) (g.D.Door.sessions c.args.door.now) (g.D.Door.sessions c.leave.new.door) c.leave.result in
    subst At (sym c.in-Have.is) (as_reacts c.args.self.now _ c.args.mark _ _ _ _ _ _ refl refl c.leave.ensures.answers)
