use Rattle.std.proofs.Common.{Ok, Err, refl, sym, subst}
use Rattle.std.proofs.lemmas.Result.{err_from_is_err_and}
use Rattle.hw_types.specs.declared.answers.Frame.{Frame}
use Rattle.hw_types.specs.declared.answers.Frame.TheVariants as frame
use Rattle.hw_link.specs.Talk.{Reaction}
use Rattle.hw_session.specs.declared.stage.Stage.TheVariants as stage
use Rattle.hw_session.specs.Driving.{Driver, greeting, drive_pulling}
use Rattle.hw_session.specs.DriveHandling.{ReactsAs}
use Rattle.hw_session.specs.Standing.{standing, driver_standing}
use Rattle.hw_session.proofs.DriveLaws.{as_reacts, bad_reacts, pulling_bad, told_node, told_alike, vertex_goes, vertex_ends}
use Rattle.hw_session.proofs.node.Node.drive_pulling.Goals as goal

pub returns-in-Vertex-clause-reacts : goal.returns-in-Vertex-clause-reacts
returns-in-Vertex-clause-reacts g c =
    let AtFrame : Frame → Type 0 = λ f. ReactsAs g.F.Files.tells (standing c.args.self.now (g.F.Files.held c.args.files.now)) f (drive_pulling (record { stage = stage.Pulling c.args.again; node = c.args.self.now; mark = c.args.mark.now }) c.args.again c.args.place f) (driver_standing c.receive.new.self c.args.mark.now (g.F.Files.held c.receive.new.files)) (g.D.Door.sessions c.args.door.now) (g.D.Door.sessions c.args.door.now) (Ok (stage.Pulling c.args.again)) in
    subst AtFrame (sym c.in-Vertex.is)
    (vertex_goes (stage.Pulling c.args.again) c.args.self.now c.args.mark.now c.in-Vertex.vertex _ _ _ _ (λ k. tt) c.in_ok-_taken-in-Vertex._taken (g.D.Door.sessions c.args.door.now) c.in_ok-_taken-in-Vertex.ensures.received)

pub returns-in_err-_taken-in-Vertex-clause-reacts : goal.returns-in_err-_taken-in-Vertex-clause-reacts
returns-in_err-_taken-in-Vertex-clause-reacts g c =
    let p = err_from_is_err_and c.from_residual.result c.from_residual.ensures.1 in
    let e = c.in_err-_taken-in-Vertex.field-0.0 in
    let AtFrame : Frame → Type 0 = λ f. ReactsAs g.F.Files.tells (standing c.args.self.now (g.F.Files.held c.args.files.now)) f (drive_pulling (record { stage = stage.Pulling c.args.again; node = c.args.self.now; mark = c.args.mark.now }) c.args.again c.args.place f) (driver_standing c.receive.new.self c.args.mark.now (g.F.Files.held c.receive.new.files)) (g.D.Door.sessions c.args.door.now) (g.D.Door.sessions c.args.door.now) (Err e) in
    rw (p.1, p.2) (subst AtFrame (sym c.in-Vertex.is)
    (vertex_ends (stage.Pulling c.args.again) c.args.self.now c.args.mark.now c.in-Vertex.vertex _ _ _ _ (λ k. tt) e (g.D.Door.sessions c.args.door.now) c.in_err-_taken-in-Vertex.ensures.received))

pub returns-in_err-_taken-in-Vertex-clause-link : goal.returns-in_err-_taken-in-Vertex-clause-link
returns-in_err-_taken-in-Vertex-clause-link g c =
    let p = err_from_is_err_and c.from_residual.result c.from_residual.ensures.1 in
    rw (p.1, p.2) (c.in_err-_taken-in-Vertex.ensures.link (g.D.Door.faults c.args.door.now))

pub returns-clause-reacts : goal.returns-clause-reacts
returns-clause-reacts g c =
    bad_reacts c.args.self.now c.args.frame c.args.mark.now (record { stage = stage.Pulling c.args.again; node = c.args.self.now; mark = c.args.mark.now }) c.args.place _ _ _ _ refl refl
    (pulling_bad (record { stage = stage.Pulling c.args.again; node = c.args.self.now; mark = c.args.mark.now }) c.args.again c.args.place c.args.frame c.in_default.not-Vertex c.in_default.not-Have)

pub returns-in-Have-clause-reacts : goal.returns-in-Have-clause-reacts
returns-in-Have-clause-reacts g c =
    let AtFrame : Frame → Type 0 = λ f. ReactsAs g.F.Files.tells (standing c.args.self.now (g.F.Files.held c.args.files.now)) f (drive_pulling (record { stage = stage.Pulling c.args.again; node = c.args.self.now; mark = c.args.mark.now }) c.args.again c.args.place f) (driver_standing c.args.self.now c.drive_have.new.mark (g.F.Files.held c.args.files.now)) (g.D.Door.sessions c.args.door.now) (g.D.Door.sessions c.drive_have.new.door) c.drive_have.result in
    let By : Reaction Driver → Type 0 = λ r. ReactsAs g.F.Files.tells (standing c.args.self.now (g.F.Files.held c.args.files.now)) (frame.Have c.in-Have.told) r (driver_standing c.args.self.now c.drive_have.new.mark (g.F.Files.held c.args.files.now)) (g.D.Door.sessions c.args.door.now) (g.D.Door.sessions c.drive_have.new.door) c.drive_have.result in
    subst AtFrame (sym c.in-Have.is)
    (subst By (told_alike c.args.self.now c.args.mark.now stage.Greeting (stage.Pulling c.args.again) c.args.again c.in-Have.told)
    (as_reacts c.args.self.now _ c.drive_have.new.mark _ _ _ _ _ _ (told_node (greeting c.args.self.now c.args.mark.now) c.args.again c.in-Have.told) c.drive_have.ensures.marks c.drive_have.ensures.answers))
