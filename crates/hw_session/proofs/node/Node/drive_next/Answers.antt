use Rattle.std.proofs.Common.{[], inr, ap}
use Rattle.std.proofs.lemmas.Result.{err_from_is_err_and}
use Rattle.hw_io.proofs.Asks.{asks_still}
use Rattle.hw_link.specs.Asked.{IsAskedInside}
use Rattle.hw_link.specs.Frames.{frame_here}
use Rattle.hw_session.specs.Outside.{DoorCalls}
use Rattle.hw_session.specs.declared.stage.Onward.{Onward}
use Rattle.hw_session.proofs.DriveLaws.{handles_whole, handles_end}
use Rattle.hw_session.proofs.ServingLaws.{heard_unlogged}
use Rattle.hw_session.proofs.node.Node.drive_next.Goals as goal

pub returns-in_err-heard-clause-appends : goal.returns-in_err-heard-clause-appends
returns-in_err-heard-clause-appends g c =
    let p = err_from_is_err_and c.from_residual.result c.from_residual.ensures.1 in
    rw (p.1, p.2) (heard_unlogged Onward c.args.place (g.F.Files.append_faults c.args.files.now) _ _ _ _ c.in_err-heard.field-0.0 c.in_err-heard.ensures.heard)

pub returns-in_err-stage-clause-driven : goal.returns-in_err-stage-clause-driven
returns-in_err-stage-clause-driven g c =
    let p = err_from_is_err_and c.from_residual-in_err-stage.result c.from_residual-in_err-stage.ensures.1 in
    rw (p.1, p.2) (inr (handles_end _ c.args.place _ _ _ _ _ _ _ _ _ _ _ c.in_ok-heard.heard c.in_ok-heard.ensures.heard (ap (λ (d : DoorCalls). d.ends) c.in_err-stage.ensures.door) c.in_err-stage.field-0.0 c.in_err-stage.ensures.reacts))

pub returns-clause-driven : goal.returns-clause-driven
returns-clause-driven g c = inr (handles_whole _ c.args.place _ _ _ _ _ _ _ _ _ _ _ c.in_ok-heard.heard c.in_ok-heard.ensures.heard (ap (λ (d : DoorCalls). d.ends) c.in_ok-stage.ensures.door) c.in_ok-stage.stage c.in_ok-stage.ensures.reacts)

pub returns-in_err-stage-clause-asks : goal.returns-in_err-stage-clause-asks
returns-in_err-stage-clause-asks g c =
    asks_still (IsAskedInside frame_here c.args.place [] (g.D.Door.sessions c.args.door.now)) (g.D.Door.asks c.args.door.now) (g.D.Door.asks c.read_frame.new.door) (g.D.Door.asks c.drive_frame.new.door)
    c.in_ok-heard.ensures.asks (ap (λ (d : DoorCalls). d.asks) c.in_err-stage.ensures.door)

pub returns-clause-asks : goal.returns-clause-asks
returns-clause-asks g c =
    asks_still (IsAskedInside frame_here c.args.place [] (g.D.Door.sessions c.args.door.now)) (g.D.Door.asks c.args.door.now) (g.D.Door.asks c.read_frame.new.door) (g.D.Door.asks c.drive_frame.new.door)
    c.in_ok-heard.ensures.asks (ap (λ (d : DoorCalls). d.asks) c.in_ok-stage.ensures.door)
