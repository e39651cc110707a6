use Rattle.hw_link.specs.Told.{door_told}
use Rattle.hw_session.specs.Standing.{standing}
use Rattle.hw_run_laws.proofs.InHandLaws.{drive_keeps}
use Rattle.hw_run_laws.proofs.in_hand.a_driven_session_keeps_one_line.Goals as goal

pub returns-clause-line : goal.returns-clause-line
returns-clause-line g c = λ telling me validator ready fair logged.
    drive_keeps me c.args.mark.now c.drive_one-end.new.mark c.args.address.now (standing c.args.node.now (g.F.Files.held c.args.files.now)) (standing c.drive_one-end.new.self (g.F.Files.held c.drive_one-end.new.files)) g.F.Files.tells
    (door_told (g.D.Door.sessions c.args.door.now) (g.D.Door.ends c.args.door.now)) (door_told (g.D.Door.sessions c.drive_one-end.new.door) (g.D.Door.ends c.drive_one-end.new.door)) c.drive_one-end.result
    validator c.recall.ensures c.recall-2.ensures c.drive_one-end.ensures.driven telling ready fair logged
