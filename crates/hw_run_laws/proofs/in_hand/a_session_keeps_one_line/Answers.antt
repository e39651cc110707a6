use Rattle.hw_link.specs.Told.{door_told}
use Rattle.hw_session.specs.Standing.{standing}
use Rattle.hw_run_laws.proofs.InHandLaws.{serve_keeps}
use Rattle.hw_run_laws.proofs.in_hand.a_session_keeps_one_line.Goals as goal

pub returns-clause-line : goal.returns-clause-line
returns-clause-line g c = λ telling me validator ready fair logged. serve_keeps me (standing c.args.node.now (g.F.Files.held c.args.files.now)) (standing c.serve_one-end.new.self (g.F.Files.held c.serve_one-end.new.files)) g.F.Files.tells (door_told (g.D.Door.sessions c.args.door.now) (g.D.Door.ends c.args.door.now)) (door_told (g.D.Door.sessions c.serve_one-end.new.door) (g.D.Door.ends c.serve_one-end.new.door)) c.serve_one-end.result validator c.recall.ensures c.recall-2.ensures c.serve_one-end.ensures.served telling ready fair logged
