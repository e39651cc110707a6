use Rattle.std.proofs.Common.{None}
use Rattle.hw_session.specs.Standing.{standing}
use Rattle.hw_meeting_node.specs.declared.meeter.Side.TheVariants.{Host}
use Rattle.hw_service.specs.Scene.{door_of}
use Rattle.hw_run_laws.proofs.InHandLaws.{meet_keeps}
use Rattle.hw_run_laws.proofs.in_hand.a_hosted_meeting_keeps_one_line.Goals as goal

pub returns-clause-line : goal.returns-clause-line
returns-clause-line g c = λ telling me validator ready fair logged.
    meet_keeps me Host None (standing c.args.node.now (g.F.Files.held c.args.files.now)) (standing c.host_node-end.new.node (g.F.Files.held c.host_node-end.new.files)) g.F.Files.tells
    (door_of g.D.Door c.args.door.now) (door_of g.D.Door c.host_node-end.new.door) c.host_node-end.result
    validator c.recall.ensures c.recall-2.ensures c.host_node-end.ensures.node telling ready fair logged
