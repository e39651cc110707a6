use Rattle.std.proofs.Common.{subst}
use Rattle.hw_link.specs.Told.{door_told}
use Rattle.hw_run_laws.proofs.InHandLaws.{IsHeld, met_agree}
use Rattle.hw_run_laws.proofs.in_hand.nodes_that_met_agree.Goals as goal

pub returns-clause-agree : goal.returns-clause-agree
returns-clause-agree g c = λ ends crossed.
    met_agree c.args.address.now (g.T.Taker.received c.args.caller.now) (g.U.Taker.received c.args.host.now) c.requires
    (subst IsHeld c.core.ensures (record { reached = c.recall_core.ensures.reached; lawful = c.recall_core.ensures.lawful; vertices = c.recall_core.ensures.vertices }))
    (subst IsHeld c.core-2.ensures (record { reached = c.recall_core-2.ensures.reached; lawful = c.recall_core-2.ensures.lawful; vertices = c.recall_core-2.ensures.vertices }))
    (g.T.Taker.verdict c.args.caller.now) (g.U.Taker.verdict c.args.host.now) (g.T.Taker.received c.meet_one-one.new.taker) (g.U.Taker.received c.host_one-other.new.taker) c.meet_one-one.ensures.config
    (door_told (g.D.Door.sessions c.args.dialled.now) (g.D.Door.ends c.args.dialled.now)) (door_told (g.D.Door.sessions c.meet_one-one.new.door) (g.D.Door.ends c.meet_one-one.new.door))
    (door_told (g.E.Door.sessions c.args.hosted.now) (g.E.Door.ends c.args.hosted.now)) (door_told (g.E.Door.sessions c.host_one-other.new.door) (g.E.Door.ends c.host_one-other.new.door))
    c.meet_one-one.result c.host_one-other.result c.meet_one-one.ensures.met c.host_one-other.ensures.met ends crossed
