use Rattle.std.proofs.Common.{None, inl}
use Rattle.hw_meeting_node.specs.declared.meeter.Side.TheVariants.{Host}
use Rattle.hw_link.proofs.AskLaws.{all_prompt, none_prompt}
use Rattle.hw_meeting_node.specs.Meeting.{met_said}
use Rattle.hw_meeting_node.proofs.MeetingLaws.{meets_peer, meets_nobody, only_meets}
use Rattle.hw_meeting_node.proofs.meet.host_one.Goals as goal

pub returns-in-Ok-clause-took : goal.returns-in-Ok-clause-took
returns-in-Ok-clause-took g c = inl (meets_peer _ Host _ _ _ None _ _ _ _ _ _ _ _ _ _ c.meet-end.result c.in-Ok.ensures.sessions c.in-Ok.ensures.ends c.meet-end.ensures.met c.hang_up.ensures.sessions c.hang_up.ensures.ends)

pub returns-in-Ok-clause-met : goal.returns-in-Ok-clause-met
returns-in-Ok-clause-met g c = only_meets _ Host _ _ _ None _ _ _ _ _ _ c.meet-end.result (returns-in-Ok-clause-took g c)

pub returns-in-Err-clause-took : goal.returns-in-Err-clause-took
returns-in-Err-clause-took g c = rw (c.meet_end.ensures, c.from.ensures) (meets_nobody g.T.Taker.steps Host _ _ c.args.taker.now None _ _ _ _ c.in-Err.fault c.in-Err.ensures.ends c.in-Err.ensures.sessions)

pub returns-in-Err-clause-met : goal.returns-in-Err-clause-met
returns-in-Err-clause-met g c = only_meets _ Host _ _ _ None _ _ _ _ _ _ c.meet_end.result (returns-in-Err-clause-took g c)

pub returns-in-Ok-clause-prompt : goal.returns-in-Ok-clause-prompt
returns-in-Ok-clause-prompt g c =
    all_prompt (met_said Host (g.T.Taker.received c.args.taker.now) (g.T.Taker.verdict c.args.taker.now)) None (g.D.Door.sessions c.args.door.now) (g.D.Door.sessions c.accept.new.self) c.in-Ok.ensures.sessions
    (g.D.Door.asks c.accept.new.self) (g.D.Door.asks c.meet-end.new.door) (g.D.Door.asks c.hang_up.new.self) c.in-Ok.ensures.asks c.meet-end.ensures.asks c.hang_up.ensures.asks

pub returns-in-Err-clause-prompt : goal.returns-in-Err-clause-prompt
returns-in-Err-clause-prompt g c = none_prompt (met_said Host (g.T.Taker.received c.args.taker.now) (g.T.Taker.verdict c.args.taker.now)) (g.D.Door.asks c.accept.new.self) c.in-Err.ensures.asks
