use Rattle.std.proofs.Common.{ℕ, List, subst, sym}
use Rattle.hw_io.specs.Doors.{Ask, AsksMore}
use Rattle.hw_io.proofs.Asks.{asks_none, asks_still}
use Rattle.hw_link.specs.Asked.{IsAskedBehind}
use Rattle.hw_link.specs.Told.{door_told}
use Rattle.hw_meeting_node.specs.Meeting.{met_said}
use Rattle.hw_meeting_node.specs.Sessions.{meet_end}
use Rattle.hw_meeting_node.specs.Taking.{TakesThere, with_taker}
use Rattle.hw_meeting_node.specs.declared.meeter.Meeter.{Meeter}
use Rattle.hw_meeting_node.proofs.MeetingLaws.{first_sent, first_cut}
use Rattle.hw_meeting_node.proofs.meet.meet.Goals as goal

pub returns-in-Ok-clause-met : goal.returns-in-Ok-clause-met
returns-in-Ok-clause-met g c =
    let d = g.D.Door in
    let core = g.T.Taker.received c.args.taker.now in
    let judge = g.T.Taker.verdict c.args.taker.now in
    let now = c.meet_frames.new in
    subst (λ (x : ℕ). TakesThere g.T.Taker.steps c.args.side judge (with_taker core c.args.taker.now) (with_taker (g.T.Taker.received now.taker) now.taker) (door_told (d.sessions c.args.door.now) x) (door_told (d.sessions now.door) (d.ends now.door)) c.meet_frames.result) c.in-Ok.ensures.rest.ends
    (c.meet_frames.ensures.met (d.sessions c.args.door.now) (first_sent g.T.Taker.steps c.args.side core judge c.args.taker.now Meeter (d.sessions c.args.door.now) (d.sessions c.say_first.new.door) c.in-Ok.meeter (rw c.core.ensures at c.in-Ok.ensures.sent)))

pub returns-in-Err-clause-met : goal.returns-in-Err-clause-met
returns-in-Err-clause-met g c =
    let d = g.D.Door in
    let core = g.T.Taker.received c.args.taker.now in
    let judge = g.T.Taker.verdict c.args.taker.now in
    rw c.meet_end.ensures
    (subst (λ (x : ℕ). TakesThere g.T.Taker.steps c.args.side judge (with_taker core c.args.taker.now) (with_taker core c.args.taker.now) (door_told (d.sessions c.args.door.now) (d.ends c.args.door.now)) (door_told (d.sessions c.say_first.new.door) x) (meet_end c.in-Err.end 0)) (sym c.in-Err.ensures.rest.ends)
    (first_cut g.T.Taker.steps c.args.side core judge c.args.taker.now Meeter (d.sessions c.args.door.now) (d.sessions c.say_first.new.door) (d.ends c.args.door.now) c.in-Err.end (rw c.core.ensures at c.in-Err.ensures.sent)))

pub returns-in-Ok-clause-asks : goal.returns-in-Ok-clause-asks
returns-in-Ok-clause-asks g c =
    let d = g.D.Door in
    let core = g.T.Taker.received c.args.taker.now in
    let judge = g.T.Taker.verdict c.args.taker.now in
    subst (λ (begun : List Ask). AsksMore (IsAskedBehind (met_said c.args.side core judge) (d.sessions c.args.door.now)) begun (d.asks c.meet_frames.new.door)) c.in-Ok.ensures.rest.asks
    (c.meet_frames.ensures.asks (d.sessions c.args.door.now) (first_sent g.T.Taker.steps c.args.side core judge c.args.taker.now Meeter (d.sessions c.args.door.now) (d.sessions c.say_first.new.door) c.in-Ok.meeter (rw c.core.ensures at c.in-Ok.ensures.sent)))

pub returns-in-Err-clause-asks : goal.returns-in-Err-clause-asks
returns-in-Err-clause-asks g c =
    let P = IsAskedBehind (met_said c.args.side (g.T.Taker.received c.args.taker.now) (g.T.Taker.verdict c.args.taker.now)) (g.D.Door.sessions c.args.door.now) in
    let begun = g.D.Door.asks c.args.door.now in
    asks_still P begun begun (g.D.Door.asks c.say_first.new.door) (asks_none P begun) c.in-Err.ensures.rest.asks
