use Rattle.std.proofs.lemmas.Result.{err_from_is_err_and}
use Rattle.hw_link.proofs.SentLaws.{sends_none}
use Rattle.hw_meeting_node.specs.Frames.{framed}
use Rattle.hw_meeting_node.proofs.send.send_meeting.Goals as goal

pub returns-in_err-body-clause-sent : goal.returns-in_err-body-clause-sent
returns-in_err-body-clause-sent g c =
    let p = err_from_is_err_and c.from_residual.result c.from_residual.ensures.1 in
    rw (p.1, p.2) (sends_none (framed c.args.frame.now) (g.D.Door.sessions c.args.door.now))
