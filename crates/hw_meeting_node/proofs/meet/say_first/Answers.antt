use Rattle.std.proofs.Common.{Ok, sym, subst}
use Rattle.std.proofs.lemmas.Result.{err_from_is_err_and}
use Rattle.hw_link.specs.Sent.{Sends}
use Rattle.hw_meeting_node.specs.Frames.{sent_bytes}
use Rattle.hw_meeting_node.specs.declared.meeter.Meeter.{Meeter}
use Rattle.hw_meeting_node.specs.declared.meeter.Side.{Side}
use Rattle.hw_meeting_node.specs.Meeting.{first_word}
use Rattle.hw_meeting_node.proofs.SayLaws.{sends_none, unsaid}
use Rattle.hw_meeting_node.proofs.meet.say_first.Goals as goal

pub returns-in_err-meeter-clause-sent : goal.returns-in_err-meeter-clause-sent
returns-in_err-meeter-clause-sent g c =
    let p = err_from_is_err_and c.from_residual.result c.from_residual.ensures.1 in
    rw (p.1, p.2) (unsaid Meeter (first_word c.args.side c.args.core.now) (g.D.Door.sessions c.args.door.now))

pub returns-in-Host-clause-sent : goal.returns-in-Host-clause-sent
returns-in-Host-clause-sent g c =
    let old = g.D.Door.sessions c.args.door.now in
    subst (λ (s : Side). Sends {T = Meeter} (sent_bytes (first_word s c.args.core.now)) old old (Ok c.in_ok-meeter.meeter)) (sym c.in-Host.is) (sends_none Meeter c.in_ok-meeter.meeter old)
