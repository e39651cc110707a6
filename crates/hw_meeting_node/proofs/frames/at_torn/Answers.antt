use Rattle.std.proofs.Common.{refl}
use Rattle.std.proofs.lemmas.Result.{err_from_is_err_and}
use Rattle.hw_meeting_node.specs.Meeting.{given_torn}
use Rattle.hw_meeting_node.specs.Handling.{meeting_of}
use Rattle.hw_meeting_node.proofs.ReactLaws.{wants_reacts}
use Rattle.hw_meeting_node.proofs.frames.at_torn.Goals as goal

pub returns-in_err-due-clause-reacts : goal.returns-in_err-due-clause-reacts
returns-in_err-due-clause-reacts g c =
    let core = c.args.core.now in
    let m = meeting_of c.args.meeter.now core in
    let p = err_from_is_err_and c.from_residual.result c.from_residual.ensures.1 in
    rw (p.1, p.2) (wants_reacts core (given_torn c.args.side m c.args.torn.now) m (g.D.Door.sessions c.args.door.now) refl)
