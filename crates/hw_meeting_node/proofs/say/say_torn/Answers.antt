use Rattle.std.proofs.lemmas.Result.{err_from_is_err_and}
use Rattle.hw_meeting_node.specs.Meeting.{torn}
use Rattle.hw_meeting_node.proofs.SayLaws.{unsaid}
use Rattle.hw_meeting_node.proofs.say.say_torn.Goals as goal

pub returns-in_err-torn-clause-sent : goal.returns-in_err-torn-clause-sent
returns-in_err-torn-clause-sent g c =
    let p = err_from_is_err_and c.from_residual.result c.from_residual.ensures.1 in
    rw (p.1, p.2) (unsaid (Unit {0}) (torn c.args.core.now c.args.theirs.now) (g.D.Door.sessions c.args.door.now))
