use Rattle.std.proofs.lemmas.Result.{err_from_is_err_and}
use Rattle.hw_link.specs.Frames.{sent_bytes}
use Rattle.hw_link.proofs.SentLaws.{sends_none}
use Rattle.hw_needs.specs.Needs.{vertices_of}
use Rattle.hw_session.specs.Serving.{sent_for}
use Rattle.hw_session.proofs.answer.send_for.Goals as goal

pub returns-in_err-vertices-clause-sent : goal.returns-in_err-vertices-clause-sent
returns-in_err-vertices-clause-sent g c =
    let p = err_from_is_err_and c.from_residual.result c.from_residual.ensures.1 in
    rw (p.1, p.2) (sends_none (sent_bytes (sent_for c.args.need.now (vertices_of c.args.core.now c.args.need.now))) (g.D.Door.sessions c.args.door.now))
