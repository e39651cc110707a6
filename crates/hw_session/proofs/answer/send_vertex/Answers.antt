use Rattle.std.proofs.lemmas.Result.{err_from_is_err_and}
use Rattle.hw_types.specs.declared.answers.Frame.TheVariants as frame
use Rattle.hw_link.specs.Frames.{framed}
use Rattle.hw_link.proofs.SentLaws.{sends_none}
use Rattle.hw_session.proofs.answer.send_vertex.Goals as goal

pub returns-in_err-copy-clause-sent : goal.returns-in_err-copy-clause-sent
returns-in_err-copy-clause-sent g c =
    let p = err_from_is_err_and c.from_residual.result c.from_residual.ensures.1 in
    rw (p.1, p.2) (sends_none (framed (frame.Vertex c.args.vertex.now)) (g.D.Door.sessions c.args.door.now))
