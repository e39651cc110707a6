use Rattle.std.proofs.Common.{[], ◌∷◌}
use Rattle.std.proofs.lemmas.Result.{err_from_is_err_and}
use Rattle.hw_meeting.specs.declared.frame.MeetingFrame.TheVariants as frame
use Rattle.hw_meeting_node.proofs.SayLaws.{unsaid}
use Rattle.hw_meeting_node.proofs.say.send_vertex.Goals as goal

pub returns-in_err-copy-clause-sent : goal.returns-in_err-copy-clause-sent
returns-in_err-copy-clause-sent g c =
    let p = err_from_is_err_and c.from_residual.result c.from_residual.ensures.1 in
    rw (p.1, p.2) (unsaid (Unit {0}) (frame.Vertex c.args.vertex.now ∷ []) (g.D.Door.sessions c.args.door.now))
