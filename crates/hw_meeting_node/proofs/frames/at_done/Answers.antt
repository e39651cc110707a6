use Rattle.std.proofs.Common.{Err, refl, sym, subst}
use Rattle.hw_link.specs.declared.end.SessionEnd.TheVariants as end
use Rattle.hw_meeting_node.specs.declared.meeter.Side.{Side}
use Rattle.hw_meeting_node.specs.Meeting.{finished}
use Rattle.hw_meeting_node.specs.Handling.{meeting_of, Reacts}
use Rattle.hw_meeting_node.proofs.ReactLaws.{none_sent}
use Rattle.hw_meeting_node.proofs.frames.at_done.Goals as goal

pub returns-in-Caller-clause-reacts : goal.returns-in-Caller-clause-reacts
returns-in-Caller-clause-reacts g c =
    let m = meeting_of c.args.meeter.now c.args.core.now in
    let old = g.D.Door.sessions c.args.door.now in
    subst (λ (s : Side). Reacts {T = Unit {0}} c.args.core.now (finished s m) m old old (Err end.Done)) (sym c.in-Caller.is) (refl, refl, none_sent old)
