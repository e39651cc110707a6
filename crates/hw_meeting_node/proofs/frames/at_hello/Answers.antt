use Rattle.std.proofs.Common.{◌≡◌, Err, false, refl, sym, subst, ◌∙◌}
use Rattle.hw_types.specs.declared.unit.Digest.{Digest}
use Rattle.hw_types.specs.Graph.{digest_eq}
use Rattle.hw_types.specs.Spelling.{instance_of}
use Rattle.hw_link.specs.declared.end.SessionEnd.TheVariants as end
use Rattle.hw_meeting_node.specs.Talk.{Reaction}
use Rattle.hw_meeting_node.specs.Meeting.{Meeting}
use Rattle.hw_meeting_node.specs.Handling.{meeting_of, Reacts}
use Rattle.hw_meeting_node.proofs.ReactLaws.{greeted_by, none_sent}
use Rattle.hw_meeting_node.proofs.frames.at_hello.Goals as goal

pub returns-else-eq-clause-reacts : goal.returns-else-eq-clause-reacts
returns-else-eq-clause-reacts g c =
    let core = c.args.core.now in
    let m = meeting_of c.args.meeter.now core in
    let old = g.D.Door.sessions c.args.door.now in
    let other : digest_eq c.args.other (instance_of core.config) ≡ false = subst (λ (d : Digest). digest_eq c.args.other d ≡ false) c.instance.ensures (sym c.eq.ensures ∙ c.if-eq.false) in
    subst (λ (r : Reaction Meeting). Reacts {T = Unit {0}} core r m old old (Err end.WrongInstance)) (sym (greeted_by c.args.side m c.args.other false other)) (refl, refl, none_sent old)
