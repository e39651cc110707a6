use Rattle.std.proofs.Common.{◌≡◌, ◌+◌, ℕ, [], ◌∷◌, ◌++◌, length, map, sym, ap, subst}
use Rattle.std.proofs.lemmas.Result.{err_from_is_err_and}
use Rattle.hw_types.specs.declared.answers.Frame.TheVariants as frame
use Rattle.hw_link.specs.Frames.{sent_bytes}
use Rattle.hw_link.specs.Sent.{Sends}
use Rattle.hw_session.specs.Serving.{part_from}
use Rattle.hw_session.proofs.SendLaws.{sends_both, sends_one, sends_part}
use Rattle.hw_session.proofs.answer.answer_have.Goals as goal

pub returns-clause-sent : goal.returns-clause-sent
returns-clause-sent g c =
    let journal = c.args.core.now.journal in
    let old = g.D.Door.sessions c.args.door.now in
    let mid = g.D.Door.sessions c.send_part.new.door in
    let new = g.D.Door.sessions c.say.new.door in
    let vertices = map frame.Vertex (part_from journal c.args.place) in
    let next : c.args.place + c.part_length.result ≡ c.args.place + length (part_from journal c.args.place) = ap (λ (n : ℕ). c.args.place + n) (c.part_length.ensures.part journal (sym c.journal_count.ensures)) in
    subst (λ (n : ℕ). Sends {T = Unit {0}} (sent_bytes (vertices ++ frame.Have n ∷ [])) old new c.say.result) next
    (sends_both (Unit {0}) vertices (frame.Have (c.args.place + c.part_length.result) ∷ []) old mid new c.say.result c.in_ok-send_part.ensures.sent
    (sends_one (Unit {0}) (frame.Have (c.args.place + c.part_length.result)) mid new c.say.result c.say.ensures.sent))

pub returns-in_err-send_part-clause-sent : goal.returns-in_err-send_part-clause-sent
returns-in_err-send_part-clause-sent g c =
    let journal = c.args.core.now.journal in
    let p = err_from_is_err_and c.from_residual.result c.from_residual.ensures.1 in
    rw (p.1, p.2)
    (sends_part (Unit {0}) (map frame.Vertex (part_from journal c.args.place)) (frame.Have (c.args.place + length (part_from journal c.args.place)) ∷ []) (g.D.Door.sessions c.args.door.now) (g.D.Door.sessions c.send_part.new.door) c.in_err-send_part.field-0.0 c.in_err-send_part.ensures.sent)
