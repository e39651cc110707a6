use Rattle.std.proofs.Common.{ℕ, [], ◌∷◌, ◌++◌, length, subst}
use Rattle.std.proofs.lemmas.Result.{err_from_is_err_and}
use Rattle.hw_types.specs.declared.answers.Frame.TheVariants as frame
use Rattle.hw_link.specs.Frames.{sent_bytes}
use Rattle.hw_link.specs.Sent.{Sends}
use Rattle.hw_session.proofs.SendLaws.{sends_both, sends_one, sends_part, sent_for_all}
use Rattle.hw_session.proofs.answer.answer_want.Goals as goal

pub returns-clause-sent : goal.returns-clause-sent
returns-clause-sent g c =
    let frames = sent_for_all c.args.core.now c.args.needs.now in
    let old = g.D.Door.sessions c.args.door.now in
    let mid = g.D.Door.sessions c.send_each.new.door in
    let new = g.D.Door.sessions c.say.new.door in
    subst (λ (n : ℕ). Sends {T = Unit {0}} (sent_bytes (frames ++ frame.Have n ∷ [])) old new c.say.result) c.journal_count.ensures
    (sends_both (Unit {0}) frames (frame.Have c.journal_count.result ∷ []) old mid new c.say.result c.in_ok-send_each.ensures.sent
    (sends_one (Unit {0}) (frame.Have c.journal_count.result) mid new c.say.result c.say.ensures.sent))

pub returns-in_err-send_each-clause-sent : goal.returns-in_err-send_each-clause-sent
returns-in_err-send_each-clause-sent g c =
    let p = err_from_is_err_and c.from_residual.result c.from_residual.ensures.1 in
    rw (p.1, p.2)
    (sends_part (Unit {0}) (sent_for_all c.args.core.now c.args.needs.now) (frame.Have (length c.args.core.now.journal) ∷ []) (g.D.Door.sessions c.args.door.now) (g.D.Door.sessions c.send_each.new.door) c.in_err-send_each.field-0.0 c.in_err-send_each.ensures.sent)
