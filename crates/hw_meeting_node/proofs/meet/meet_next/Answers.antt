use Rattle.std.proofs.Common.{ℕ, length, refl, ap, ◌∙◌}
use Rattle.std.proofs.lemmas.Result.{err_from_is_err_and}
use Rattle.hw_types.specs.Real.{CoreState}
use Rattle.hw_meeting_node.proofs.NextLaws.{asks_among, quits, handles_whole, handles_end, heard_unstored}
use Rattle.hw_meeting_node.proofs.meet.meet_next.Goals as goal

pub returns-in_err-heard-clause-met : goal.returns-in_err-heard-clause-met
returns-in_err-heard-clause-met g c =
    let p = err_from_is_err_and c.from_residual.result c.from_residual.ensures.1 in
    rw (p.1, p.2) (quits _ _ _ _ _ c.args.place _ _ _ _ _ c.in_err-heard.field-0.0 (c.validators-count.ensures.count ∙ ap (λ (x : CoreState). length x.config.weights) c.core.ensures) c.in_err-heard.ensures.heard)

pub returns-clause-met : goal.returns-clause-met
returns-clause-met g c = handles_whole _ _ _ _ _ c.args.place c.args.side _ _ _ _ _ _ _ _ _ c.in_ok-heard.heard (c.validators-count.ensures.count ∙ ap (λ (x : CoreState). length x.config.weights) c.core.ensures) c.in_ok-heard.ensures.heard c.in_ok-meet_frame.ensures.ends c.in_ok-meet_frame.ensures.reacts c.in_ok-meet_frame.ensures.takes

pub returns-in_err-meet_frame-clause-met : goal.returns-in_err-meet_frame-clause-met
returns-in_err-meet_frame-clause-met g c =
    let p = err_from_is_err_and c.from_residual-in_err-meet_frame.result c.from_residual-in_err-meet_frame.ensures.1 in
    rw (p.1, p.2) (handles_end _ _ _ _ _ c.args.place c.args.side _ _ _ _ _ _ _ _ _ c.in_ok-heard.heard (c.validators-count.ensures.count ∙ ap (λ (x : CoreState). length x.config.weights) c.core.ensures) c.in_ok-heard.ensures.heard c.in_err-meet_frame.ensures.ends c.in_err-meet_frame.field-0.0 c.in_err-meet_frame.ensures.reacts c.in_err-meet_frame.ensures.takes)

pub returns-in_err-heard-clause-appends : goal.returns-in_err-heard-clause-appends
returns-in_err-heard-clause-appends g c =
    let p = err_from_is_err_and c.from_residual.result c.from_residual.ensures.1 in
    rw (p.1, p.2) (heard_unstored ℕ _ c.args.place (g.T.Taker.faults c.args.taker.now) _ _ _ _ c.in_err-heard.field-0.0 c.in_err-heard.ensures.heard)

pub returns-in_err-heard-clause-asks : goal.returns-in_err-heard-clause-asks
returns-in_err-heard-clause-asks g c =
    asks_among c.validators-count.result _ c.args.place (g.D.Door.sessions c.args.door.now) (g.D.Door.asks c.args.door.now) (g.D.Door.asks c.read_meeting.new.door) (g.D.Door.asks c.read_meeting.new.door)
    (c.validators-count.ensures.count ∙ ap (λ (x : CoreState). length x.config.weights) c.core.ensures) c.in_err-heard.ensures.asks refl

pub returns-in_err-meet_frame-clause-asks : goal.returns-in_err-meet_frame-clause-asks
returns-in_err-meet_frame-clause-asks g c =
    asks_among c.validators-count.result _ c.args.place (g.D.Door.sessions c.args.door.now) (g.D.Door.asks c.args.door.now) (g.D.Door.asks c.read_meeting.new.door) (g.D.Door.asks c.meet_frame.new.door)
    (c.validators-count.ensures.count ∙ ap (λ (x : CoreState). length x.config.weights) c.core.ensures) c.in_ok-heard.ensures.asks c.in_err-meet_frame.ensures.asks

pub returns-clause-asks : goal.returns-clause-asks
returns-clause-asks g c =
    asks_among c.validators-count.result _ c.args.place (g.D.Door.sessions c.args.door.now) (g.D.Door.asks c.args.door.now) (g.D.Door.asks c.read_meeting.new.door) (g.D.Door.asks c.meet_frame.new.door)
    (c.validators-count.ensures.count ∙ ap (λ (x : CoreState). length x.config.weights) c.core.ensures) c.in_ok-heard.ensures.asks c.in_ok-meet_frame.ensures.asks
