use Rattle.std.proofs.Common.{sym, ◌∙◌}
use Rattle.std.proofs.lemmas.Result.{err_from_is_err_and}
use Rattle.hw_replay.proofs.AheadLaws.{ahead_entry, ahead_end, stops_at_entry, stops_at_error}
use Rattle.hw_replay.proofs.EndLaws.{lasts_lead, lasts_end}
use Rattle.hw_replay.proofs.MidwayLaws.{takes_next, stops_next, errs_next}
use Rattle.hw_replay.proofs.replay.Replay.step.Goals as goal

pub returns-in_err-take-in-Ok-Some-clause-said : goal.returns-in_err-take-in-Ok-Some-clause-said
returns-in_err-take-in-Ok-Some-clause-said g c =
    let p = err_from_is_err_and c.from_residual.result c.from_residual.ensures.1 in
    λ tells.
    let is = rw c.in-Ok-Some.field-0-is at (c.in-Ok-Some.ensures.said tells) in
    rw (p.1, p.2) (stops_at_entry _ _ _ _ _ is c.in_err-take-in-Ok-Some.ensures.stopped)

pub returns-in_ok-take-in-Ok-Some-clause-said : goal.returns-in_ok-take-in-Ok-Some-clause-said
returns-in_ok-take-in-Ok-Some-clause-said g c = λ tells.
    let is = rw c.in-Ok-Some.field-0-is at (c.in-Ok-Some.ensures.said tells) in
    rw c.in_ok-take-in-Ok-Some.ensures.reader (sym (ahead_entry _ _ _ _ _ is c.in_ok-take-in-Ok-Some.ensures.taken))

pub returns-in-Ok-None-clause-said : goal.returns-in-Ok-None-clause-said
returns-in-Ok-None-clause-said g c = λ tells.
    let is = rw c.in-Ok-None.field-0-is at (c.in-Ok-None.ensures.said tells) in
    ahead_end _ _ _ is

pub returns-in-Err-clause-said : goal.returns-in-Err-clause-said
returns-in-Err-clause-said g c = λ tells. rw c.fault_of.ensures (stops_at_error _ _ _ (c.in-Err.ensures.said tells))

pub returns-in_ok-take-in-Ok-Some-clause-lasts : goal.returns-in_ok-take-in-Ok-Some-clause-lasts
returns-in_ok-take-in-Ok-Some-clause-lasts g c = λ tells.
    let is = rw c.in-Ok-Some.field-0-is at (c.in-Ok-Some.ensures.said tells) in
    rw c.in_ok-take-in-Ok-Some.ensures.reader (sym (lasts_lead _ _ _ is))

pub returns-in-Ok-None-clause-lasts : goal.returns-in-Ok-None-clause-lasts
returns-in-Ok-None-clause-lasts g c = λ tells.
    let is = rw c.in-Ok-None.field-0-is at (c.in-Ok-None.ensures.said tells) in
    let same = rw c.in-Ok-None.field-0-is at c.in-Ok-None.ensures.lasts in
    lasts_end _ _ is ∙ sym same

pub returns-in_ok-take-in-Ok-Some-clause-next : goal.returns-in_ok-take-in-Ok-Some-clause-next
returns-in_ok-take-in-Ok-Some-clause-next g c = λ tells.
    let is = rw c.in-Ok-Some.field-0-is at (c.in-Ok-Some.ensures.said tells) in
    rw c.in_ok-take-in-Ok-Some.ensures.reader (takes_next _ _ _ _ _ is c.in_ok-take-in-Ok-Some.ensures.taken)

pub returns-in_err-take-in-Ok-Some-clause-next : goal.returns-in_err-take-in-Ok-Some-clause-next
returns-in_err-take-in-Ok-Some-clause-next g c =
    let p = err_from_is_err_and c.from_residual.result c.from_residual.ensures.1 in
    λ tells.
    let is = rw c.in-Ok-Some.field-0-is at (c.in-Ok-Some.ensures.said tells) in
    rw (p.1, p.2) (stops_next _ _ _ _ _ is c.in_err-take-in-Ok-Some.ensures.stopped)

pub returns-in-Err-clause-next : goal.returns-in-Err-clause-next
returns-in-Err-clause-next g c = λ tells. rw c.fault_of.ensures (errs_next _ _ _ (c.in-Err.ensures.said tells))
