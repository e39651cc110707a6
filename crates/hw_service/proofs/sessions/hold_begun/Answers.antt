use Rattle.std.proofs.Common.{inl, refl}
use Rattle.std.proofs.lemmas.Result.{err_from_is_err_and}
use Rattle.hw_service.proofs.RunLaws.{report_appends, report_unread, report_link, proceeds_with, taken_at}
use Rattle.hw_service.proofs.sessions.hold_begun.Goals as goal

pub returns-clause-proceeds : goal.returns-clause-proceeds
returns-clause-proceeds g c =
    let e = c.in_ok-link_failed.ensures in
    let k = c.close_host.ensures in
    let taken = λ (b : _). (goal.Consumer-dyn g (b.vtable, b.value)).consumed b.value in
    proceeds_with _ _ _ _ _ _ _ _ _ _ c.close_host.result e.takes (k.reports _ _) k.limits k.link (λ so. k.whole _ (taken_at taken _ _ _ _ e.ready.passed (e.whole so)))

pub returns-clause-appends : goal.returns-clause-appends
returns-clause-appends g c = report_appends c.close_host.result _ _ c.close_host.ensures.fault c.in_ok-link_failed.ensures.appends

pub returns-clause-link : goal.returns-clause-link
returns-clause-link g c = report_link c.close_host.result _ _ _ c.close_host.ensures.link c.in_ok-link_failed.ensures.link

pub returns-clause-no_read : goal.returns-clause-no_read
returns-clause-no_read g c = report_unread c.close_host.result c.close_host.ensures.fault

pub returns-in_err-link_failed-clause-proceeds : goal.returns-in_err-link_failed-clause-proceeds
returns-in_err-link_failed-clause-proceeds g c =
    let p = err_from_is_err_and c.from_residual.result c.from_residual.ensures.1 in
    rw (p.1, p.2) (inl (record { last = _; steps = c.in_err-link_failed.ensures.takes; left = refl }))
