use Rattle.std.proofs.Common.{Ok, Err, refl, ◌∙◌, arith}
use Rattle.std.proofs.lemmas.Result.{err_from_is_err_and}
use Rattle.hw_service.proofs.StepLaws.{none_taken, one_taken, last_taken}
use Rattle.hw_service.proofs.CountLaws.{appends_told, appends_then, link_of, door_then}
use Rattle.hw_service.proofs.sessions.hold_all.Goals as goal

pub loop-index-init : goal.loop-index-init
loop-index-init g c = record {
  taken = none_taken _ _ _;
  whole = λ so. so;
  ready = c.requires.ready;
  appends = refl;
  writes = refl;
  link = refl;
  reads = refl;
}

pub loop-index-preserved : goal.loop-index-preserved
loop-index-preserved g c =
    let i = c.loop-index.invariant in
    let h = c.hold_one-end.ensures in
    let e = c.in_ok-failed.ensures in
    let node = c.hold_one-end.new.host.node in
    record {
      taken = one_taken _ _ _ _ _ _ _ _ _ i.taken (omega arith) (record { end = c.hold_one-end.result; talked = h.talked; passed = h.told; told = e.told });
      whole = λ so. h.whole (i.whole so);
      ready = h.ready;
      appends = appends_told _ _ _ node _ _ (Ok c.in_ok-failed.field-0) _ _ e.told h.appends ∙ i.appends;
      writes = e.writes ∙ i.writes;
      link = door_then _ _ _ _ _ i.link (link_of _ _ _ node _ _ (Ok c.in_ok-failed.field-0) _ _ e.told h.link);
      reads = h.reads ∙ i.reads;
    }

pub returns-in_err-failed-clause-takes : goal.returns-in_err-failed-clause-takes
returns-in_err-failed-clause-takes g c =
    let h = c.hold_one-end.ensures in
    let p = err_from_is_err_and c.from_residual.result c.from_residual.ensures.1 in
    rw (p.1, p.2) (last_taken _ _ _ _ _ _ _ _ _ c.in_err-failed.field-0.0 c.loop-index.invariant.taken (omega arith) (omega arith) (record { end = c.hold_one-end.result; talked = h.talked; passed = h.told; told = c.in_err-failed.ensures.told }))

pub returns-in_err-failed-clause-appends : goal.returns-in_err-failed-clause-appends
returns-in_err-failed-clause-appends g c =
    let h = c.hold_one-end.ensures in
    let failed = Err c.in_err-failed.field-0.0 in
    let p = err_from_is_err_and c.from_residual.result c.from_residual.ensures.1 in
    rw (p.1, p.2) (appends_then _ _ _ failed c.loop-index.invariant.appends (appends_told _ _ _ c.hold_one-end.new.host.node _ _ failed _ _ c.in_err-failed.ensures.told h.appends))
