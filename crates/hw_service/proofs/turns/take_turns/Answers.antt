use Rattle.std.proofs.Common.{◌+◌, refl, ◌∙◌, arith}
use Rattle.std.proofs.lemmas.Result.{err_from_is_err_and}
use Rattle.hw_service.proofs.StepLaws.{none_taken, one_taken, last_taken}
use Rattle.hw_service.proofs.CountLaws.{door_then}
use Rattle.hw_service.proofs.turns.take_turns.Goals as goal

pub loop-index-init : goal.loop-index-init
loop-index-init g c = record {
  taken = none_taken _ _ _;
  whole = λ so. so;
  ready = c.requires.ready;
  config = refl;
  lent = refl;
  appends = refl;
  writes = refl;
  link = refl;
  reads = refl;
}

pub loop-index-preserved : goal.loop-index-preserved
loop-index-preserved g c =
    let i = c.loop-index.invariant in
    let e = c.in_ok-failed.ensures in
    record {
      taken = one_taken _ _ _ (c.loop-index._index + 1) _ _ _ _ _ i.taken (omega arith) (e.turn (c.loop-index._index + 1));
      whole = λ so. e.whole (i.whole so);
      ready = e.ready;
      config = e.config ∙ i.config;
      lent = e.lent ∙ i.lent;
      appends = e.appends ∙ i.appends;
      writes = e.writes ∙ i.writes;
      link = door_then _ _ _ _ _ i.link e.link;
      reads = e.reads ∙ i.reads;
    }

pub returns-in_err-failed-clause-takes : goal.returns-in_err-failed-clause-takes
returns-in_err-failed-clause-takes g c =
    let p = err_from_is_err_and c.from_residual.result c.from_residual.ensures.1 in
    rw (p.1, p.2) (last_taken _ _ _ _ (c.loop-index._index + 1) _ _ _ _ c.in_err-failed.field-0.0 c.loop-index.invariant.taken (omega arith) (omega arith) (c.in_err-failed.ensures.turn (c.loop-index._index + 1)))
