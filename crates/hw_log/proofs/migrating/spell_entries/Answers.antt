use Rattle.std.proofs.Common.{◌∙◌, sym, arith}
use Rattle.std.proofs.lemmas.Result.{err_from_is_err_and}
use Rattle.hw_log.proofs.MigrateLaws.{stands_more, all_spelled, error_spelled}
use Rattle.hw_log.proofs.migrating.spell_entries.Goals as goal

pub returns-in_err-entry-clause-said : goal.returns-in_err-entry-clause-said
returns-in_err-entry-clause-said g c =
    let p = err_from_is_err_and c.from_residual.result c.from_residual.ensures.1 in
    λ tells. rw (p.1, p.2) (λ bytes first. error_spelled bytes _ _ _ _ _ _ _ _ (c.loop-entry.invariant.stands tells bytes first) (c.in_err-entry.ensures.said tells))

pub loop-entry-preserved : goal.loop-entry-preserved
loop-entry-preserved g c = record {
  stands = λ tells bytes first.
      let said = rw c.in-Some.is at (c.in_ok-entry.ensures.said tells) in
      stands_more bytes _ _ _ _ _ _ _ _ _ _ _ c.in-Some.entry (c.loop-entry.invariant.stands tells bytes first) said c.in_ok-entry.ensures.config c.in_ok-spell_entry.ensures.text c.in_ok-spell_entry.ensures.lasts c.in_ok-spell_entry.ensures.fits;
  config = c.in_ok-entry.ensures.config ∙ c.loop-entry.invariant.config;
  places = c.in_ok-entry.ensures.places;
  few = let near = rw c.in-Some.is at c.in_ok-entry.ensures.nearer in omega (arith, c.loop-entry.invariant.few, near);
  counted = c.in_ok-entry.ensures.cause.failed ∙ c.loop-entry.invariant.counted;
  about = c.in_ok-entry.ensures.about ∙ c.loop-entry.invariant.about;
  begun = c.in_ok-entry.ensures.begun ∙ c.loop-entry.invariant.begun;
  files = λ name. c.in_ok-entry.ensures.files name ∙ c.loop-entry.invariant.files name;
  appends = c.in_ok-entry.ensures.appends ∙ c.loop-entry.invariant.appends;
}

pub returns-clause-said : goal.returns-clause-said
returns-clause-said g c = λ tells bytes first.
    let said = rw c.in_default.is at (c.in_ok-entry.ensures.said tells) in
    rw (sym c.loop-entry.invariant.config) (all_spelled bytes _ _ _ _ _ _ _ _ (c.loop-entry.invariant.stands tells bytes first) said)
