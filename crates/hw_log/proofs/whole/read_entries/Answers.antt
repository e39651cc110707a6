use Rattle.std.proofs.Common.{inl, inr, ap, ◌∙◌}
use Rattle.std.proofs.lemmas.Result.{err_from_is_err_and}
use Rattle.hw_log.proofs.RunLaws.{stands_next, stands_last, stands_at_fault}
use Rattle.hw_log.specs.Whole.{first_fault}
use Rattle.hw_log.proofs.whole.read_entries.Goals as goal

pub returns-in_err-entry-clause-fault : goal.returns-in_err-entry-clause-fault
returns-in_err-entry-clause-fault g c =
    let p = err_from_is_err_and c.from_residual.result c.from_residual.ensures.1 in
    λ tells. rw (p.1, p.2) (λ bytes first.
    let stands = c.loop-entry.invariant.stands tells bytes first in
    elim (c.in_err-entry.ensures.said tells) [
      | inl outside ↦ inl outside
      | inr said ↦ inr (ap first_fault (stands_at_fault bytes _ _ _ _ stands said))
    ])

pub loop-entry-preserved : goal.loop-entry-preserved
loop-entry-preserved g c = record {
  stands = λ tells bytes first.
      let said = rw c.in-Some.is at (c.in_ok-entry.ensures.said tells) in
      let stands = c.loop-entry.invariant.stands tells bytes first in
      rw c.in_ok-push.ensures.ok (stands_next bytes _ _ _ _ _ c.in-Some.entry stands said c.in_ok-entry.ensures.config);
  places = c.in_ok-entry.ensures.places;
  counted = c.in_ok-entry.ensures.cause.failed ∙ c.loop-entry.invariant.counted;
  about = c.in_ok-entry.ensures.about ∙ c.loop-entry.invariant.about;
  begun = c.in_ok-entry.ensures.begun ∙ c.loop-entry.invariant.begun;
  files = λ name. c.in_ok-entry.ensures.files name ∙ c.loop-entry.invariant.files name;
  appends = c.in_ok-entry.ensures.appends ∙ c.loop-entry.invariant.appends;
}

pub returns-clause-whole : goal.returns-clause-whole
returns-clause-whole g c = λ tells bytes first.
    let stands = c.loop-entry.invariant.stands tells bytes first in
    let said = rw c.in_default.is at (c.in_ok-entry.ensures.said tells) in
    rw c.in_ok-entry.ensures.config (stands_last bytes _ _ _ _ stands said)
