use Rattle.std.proofs.Common.{ℕ, refl, sym, subst, ◌∙◌, arith}
use Rattle.std.specs.Prelude.{All}
use Rattle.std.proofs.lemmas.Result.{err_from_is_err_and}
use Rattle.hw_log.specs.Log.{entries_of}
use Rattle.hw_log.specs.Reader.{left_of}
use Rattle.hw_replay.specs.Replay.{taken_in}
use Rattle.hw_replay.specs.Chain.{told_chain}
use Rattle.hw_replay.specs.Told.{HasTaken}
use Rattle.hw_replay.proofs.FeedLaws.{fed_none, fed_more, grown_journal, grown_config, still_told, all_still, leads_on, lasts_on}
use Rattle.hw_replay.proofs.MidwayLaws.{read_none, read_more, next_on}
use Rattle.hw_replay.proofs.feed.feed_all.Goals as goal

pub entries-init : goal.entries-init
entries-init g c = record {
  ahead = λ tells. refl;
  lasts = λ tells. refl;
  read = λ tells. read_none _;
  reached = λ is. is;
  config = refl;
  room = c.requires.replay;
  fed = fed_none _ _;
  places = c.requires.room;
  passed = c.requires.passed;
  whole = λ taken. taken;
  about = refl;
  begun = refl;
  counted = refl;
  files = λ name. refl;
  appends = refl;
}

pub pass-requires-clause-passed : goal.pass-requires-clause-passed
pass-requires-clause-passed g c = still_told _ _ _ c.step.ensures.grows (omega (arith, c.entries.invariant.passed))

pub entries-preserved : goal.entries-preserved
entries-preserved g c =
    let taken = λ (b : _). (goal.Consumer-dyn g (b.vtable, b.value)).consumed b.value in
    record {
      ahead = λ tells. leads_on _ _ _ _ c.if-branch.true (c.in_ok-step.ensures.said tells) ∙ c.entries.invariant.ahead tells;
      lasts = λ tells. lasts_on _ _ _ _ c.if-branch.true (c.in_ok-step.ensures.lasts tells) ∙ c.entries.invariant.lasts tells;
      read = λ tells. read_more _ _ _ (c.entries.invariant.read tells) (next_on _ _ _ c.if-branch.true (c.in_ok-step.ensures.next tells));
      reached = λ is. c.step.ensures.reached (c.entries.invariant.reached is);
      config = grown_config _ _ c.step.ensures.grows ∙ c.entries.invariant.config;
      room = c.in_ok-step.ensures.room c.if-branch.true;
      fed = fed_more _ _ _ _ c.entries.invariant.fed (record { config = grown_config _ _ c.step.ensures.grows; grown = grown_journal _ _ c.step.ensures.grows; told = c.pass.ensures.told; passed = c.pass.ensures.passed });
      places = c.pass.ensures.room;
      passed = c.pass.ensures.passed;
      whole = λ first.
          let P : ℕ → Type 0 = λ n. All (λ b. HasTaken (told_chain c.step.new.self.core) n (taken b)) c.pass.new.consumers.items in
          subst P (sym c.pass.ensures.passed) (c.pass.ensures.whole (all_still taken _ _ _ _ c.step.ensures.grows (omega (arith, c.entries.invariant.passed)) (c.entries.invariant.whole first)));
      about = c.in_ok-step.ensures.about ∙ c.entries.invariant.about;
      begun = c.step.ensures.begun ∙ c.entries.invariant.begun;
      counted = c.in_ok-step.ensures.cause.counted ∙ c.entries.invariant.counted;
      files = λ name. c.step.ensures.files name ∙ c.entries.invariant.files name;
      appends = c.step.ensures.appends ∙ c.entries.invariant.appends;
    }

pub returns-in_err-step-clause-whole : goal.returns-in_err-step-clause-whole
returns-in_err-step-clause-whole g c = λ first.
    all_still (λ b. (goal.Consumer-dyn g (b.vtable, b.value)).consumed b.value) _ _ _ _ c.step.ensures.grows (omega (arith, c.entries.invariant.passed)) (c.entries.invariant.whole first)

pub returns-in_err-step-clause-part : goal.returns-in_err-step-clause-part
returns-in_err-step-clause-part g c =
    let p = err_from_is_err_and c.from_residual.result c.from_residual.ensures.1 in
    rw (p.1, p.2) (record {
      taken = taken_in c.entries.replay;
      rest = entries_of (left_of c.entries.replay.reader (g.F.Files.unread c.entries.files));
      came = λ tells. c.entries.invariant.read tells;
      stops = λ tells. c.in_err-step.ensures.next tells;
      fed = c.entries.invariant.fed;
    })
