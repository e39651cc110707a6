use Rattle.std.proofs.Common.{length, Some, inr, sym, ap, ◌∙◌}
use Rattle.std.proofs.lemmas.Result.{err_from_is_err_and}
use Rattle.hw_replay.specs.declared.replay.Replay.{Replay}
use Rattle.hw_replay.specs.Taken.{Taken}
use Rattle.hw_replay.proofs.BeginLaws.{replays_not}
use Rattle.hw_replay.proofs.CauseLaws.{about_carries, cause_carries}
use Rattle.hw_replay.proofs.EndLaws.{no_ok}
use Rattle.hw_replay.specs.Chain.{told_chain}
use Rattle.hw_replay.proofs.FeedLaws.{none_told, fed_first, fed_to, fed_until}
use Rattle.hw_replay.proofs.feed.replay_fed.Goals as goal

pub feed_all-requires-clause-passed : goal.feed_all-requires-clause-passed
feed_all-requires-clause-passed g c =
    c.requires.passed ∙ sym (ap length (ap told_chain (ap (λ (t : Taken). t.core) c.in_ok-replay.ensures.empty) ∙ none_told c.in_ok-replay.replay.core.config))

pub returns-in_err-feed_all-clause-said : goal.returns-in_err-feed_all-clause-said
returns-in_err-feed_all-clause-said g c =
    let p = err_from_is_err_and c.from_residual-in_err-feed_all.result c.from_residual-in_err-feed_all.ensures.1 in
    λ tells. rw (p.1, p.2) (replays_not _ _ _ _ _ (c.in_ok-replay.ensures.said tells) (c.in_err-feed_all.ensures.said tells))

pub returns-in_err-feed_all-clause-lasts : goal.returns-in_err-feed_all-clause-lasts
returns-in_err-feed_all-clause-lasts g c =
    let p = err_from_is_err_and c.from_residual-in_err-feed_all.result c.from_residual-in_err-feed_all.ensures.1 in
    λ tells. no_ok c.from_residual-in_err-feed_all.result _ _ p.1

pub returns-in_err-feed_all-clause-reached : goal.returns-in_err-feed_all-clause-reached
returns-in_err-feed_all-clause-reached g c =
    let p = err_from_is_err_and c.from_residual-in_err-feed_all.result c.from_residual-in_err-feed_all.ensures.1 in
    no_ok c.from_residual-in_err-feed_all.result _ _ p.1

pub returns-in_err-feed_all-clause-wanted : goal.returns-in_err-feed_all-clause-wanted
returns-in_err-feed_all-clause-wanted g c =
    let p = err_from_is_err_and c.from_residual-in_err-feed_all.result c.from_residual-in_err-feed_all.ensures.1 in
    no_ok c.from_residual-in_err-feed_all.result _ _ p.1

pub returns-in_err-feed_all-clause-fed : goal.returns-in_err-feed_all-clause-fed
returns-in_err-feed_all-clause-fed g c =
    let p = err_from_is_err_and c.from_residual-in_err-feed_all.result c.from_residual-in_err-feed_all.ensures.1 in
    no_ok c.from_residual-in_err-feed_all.result _ _ p.1

pub returns-in_err-feed_all-clause-whole : goal.returns-in_err-feed_all-clause-whole
returns-in_err-feed_all-clause-whole g c =
    let p = err_from_is_err_and c.from_residual-in_err-feed_all.result c.from_residual-in_err-feed_all.ensures.1 in
    λ first. no_ok c.from_residual-in_err-feed_all.result _ _ p.1

pub returns-in_err-feed_all-clause-stopped : goal.returns-in_err-feed_all-clause-stopped
returns-in_err-feed_all-clause-stopped g c =
    let p = err_from_is_err_and c.from_residual-in_err-feed_all.result c.from_residual-in_err-feed_all.ensures.1 in
    rw p.1 (inr (fed_until _ _ _ _ _ _ _ _ (fed_to _ _ _ _ _ _ _ _ _ _ c.in_ok-replay.ensures.midway (ap (λ (t : Taken). t.core) c.in_ok-replay.ensures.empty) c.in_err-feed_all.ensures.part)))

pub returns-in_err-feed_all-clause-part : goal.returns-in_err-feed_all-clause-part
returns-in_err-feed_all-clause-part g c =
    let p = err_from_is_err_and c.from_residual-in_err-feed_all.result c.from_residual-in_err-feed_all.ensures.1 in
    rw (p.1, p.2) (inr (fed_to _ _ _ _ _ _ _ _ _ _ c.in_ok-replay.ensures.midway (ap (λ (t : Taken). t.core) c.in_ok-replay.ensures.empty) c.in_err-feed_all.ensures.part))

pub returns-in_err-feed_all-clause-cause : goal.returns-in_err-feed_all-clause-cause
returns-in_err-feed_all-clause-cause g c =
    let p = err_from_is_err_and c.from_residual-in_err-feed_all.result c.from_residual-in_err-feed_all.ensures.1 in
    rw (p.1, p.2) (cause_carries Replay _ _ _ c.feed_all.result _ c.in_ok-replay.ensures.cause.counted c.in_err-feed_all.was c.feed_all.ensures.cause)

pub returns-in_err-feed_all-clause-about : goal.returns-in_err-feed_all-clause-about
returns-in_err-feed_all-clause-about g c =
    let p = err_from_is_err_and c.from_residual-in_err-feed_all.result c.from_residual-in_err-feed_all.ensures.1 in
    λ tells. rw (p.1, p.2) (about_carries Replay _ _ _ _ _ c.feed_all.result _ (c.in_ok-replay.ensures.subject tells) (c.in_ok-replay.ensures.about tells) c.in_err-feed_all.was c.feed_all.ensures.about)

pub returns-clause-fed : goal.returns-clause-fed
returns-clause-fed g c = fed_first _ _ _ _ _ (ap (λ (t : Taken). t.core) c.in_ok-replay.ensures.empty) c.in_ok-feed_all.ensures.fed
