use Rattle.std.proofs.Common.{◌≡◌, ◌-◌, suc, Some, length, sym, ap, ◌∙◌}
use Rattle.std.specs.Prelude.{is_ok}
use Rattle.hw_io.specs.Doors.{Session, Ask, ask_in, ask_of, IsAskedNow}
use Rattle.hw_doubles.specs.Memory.{watched_sessions, watched_asks}
use Rattle.hw_doubles.proofs.Kept.{ask_of-at, one_more, asks_kept}
use Rattle.hw_doubles.proofs.watched.WatchedDoor.keep_ask.Goals as goal

pub returns-in-Ok-clause-asks : goal.returns-in-Ok-clause-asks
returns-in-Ok-clause-asks c =
    let there = c.sessions.result.now in
    let n = length c.sessions-count.result.now - 1 in
    let same = ap length (c.sessions.ensures ∙ sym c.sessions-count.ensures) in
    let count : length there ≡ suc n = same ∙ one_more (length c.sessions-count.result.now) c.if-count-eq0.false in
    let is : ask_of (watched_sessions c.args.self.now) ≡ Some c.in-Ok.ask =
    ap ask_of (sym c.sessions.ensures) ∙ ask_of-at there n c.index-sessions-count.result count
    ∙ ap (λ (session : Session). Some (ask_in session)) (sym c.index-sessions-count.is) ∙ ap (λ (ask : Ask). Some ask) (sym c.in-Ok.ensures) in
    asks_kept (IsAskedNow (Some (watched_sessions c.args.self.now))) (watched_asks c.args.self.now) c.in-Ok.ask (is_ok c.push-kept.result) c.push-kept.new.self.items c.push-kept.ensures.items is
