use Rattle.std.proofs.Common.{◌≡◌, ◌+◌, ◌<◌, ℕ, List, [], ◌++◌, length, take, drop, Result, Ok, refl, sym, ap, subst, ◌∙◌, arith, length-append}
use Rattle.std.specs.Int.{w32, from_be_bytes}
use Rattle.std.proofs.lemmas.List.{length-take-le, take-append-le}
use Rattle.std.proofs.lemmas.Result.{err_from_is_err_and}
use Rattle.hw_io.specs.declared.outside.IoFault.{IoFault}
use Rattle.hw_io.specs.Faults.{HasCause}
use Rattle.hw_link.specs.Frames.{byte_limit, body_here}
use Rattle.hw_link.specs.Links.{after_part, has_failed}
use Rattle.hw_link.specs.Heard.{HearsBy, IsBody}
use Rattle.hw_link.proofs.FrameReadLaws.{cut_body}
use Rattle.hw_link.proofs.LinkLaws.{after_nothing}
use Rattle.hw_link.proofs.HearsLaws.{hears_cut, hears_fault, hears_nothing, hears_whole, cut_uncounted, not_at_limit}
use Rattle.hw_link.specs.Asked.{IsAskedInside}
use Rattle.hw_io.proofs.Asks.{asks_none}
use Rattle.hw_link.proofs.AskLaws.{behind_asks}
use Rattle.hw_link.proofs.body.read_behind.Goals as goal

pub returns-in_err-filled-clause-heard : goal.returns-in_err-filled-clause-heard
returns-in_err-filled-clause-heard g c =
    let f = c.fill-filled in
    let front = c.args.front in
    let part = take f.result.end f.new.bytes in
    let size : length part ≡ f.result.end = length-take-le f.result.end f.new.bytes (omega (arith, f.ensures.within, f.ensures.room)) in
    let short = rw c.in_err-filled.was at f.ensures.short in
    let few : length part < from_be_bytes w32 front = omega (arith, short, c.room_behind-room.ensures.most, c.from_be_bytes-length.ensures) in
    let heard = ap (λ (o : Result (Unit {0}) IoFault). after_part part [] (has_failed o) (g.D.Door.sessions c.args.door.now)) c.in_err-filled.was in
    let p = err_from_is_err_and c.from_residual-in_err-filled.result c.from_residual-in_err-filled.ensures.1 in
    rw (p.1, p.2)
    (hears_fault body_here IsBody c.args.place front part (g.D.Door.sessions c.args.door.now) (g.D.Door.sessions f.new.door) (g.D.Door.ends c.args.door.now) (g.D.Door.ends f.new.door)
    (omega (arith, f.ensures.within, c.room_behind-room.ensures.within, length-append front part, c.requires.front.four)) c.in_err-filled.field-0.0 (f.ensures.heard ∙ heard) (cut_body Ok c.args.place front part c.requires.front few))

pub returns-then-filled-length-clause-heard : goal.returns-then-filled-length-clause-heard
returns-then-filled-length-clause-heard g c =
    let f = c.fill-filled in
    let front = c.args.front in
    let part = take f.result.end f.new.bytes in
    let size : length part ≡ f.result.end = length-take-le f.result.end f.new.bytes (omega (arith, f.ensures.within, f.ensures.room)) in
    let both : length (front ++ part) ≡ 4 + f.result.end = length-append front part ∙ ap (λ n. n + length part) c.requires.front.four ∙ ap (λ n. 4 + n) size in
    let few : length part < from_be_bytes w32 front = omega (arith, c.if-filled-length.true, c.from_be_bytes-length.ensures) in
    let heard = ap (λ (o : Result (Unit {0}) IoFault). after_part part [] (has_failed o) (g.D.Door.sessions c.args.door.now)) c.in_ok-filled.was in
    rw (c.cut_end.ensures (front ++ part) both)
    (hears_cut body_here IsBody c.args.place front part (g.D.Door.sessions c.args.door.now) (g.D.Door.sessions f.new.door) (g.D.Door.ends c.args.door.now) (g.D.Door.ends f.new.door)
    (omega (arith, f.ensures.within, c.room_behind-room.ensures.within, both))
    (f.ensures.heard ∙ heard)
    (cut_body Ok c.args.place front part c.requires.front few)
    (λ (short : c.args.place + length (front ++ part) < byte_limit). rw c.in_ok-filled.was at f.ensures.ended (not_at_limit (c.args.place + 4) f.result.end c.room_behind-room.result c.from_be_bytes-length.result f.ensures.within c.room_behind-room.ensures.reached c.if-filled-length.true (omega (arith, short, both)))))

pub returns-then-filled-length-clause-cause : goal.returns-then-filled-length-clause-cause
returns-then-filled-length-clause-cause g c =
    let f = c.fill-filled in
    let front = c.args.front in
    let part = take f.result.end f.new.bytes in
    let size : length part ≡ f.result.end = length-take-le f.result.end f.new.bytes (omega (arith, f.ensures.within, f.ensures.room)) in
    let both : length (front ++ part) ≡ 4 + f.result.end = length-append front part ∙ ap (λ n. n + length part) c.requires.front.four ∙ ap (λ n. 4 + n) size in
    let cause = subst (λ (o : Result (Unit {0}) IoFault). HasCause (g.D.Door.faults c.args.door.now) (g.D.Door.faults f.new.door) o) c.in_ok-filled.was f.ensures.cause in
    rw (c.cut_end.ensures (front ++ part) both) (cut_uncounted (List ℕ) c.args.place (front ++ part) (g.D.Door.faults c.args.door.now) (g.D.Door.faults f.new.door) cause.failed)

pub returns-clause-heard : goal.returns-clause-heard
returns-clause-heard g c =
    let f = c.fill-filled in
    let front = c.args.front in
    let part = take f.result.end f.new.bytes in
    let size : length part ≡ f.result.end = length-take-le f.result.end f.new.bytes (omega (arith, f.ensures.within, f.ensures.room)) in
    let whole : c.in_ok-body.body.len ≡ f.result.end = omega (arith, c.in_ok-body.ensures.len, f.ensures.within, c.room_behind-room.ensures.most, c.if-filled-length.false) in
    let is : c.from_vec.result ≡ part =
    c.from_vec.ensures
    ∙ take-append-le c.in_ok-body.body.len f.new.bytes (drop (length f.new.bytes) c.in_ok-body.body.items) (omega (arith, whole, f.ensures.within, f.ensures.room))
    ∙ ap (λ n. take n f.new.bytes) whole in
    let heard = ap (λ (o : Result (Unit {0}) IoFault). after_part part [] (has_failed o) (g.D.Door.sessions c.args.door.now)) c.in_ok-filled.was in
    let both : length (front ++ part) ≡ 4 + f.result.end = length-append front part ∙ ap (λ n. n + length part) c.requires.front.four ∙ ap (λ n. 4 + n) size in
    subst (λ (xs : List ℕ). HearsBy body_here IsBody c.args.place front (g.D.Door.sessions c.args.door.now) (g.D.Door.sessions f.new.door) (g.D.Door.ends c.args.door.now) (g.D.Door.ends f.new.door) (Ok xs)) (sym is)
    (hears_whole body_here IsBody c.args.place front part (g.D.Door.sessions c.args.door.now) (g.D.Door.sessions f.new.door) (g.D.Door.ends c.args.door.now) (g.D.Door.ends f.new.door)
    (omega (arith, both, f.ensures.within, c.room_behind-room.ensures.within)) part
    (f.ensures.heard ∙ heard)
    (record { front = front; split = refl; is_length = c.requires.front; size = omega (arith, size, c.from_be_bytes-length.ensures, f.ensures.within, c.room_behind-room.ensures.most, c.if-filled-length.false) })
    (rw c.in_ok-filled.was at f.ensures.full (omega (arith, c.room_behind-room.ensures.most, c.if-filled-length.false))))

pub returns-in_err-body-clause-heard : goal.returns-in_err-body-clause-heard
returns-in_err-body-clause-heard g c =
    let p = err_from_is_err_and c.from_residual.result c.from_residual.ensures.1 in
    rw (p.1, p.2)
    (hears_nothing body_here IsBody c.args.place c.args.front [] (g.D.Door.sessions c.args.door.now) (g.D.Door.sessions c.args.door.now) (g.D.Door.ends c.args.door.now) (g.D.Door.ends c.args.door.now)
    (omega (arith, length-append c.args.front [], c.requires.front.four, c.requires.place)) (sym (after_nothing (g.D.Door.sessions c.args.door.now))))

pub returns-in_err-filled-clause-asks : goal.returns-in_err-filled-clause-asks
returns-in_err-filled-clause-asks g c =
    let f = c.fill-filled in
    behind_asks c.args.place c.room_behind-room.result c.args.front (g.D.Door.sessions c.args.door.now) c.requires.front (omega (arith, c.room_behind-room.ensures.most, c.from_be_bytes-length.ensures)) c.room_behind-room.ensures.within
    (g.D.Door.asks c.args.door.now) (g.D.Door.asks f.new.door) f.ensures.asks

pub returns-then-filled-length-clause-asks : goal.returns-then-filled-length-clause-asks
returns-then-filled-length-clause-asks g c =
    let f = c.fill-filled in
    behind_asks c.args.place c.room_behind-room.result c.args.front (g.D.Door.sessions c.args.door.now) c.requires.front (omega (arith, c.room_behind-room.ensures.most, c.from_be_bytes-length.ensures)) c.room_behind-room.ensures.within
    (g.D.Door.asks c.args.door.now) (g.D.Door.asks f.new.door) f.ensures.asks

pub returns-clause-asks : goal.returns-clause-asks
returns-clause-asks g c =
    let f = c.fill-filled in
    behind_asks c.args.place c.room_behind-room.result c.args.front (g.D.Door.sessions c.args.door.now) c.requires.front (omega (arith, c.room_behind-room.ensures.most, c.from_be_bytes-length.ensures)) c.room_behind-room.ensures.within
    (g.D.Door.asks c.args.door.now) (g.D.Door.asks f.new.door) f.ensures.asks

pub returns-in_err-body-clause-asks : goal.returns-in_err-body-clause-asks
returns-in_err-body-clause-asks g c = asks_none (IsAskedInside body_here c.args.place c.args.front (g.D.Door.sessions c.args.door.now)) (g.D.Door.asks c.args.door.now)
