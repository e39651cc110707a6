use Rattle.std.proofs.Common.{◌≡◌, ◌+◌, ◌<◌, ℕ, List, [], length, take, Ok, Err, Result, false, sym, ap, subst, ◌∙◌, arith}
use Rattle.std.proofs.lemmas.List.{length-take-le, take_all}
use Rattle.std.proofs.lemmas.Result.{err_from_is_err_and}
use Rattle.hw_io.specs.declared.outside.IoFault.{IoFault}
use Rattle.hw_io.specs.Faults.{HasCause}
use Rattle.hw_link.specs.declared.end.SessionEnd.{SessionEnd}
use Rattle.hw_link.specs.Frames.{byte_limit, body_here}
use Rattle.hw_link.specs.Links.{after_part, has_failed}
use Rattle.hw_link.specs.Heard.{HearsBy, IsFrontOf}
use Rattle.hw_link.proofs.FrameReadLaws.{cut_length}
use Rattle.hw_link.proofs.HearsLaws.{hears_cut, hears_fault, hears_front, cut_uncounted, not_at_limit}
use Rattle.hw_link.proofs.AskLaws.{front_asks}
use Rattle.hw_link.proofs.body.read_front.Goals as goal

pub returns-then-filled-lt-FRONT-clause-heard : goal.returns-then-filled-lt-FRONT-clause-heard
returns-then-filled-lt-FRONT-clause-heard g c =
    let f = c.fill-filled in
    let part = take f.result.end f.new.bytes in
    let size : length part ≡ f.result.end = length-take-le f.result.end f.new.bytes (omega (arith, f.ensures.within, f.ensures.room)) in
    let few : length part < 4 = omega (arith, c.if-filled-lt-FRONT.true) in
    let heard = ap (λ (o : Result (Unit {0}) IoFault). after_part part [] (has_failed o) (g.D.Door.sessions c.args.door.now)) c.in_ok-filled.was in
    subst (λ (e : SessionEnd). HearsBy body_here IsFrontOf c.args.place [] (g.D.Door.sessions c.args.door.now) (g.D.Door.sessions f.new.door) (g.D.Door.ends c.args.door.now) (g.D.Door.ends f.new.door) (Err e)) (sym (c.cut_end.ensures part size))
    (hears_cut body_here IsFrontOf c.args.place [] part (g.D.Door.sessions c.args.door.now) (g.D.Door.sessions f.new.door) (g.D.Door.ends c.args.door.now) (g.D.Door.ends f.new.door)
    (omega (arith, f.ensures.within, c.room_behind-room.ensures.within))
    (f.ensures.heard ∙ heard)
    (cut_length Ok c.args.place part few)
    (λ (short : c.args.place + length part < byte_limit). rw c.in_ok-filled.was at f.ensures.ended (not_at_limit c.args.place f.result.end c.room_behind-room.result 4 f.ensures.within c.room_behind-room.ensures.reached c.if-filled-lt-FRONT.true (omega (arith, short, size)))))

pub returns-then-filled-lt-FRONT-clause-cause : goal.returns-then-filled-lt-FRONT-clause-cause
returns-then-filled-lt-FRONT-clause-cause g c =
    let f = c.fill-filled in
    let part = take f.result.end f.new.bytes in
    let size : length part ≡ f.result.end = length-take-le f.result.end f.new.bytes (omega (arith, f.ensures.within, f.ensures.room)) in
    let cause = subst (λ (o : Result (Unit {0}) IoFault). HasCause (g.D.Door.faults c.args.door.now) (g.D.Door.faults f.new.door) o) c.in_ok-filled.was f.ensures.cause in
    rw (c.cut_end.ensures part size) (cut_uncounted (List ℕ) c.args.place part (g.D.Door.faults c.args.door.now) (g.D.Door.faults f.new.door) cause.failed)

pub returns-in_err-filled-clause-heard : goal.returns-in_err-filled-clause-heard
returns-in_err-filled-clause-heard g c =
    let f = c.fill-filled in
    let part = take f.result.end f.new.bytes in
    let size : length part ≡ f.result.end = length-take-le f.result.end f.new.bytes (omega (arith, f.ensures.within, f.ensures.room)) in
    let short = rw c.in_err-filled.was at f.ensures.short in
    let few : length part < 4 = omega (arith, short, c.room_behind-room.ensures.most) in
    let heard = ap (λ (o : Result (Unit {0}) IoFault). after_part part [] (has_failed o) (g.D.Door.sessions c.args.door.now)) c.in_err-filled.was in
    let p = err_from_is_err_and c.from_residual.result c.from_residual.ensures.1 in
    rw (p.1, p.2)
    (hears_fault body_here IsFrontOf c.args.place [] part (g.D.Door.sessions c.args.door.now) (g.D.Door.sessions f.new.door) (g.D.Door.ends c.args.door.now) (g.D.Door.ends f.new.door)
    (omega (arith, f.ensures.within, c.room_behind-room.ensures.within)) c.in_err-filled.field-0.0 (f.ensures.heard ∙ heard) (cut_length Ok c.args.place part few))

pub returns-clause-heard : goal.returns-clause-heard
returns-clause-heard g c =
    let f = c.fill-filled in
    let front = f.new.bytes in
    let four : length front ≡ 4 = f.auto.bytes in
    let all : take f.result.end front ≡ front = take_all f.result.end front (omega (arith, c.if-filled-lt-FRONT.false)) in
    let heard = ap (λ (o : Result (Unit {0}) IoFault). after_part (take f.result.end front) [] (has_failed o) (g.D.Door.sessions c.args.door.now)) c.in_ok-filled.was in
    let whole = ap (λ (xs : List ℕ). after_part xs [] false (g.D.Door.sessions c.args.door.now)) all in
    hears_front c.args.place front (g.D.Door.sessions c.args.door.now) (g.D.Door.sessions f.new.door) (g.D.Door.ends c.args.door.now) (g.D.Door.ends f.new.door) c.checked_front.result c.checked_front.ensures four
    (omega (arith, f.ensures.within, c.room_behind-room.ensures.within, c.if-filled-lt-FRONT.false))
    (f.ensures.heard ∙ heard ∙ whole)
    (rw c.in_ok-filled.was at f.ensures.full (omega (arith, c.room_behind-room.ensures.most, c.if-filled-lt-FRONT.false)))

pub returns-in_err-filled-clause-asks : goal.returns-in_err-filled-clause-asks
returns-in_err-filled-clause-asks g c =
    let f = c.fill-filled in
    front_asks c.args.place c.room_behind-room.result (g.D.Door.sessions c.args.door.now) c.room_behind-room.ensures.most c.room_behind-room.ensures.within (g.D.Door.asks c.args.door.now) (g.D.Door.asks f.new.door) f.ensures.asks

pub returns-then-filled-lt-FRONT-clause-asks : goal.returns-then-filled-lt-FRONT-clause-asks
returns-then-filled-lt-FRONT-clause-asks g c =
    let f = c.fill-filled in
    front_asks c.args.place c.room_behind-room.result (g.D.Door.sessions c.args.door.now) c.room_behind-room.ensures.most c.room_behind-room.ensures.within (g.D.Door.asks c.args.door.now) (g.D.Door.asks f.new.door) f.ensures.asks

pub returns-clause-asks : goal.returns-clause-asks
returns-clause-asks g c =
    let f = c.fill-filled in
    front_asks c.args.place c.room_behind-room.result (g.D.Door.sessions c.args.door.now) c.room_behind-room.ensures.most c.room_behind-room.ensures.within (g.D.Door.asks c.args.door.now) (g.D.Door.asks f.new.door) f.ensures.asks
