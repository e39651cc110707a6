use Rattle.std.proofs.Common.{◌≡◌, ◌+◌, ◌-◌, List, [], ◌∷◌, ◌++◌, length, length-drop, take, drop, Ok, Err, Bool, false, ℕ, refl, sym, ap, subst, ◌∙◌, arith}
use Rattle.std.proofs.lemmas.Slice.{take-put_mid_below}
use Rattle.std.proofs.lemmas.List.{append-nil, length-take-le}
use borrow.Rule.Slice.PartMut.{put_mid}
use Rattle.hw_io.proofs.Windows.{take-read_behind, length-read_behind}
use Rattle.hw_link.specs.Links.{after_part, has_failed}
use Rattle.hw_link.proofs.LinkLaws.{after_nothing, read_on}
use Rattle.hw_link.proofs.HearsLaws.{failed_alike}
use Rattle.hw_link.specs.Asked.{IsAskedWithin}
use Rattle.hw_io.proofs.Asks.{asks_none}
use Rattle.hw_link.proofs.AskLaws.{read_asks}
use Rattle.hw_link.proofs.EndLaws.{no_end}
use Rattle.hw_link.proofs.fill.fill.Goals as goal

take_none : (xs : List ℕ) → take 0 xs ≡ []
take_none [] = refl
take_none (x ∷ xs) = refl

pub loop-end-init : goal.loop-end-init
loop-end-init g c = record {
  within = omega arith;
  room = c.requires.room;
  heard = sym (after_nothing (g.D.Door.sessions c.args.door.now));
  asks = asks_none (IsAskedWithin c.args.n (g.D.Door.sessions c.args.door.now)) (g.D.Door.asks c.args.door.now);
  session = c.requires.open;
  ends = refl;
  faults = refl;
  accepts = refl;
  dials = refl;
}

pub loop-end-preserved : goal.loop-end-preserved
loop-end-preserved g c =
    let l = c.loop-end in
    let room = c.args.n - l.end in
    let gave = c.read.new.buf in
    let count = c.in-Ok.count in
    let full : length gave ≡ room = c.read.auto.buf ∙ length-take-le room (drop l.end l.bytes) (omega (arith, length-drop l.end l.bytes, l.invariant.room)) in
    let front : take (l.end + count) _ ≡ take l.end l.bytes ++ take count gave = take-read_behind l.end room count l.bytes gave (omega (arith, l.invariant.within, l.invariant.room)) c.in-Ok.ensures.bound.0 in
    record {
      within = omega (arith, c.in-Ok.ensures.bound.0);
      room = (let long = length-read_behind l.end room (length gave) l.bytes gave (omega (arith, l.invariant.within, l.invariant.room)) (omega arith) in omega (arith, long));
      heard = subst (λ (xs : List ℕ). g.D.Door.sessions c.read.new.self ≡ after_part xs [] false (g.D.Door.sessions c.args.door.now)) (sym front)
          (read_on (g.D.Door.is_open l.door) l.invariant.session (Ok count) gave (take l.end l.bytes) (g.D.Door.sessions c.args.door.now) (g.D.Door.sessions l.door) (g.D.Door.sessions c.read.new.self) l.invariant.heard c.in-Ok.ensures.sessions);
      asks = read_asks c.args.n (g.D.Door.sessions c.args.door.now) (g.D.Door.sessions l.door) (take l.end l.bytes) l.invariant.heard (omega (arith, length-take-le l.end l.bytes (omega (arith, l.invariant.within, l.invariant.room)), c.loop-end-test.true))
          (g.D.Door.asks c.args.door.now) (g.D.Door.asks l.door) (g.D.Door.asks c.read.new.self) l.invariant.asks c.in-Ok.ensures.asks;
      session = c.in-Ok.ensures.session ∙ l.invariant.session;
      ends = c.in-Ok.ensures.ends ∙ no_end count (g.D.Door.ends l.door) gave c.in-Ok.count-test.1 ∙ l.invariant.ends;
      faults = c.in-Ok.ensures.cause.failed ∙ l.invariant.faults;
      accepts = c.in-Ok.ensures.accepts ∙ l.invariant.accepts;
      dials = c.in-Ok.ensures.dials ∙ l.invariant.dials;
    }

pub returns-in-Err-clause-heard : goal.returns-in-Err-clause-heard
returns-in-Err-clause-heard g c =
    let l = c.loop-end in
    let room = c.args.n - l.end in
    let gave = c.read.new.buf in
    let o = g.D.Door.sessions c.args.door.now in
    let fault = c.in-Err.fault in
    let same : take l.end (put_mid l.end room l.bytes gave) ≡ take l.end l.bytes = take-put_mid_below l.end room l.bytes gave l.end (omega arith) (omega (arith, l.invariant.within, l.invariant.room)) in
    let on = read_on (g.D.Door.is_open l.door) l.invariant.session (Err fault) gave (take l.end l.bytes) o (g.D.Door.sessions l.door) (g.D.Door.sessions c.read.new.self) l.invariant.heard c.in-Err.ensures.sessions in
    on
    ∙ ap (λ (xs : List ℕ). after_part xs [] (has_failed {T = ℕ} (Err fault)) o) (append-nil (take l.end l.bytes) ∙ sym same)
    ∙ ap (λ (b : Bool). after_part (take l.end (put_mid l.end room l.bytes gave)) [] b o) (failed_alike ℕ (Unit {0}) fault)

pub returns-in-Ok-eq0-clause-heard : goal.returns-in-Ok-eq0-clause-heard
returns-in-Ok-eq0-clause-heard g c =
    let l = c.loop-end in
    let room = c.args.n - l.end in
    let gave = c.read.new.buf in
    let o = g.D.Door.sessions c.args.door.now in
    let n = c.in-Ok-eq0.field-0 in
    let same : take l.end (put_mid l.end room l.bytes gave) ≡ take l.end l.bytes = take-put_mid_below l.end room l.bytes gave l.end (omega arith) (omega (arith, l.invariant.within, l.invariant.room)) in
    let none : take n gave ≡ [] = ap (λ (k : ℕ). take k gave) c.in-Ok-eq0.field-0-test ∙ take_none gave in
    let on = read_on (g.D.Door.is_open l.door) l.invariant.session (Ok n) gave (take l.end l.bytes) o (g.D.Door.sessions l.door) (g.D.Door.sessions c.read.new.self) l.invariant.heard c.in-Ok-eq0.ensures.sessions in
    on
    ∙ ap (λ (xs : List ℕ). after_part (take l.end l.bytes ++ xs) [] false o) none
    ∙ ap (λ (xs : List ℕ). after_part xs [] false o) (append-nil (take l.end l.bytes) ∙ sym same)

pub returns-in-Err-clause-asks : goal.returns-in-Err-clause-asks
returns-in-Err-clause-asks g c =
    let l = c.loop-end in
    read_asks c.args.n (g.D.Door.sessions c.args.door.now) (g.D.Door.sessions l.door) (take l.end l.bytes) l.invariant.heard (omega (arith, length-take-le l.end l.bytes (omega (arith, l.invariant.within, l.invariant.room)), c.loop-end-test.true))
    (g.D.Door.asks c.args.door.now) (g.D.Door.asks l.door) (g.D.Door.asks c.read.new.self) l.invariant.asks c.in-Err.ensures.asks

pub returns-in-Ok-eq0-clause-asks : goal.returns-in-Ok-eq0-clause-asks
returns-in-Ok-eq0-clause-asks g c =
    let l = c.loop-end in
    read_asks c.args.n (g.D.Door.sessions c.args.door.now) (g.D.Door.sessions l.door) (take l.end l.bytes) l.invariant.heard (omega (arith, length-take-le l.end l.bytes (omega (arith, l.invariant.within, l.invariant.room)), c.loop-end-test.true))
    (g.D.Door.asks c.args.door.now) (g.D.Door.asks l.door) (g.D.Door.asks c.read.new.self) l.invariant.asks c.in-Ok-eq0.ensures.asks
