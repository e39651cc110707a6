use Rattle.std.proofs.Common.{List, [], take, drop, Ok, false, ℕ, refl, sym, ap, ◌∙◌, arith, length-drop}
use Rattle.std.proofs.Math.Seq.{take-add}
use Rattle.std.proofs.lemmas.List.{take_rest}
use Rattle.std.proofs.lemmas.Result.{err_from_is_err_and}
use Rattle.hw_link.specs.Links.{after_part}
use Rattle.hw_link.proofs.LinkLaws.{after_nothing, write_on}
use Rattle.hw_link.proofs.SentLaws.{sends_first}
use Rattle.hw_link.proofs.send.send_all.Goals as goal

pub loop-done-init : goal.loop-done-init
loop-done-init g c = record {
  within = omega arith;
  told = sym (after_nothing (g.D.Door.sessions c.args.door.now));
  session = c.requires.open;
  asks = refl;
  ends = refl;
  faults = refl;
  accepts = refl;
  dials = refl;
}

pub loop-done-preserved : goal.loop-done-preserved
loop-done-preserved g c =
    let l = c.loop-done in
    let n = c.in_ok-done.field-0 in
    let bytes = c.args.bytes.now in
    let o = g.D.Door.sessions c.args.door.now in
    let wrote = rw take_rest at c.in_ok-done.ensures.sessions in
    let some = rw take_rest at c.in_ok-done.ensures.some in
    let on = write_on (g.D.Door.is_open l.door) l.invariant.session (Ok n) (drop l.done bytes) (take l.done bytes) o (g.D.Door.sessions l.door) (g.D.Door.sessions c.write.new.self) l.invariant.told wrote in
    record {
      within = omega (arith, length-drop l.done bytes, some.0);
      told = on ∙ ap (λ (xs : List ℕ). after_part [] xs false o) (sym (take-add l.done n bytes));
      session = c.in_ok-done.ensures.session ∙ l.invariant.session;
      asks = c.in_ok-done.ensures.asks ∙ l.invariant.asks;
      ends = c.in_ok-done.ensures.ends ∙ l.invariant.ends;
      faults = c.in_ok-done.ensures.cause.failed ∙ l.invariant.faults;
      accepts = c.in_ok-done.ensures.accepts ∙ l.invariant.accepts;
      dials = c.in_ok-done.ensures.dials ∙ l.invariant.dials;
    }

pub returns-in_err-done-clause-sent : goal.returns-in_err-done-clause-sent
returns-in_err-done-clause-sent g c =
    let l = c.loop-done in
    let bytes = c.args.bytes.now in
    let fault = c.in_err-done.field-0.0 in
    let p = err_from_is_err_and c.from_residual.result c.from_residual.ensures.1 in
    rw (p.1, p.2) (sends_first bytes _ l.done (g.D.Door.is_open l.door) l.invariant.session fault (g.D.Door.sessions c.args.door.now) (g.D.Door.sessions l.door) (g.D.Door.sessions c.write.new.self) l.invariant.told c.in_err-done.ensures.sessions)
