use Rattle.std.proofs.Common.{[], ◌∷◌, sym, refl, arith, ◌∙◌}
use Rattle.std.proofs.lemmas.Result.{err_from_is_err_and}
use Rattle.hw_meeting.specs.declared.frame.MeetingFrame.TheVariants as frame
use Rattle.hw_meeting_node.proofs.SayLaws.{sent_at, sends_nothing, sends_next, sends_broken, sends_all, sends_both, sends_part, at_index}
use Rattle.hw_meeting_node.proofs.say.say_due.Goals as goal

pub loop-place-init : goal.loop-place-init
loop-place-init g c = record {
  sent = sends_nothing (g.D.Door.sessions c.args.door.now);
  session = c.requires.open;
  asks = refl;
  ends = refl;
  faults = refl;
  accepts = refl;
  dials = refl;
}

pub returns-in_err-send_vertex-clause-sent : goal.returns-in_err-send_vertex-clause-sent
returns-in_err-send_vertex-clause-sent g c =
    let l = c.loop-place in
    let p = err_from_is_err_and c.from_residual.result c.from_residual.ensures.1 in
    rw (p.1, p.2)
    (sends_part (Unit {0}) (sent_at c.args.core.now.journal c.args.places.now) (frame.Done ∷ []) (g.D.Door.sessions c.args.door.now) (g.D.Door.sessions c.send_vertex.new.door) c.in_err-send_vertex.field-0.0
    (sends_broken c.args.core.now.journal c.args.places.now (g.D.Door.sessions c.args.door.now) (g.D.Door.sessions l.door) (g.D.Door.sessions c.send_vertex.new.door) l.place-index l.invariant.sent _ c.journal_at.result.now
    (at_index c.args.places.now l.place-index 0 (omega (arith, c.loop-place-test.true))) (sym c.journal_at.ensures.vertex) c.in_err-send_vertex.field-0.0 c.in_err-send_vertex.ensures.sent))

pub loop-place-preserved : goal.loop-place-preserved
loop-place-preserved g c =
    let l = c.loop-place in
    let e = c.in_ok-send_vertex.ensures in
    record {
      sent =
          sends_next c.args.core.now.journal c.args.places.now (g.D.Door.sessions c.args.door.now) (g.D.Door.sessions l.door) (g.D.Door.sessions c.send_vertex.new.door) l.place-index l.invariant.sent _ c.journal_at.result.now
          (at_index c.args.places.now l.place-index 0 (omega (arith, c.loop-place-test.true))) (sym c.journal_at.ensures.vertex) e.sent;
      session = e.rest.there;
      asks = e.rest.asks ∙ l.invariant.asks;
      ends = e.rest.ends ∙ l.invariant.ends;
      faults = e.cause ∙ l.invariant.faults;
      accepts = e.rest.accepts ∙ l.invariant.accepts;
      dials = e.rest.dials ∙ l.invariant.dials;
    }

pub returns-clause-sent : goal.returns-clause-sent
returns-clause-sent g c =
    let l = c.loop-place in
    let old = g.D.Door.sessions c.args.door.now in
    let now = g.D.Door.sessions l.door in
    let new = g.D.Door.sessions c.send.new.door in
    sends_both (Unit {0}) (sent_at c.args.core.now.journal c.args.places.now) (frame.Done ∷ []) old now new c.send.result
    (sends_all c.args.core.now.journal c.args.places.now old now new l.place-index l.invariant.sent c.loop-place-test.false) c.send.ensures.sent
