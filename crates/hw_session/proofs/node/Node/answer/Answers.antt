use Rattle.std.proofs.Common.{List, Ok, Err, sym, ap, subst}
use Rattle.hw_types.specs.declared.unit.Need.{Need}
use Rattle.hw_types.specs.declared.answers.Frame.{Frame}
use Rattle.hw_link.specs.declared.end.SessionEnd.TheVariants as end
use Rattle.hw_link.specs.Frames.{sent_bytes}
use Rattle.hw_link.specs.Sent.{Sends}
use Rattle.hw_session.specs.Node.{NodeState}
use Rattle.hw_session.specs.Serving.{answer_to_want, serve_frame}
use Rattle.hw_session.specs.Handling.{Reacts}
use Rattle.hw_session.specs.Standing.{standing}
use Rattle.hw_session.proofs.NextLaws.{first_reacts, later_reacts, hello_refused, missing_passed, have_reacts, want_reacts, done_reacts}
use Rattle.hw_session.proofs.node.Node.answer.Goals as goal

pub returns-then-place-eq0-clause-reacts : goal.returns-then-place-eq0-clause-reacts
returns-then-place-eq0-clause-reacts g c =
    let f = g.F.Files in
    first_reacts c.args.self.now c.args.place c.args.frame f.tells (f.held c.args.files.now) (f.held c.args.files.now) (g.D.Door.sessions c.args.door.now) (g.D.Door.sessions c.answer_first.new.door) c.answer_first.result c.if-place-eq0.true c.answer_first.ensures.answers

pub returns-in-Vertex-clause-reacts : goal.returns-in-Vertex-clause-reacts
returns-in-Vertex-clause-reacts g c =
    let f = g.F.Files in
    let n = c.args.self.now in
    let held = f.held c.args.files.now in
    let old = g.D.Door.sessions c.args.door.now in
    let At : Frame → Type 0 = λ x. Reacts {T = Unit {0}} f.tells (standing n held) x (serve_frame n c.args.place x) (standing c.answer_vertex.new.self (f.held c.answer_vertex.new.files)) old (g.D.Door.sessions c.answer_vertex.new.door) c.answer_vertex.result in
    later_reacts n c.args.place c.args.frame f.tells held (f.held c.answer_vertex.new.files) old (g.D.Door.sessions c.answer_vertex.new.door) c.answer_vertex.result c.answer_vertex.new.self c.if-place-eq0.false
    (subst At (sym c.in-Vertex.is) (c.answer_vertex.ensures.reacts))

pub returns-in-Hello-clause-reacts : goal.returns-in-Hello-clause-reacts
returns-in-Hello-clause-reacts g c =
    let f = g.F.Files in
    let n = c.args.self.now in
    let held = f.held c.args.files.now in
    let old = g.D.Door.sessions c.args.door.now in
    let At : Frame → Type 0 = λ x. Reacts {T = Unit {0}} f.tells (standing n held) x (serve_frame n c.args.place x) (standing n held) old old (Err (end.BadFrame c.args.place)) in
    later_reacts n c.args.place c.args.frame f.tells held held old old (Err (end.BadFrame c.args.place)) n c.if-place-eq0.false
    (subst At (sym c.in-Hello.is) (hello_refused n c.args.place f.tells held c.in-Hello._instance old))

pub returns-in-Have-clause-reacts : goal.returns-in-Have-clause-reacts
returns-in-Have-clause-reacts g c =
    let f = g.F.Files in
    let n = c.args.self.now in
    let held = f.held c.args.files.now in
    let old = g.D.Door.sessions c.args.door.now in
    let At : Frame → Type 0 = λ x. Reacts {T = Unit {0}} f.tells (standing n held) x (serve_frame n c.args.place x) (standing n held) old (g.D.Door.sessions c.answer_have.new.door) c.answer_have.result in
    later_reacts n c.args.place c.args.frame f.tells held held old (g.D.Door.sessions c.answer_have.new.door) c.answer_have.result n c.if-place-eq0.false
    (subst At (sym c.in-Have.is) (have_reacts n c.args.place f.tells held c.self.inside.core c.in-Have.from old (g.D.Door.sessions c.answer_have.new.door) c.answer_have.result (ap (λ (k : NodeState). k.core) c.self.view_is) c.answer_have.ensures.sent))

pub returns-in-Want-clause-reacts : goal.returns-in-Want-clause-reacts
returns-in-Want-clause-reacts g c =
    let f = g.F.Files in
    let n = c.args.self.now in
    let held = f.held c.args.files.now in
    let old = g.D.Door.sessions c.args.door.now in
    let At : Frame → Type 0 = λ x. Reacts {T = Unit {0}} f.tells (standing n held) x (serve_frame n c.args.place x) (standing n held) old (g.D.Door.sessions c.answer_want.new.door) c.answer_want.result in
    later_reacts n c.args.place c.args.frame f.tells held held old (g.D.Door.sessions c.answer_want.new.door) c.answer_want.result n c.if-place-eq0.false
    (subst At (sym c.in-Want.is) (want_reacts n c.args.place f.tells held c.self-in-Want.inside.core c.in-Want.needs old (g.D.Door.sessions c.answer_want.new.door) c.answer_want.result (ap (λ (k : NodeState). k.core) c.self-in-Want.view_is)
    (subst (λ (needs : List Need). Sends {T = Unit {0}} (sent_bytes (answer_to_want c.self-in-Want.inside.core needs)) old (g.D.Door.sessions c.answer_want.new.door) c.answer_want.result) c.as_slice.ensures c.answer_want.ensures.sent)))

pub returns-in-Missing-clause-reacts : goal.returns-in-Missing-clause-reacts
returns-in-Missing-clause-reacts g c =
    let f = g.F.Files in
    let n = c.args.self.now in
    let held = f.held c.args.files.now in
    let old = g.D.Door.sessions c.args.door.now in
    let At : Frame → Type 0 = λ x. Reacts {T = Unit {0}} f.tells (standing n held) x (serve_frame n c.args.place x) (standing n held) old old (Ok tt) in
    later_reacts n c.args.place c.args.frame f.tells held held old old (Ok tt) n c.if-place-eq0.false
    (subst At (sym c.in-Missing.is) (missing_passed n c.args.place f.tells held c.in-Missing._need old))

pub returns-in-Done-clause-reacts : goal.returns-in-Done-clause-reacts
returns-in-Done-clause-reacts g c =
    let f = g.F.Files in
    let n = c.args.self.now in
    let held = f.held c.args.files.now in
    let old = g.D.Door.sessions c.args.door.now in
    let At : Frame → Type 0 = λ x. Reacts {T = Unit {0}} f.tells (standing n held) x (serve_frame n c.args.place x) (standing n held) old (g.D.Door.sessions c.answer_done.new.door) c.answer_done.result in
    later_reacts n c.args.place c.args.frame f.tells held held old (g.D.Door.sessions c.answer_done.new.door) c.answer_done.result n c.if-place-eq0.false
    (subst At (sym c.in-Done.is) (done_reacts n c.args.place f.tells held old (g.D.Door.sessions c.answer_done.new.door) c.answer_done.result c.answer_done.ensures.answers))
