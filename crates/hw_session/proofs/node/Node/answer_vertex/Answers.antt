use Rattle.std.proofs.Common.{Ok, List, Option, subst}
use Rattle.std.proofs.lemmas.Result.{err_from_is_err_and}
use Rattle.hw_types.specs.declared.unit.Need.{Need}
use Rattle.hw_types.specs.declared.answers.Receipt.{Receipt}
use Rattle.hw_types.specs.declared.answers.Frame.TheVariants as frame
use Rattle.hw_link.specs.Frames.{framed}
use Rattle.hw_link.specs.Sent.{Sends}
use Rattle.hw_session.specs.Serving.{wanted_by}
use Rattle.hw_session.specs.Handling.{Receives}
use Rattle.hw_session.proofs.ReactLaws.{receipt_reacts, refused_reacts, ends_reacts, stands_last, sends_unlogged}
use Rattle.hw_session.proofs.node.Node.answer_vertex.Goals as goal

pub returns-in-Some-clause-reacts : goal.returns-in-Some-clause-reacts
returns-in-Some-clause-reacts g c =
    let f = g.F.Files in
    let n = c.args.self.now in
    let m = c.receive.new.self in
    let got = subst (λ (x : Option Receipt). Receives n c.args.vertex m f.tells (f.held c.args.files.now) (f.held c.receive.new.files) (Ok x)) c.in-Some.is c.in_ok-taken.ensures.received in
    receipt_reacts n c.args.vertex m f.tells (f.held c.args.files.now) (f.held c.receive.new.files) c.in-Some.receipt (g.D.Door.sessions c.args.door.now) (g.D.Door.sessions c.answer_receipt.new.door) c.answer_receipt.result got.accepts got.writes
    (c.answer_receipt.ensures.sent c.args.vertex (stands_last n c.args.vertex m f.tells (f.held c.args.files.now) (f.held c.receive.new.files) c.in-Some.receipt got.accepts))

pub returns-in-None-clause-reacts : goal.returns-in-None-clause-reacts
returns-in-None-clause-reacts g c =
    let f = g.F.Files in
    let n = c.args.self.now in
    let m = c.receive.new.self in
    let got = subst (λ (x : Option Receipt). Receives n c.args.vertex m f.tells (f.held c.args.files.now) (f.held c.receive.new.files) (Ok x)) c.in-None.is c.in_ok-taken.ensures.received in
    refused_reacts n c.args.vertex m f.tells (f.held c.args.files.now) (f.held c.receive.new.files) (g.D.Door.sessions c.args.door.now) (g.D.Door.sessions c.say.new.door) c.say.result got
    (subst (λ (needs : List Need). Sends {T = Unit {0}} (framed (frame.Want needs)) (g.D.Door.sessions c.args.door.now) (g.D.Door.sessions c.say.new.door) c.say.result) c.new.ensures c.say.ensures.sent)

pub returns-in-Some-clause-appends : goal.returns-in-Some-clause-appends
returns-in-Some-clause-appends g c =
    let f = g.F.Files in
    let n = c.args.self.now in
    let m = c.receive.new.self in
    let got = subst (λ (x : Option Receipt). Receives n c.args.vertex m f.tells (f.held c.args.files.now) (f.held c.receive.new.files) (Ok x)) c.in-Some.is c.in_ok-taken.ensures.received in
    sends_unlogged (framed (frame.Want (wanted_by m.core c.in-Some.receipt c.args.vertex))) (g.D.Door.sessions c.args.door.now) (g.D.Door.sessions c.answer_receipt.new.door) c.answer_receipt.result _ _ c.in_ok-taken.ensures.appends
    (c.answer_receipt.ensures.sent c.args.vertex (stands_last n c.args.vertex m f.tells (f.held c.args.files.now) (f.held c.receive.new.files) c.in-Some.receipt got.accepts))

pub returns-in_err-taken-clause-reacts : goal.returns-in_err-taken-clause-reacts
returns-in_err-taken-clause-reacts g c =
    let f = g.F.Files in
    let p = err_from_is_err_and c.from_residual.result c.from_residual.ensures.1 in
    rw (p.1, p.2) (ends_reacts c.args.self.now c.args.vertex c.receive.new.self f.tells (f.held c.args.files.now) (f.held c.receive.new.files) (g.D.Door.sessions c.args.door.now) c.in_err-taken.field-0.0 c.in_err-taken.ensures.received)

pub returns-in_err-taken-clause-link : goal.returns-in_err-taken-clause-link
returns-in_err-taken-clause-link g c =
    let p = err_from_is_err_and c.from_residual.result c.from_residual.ensures.1 in
    rw (p.1, p.2) (c.in_err-taken.ensures.link (g.D.Door.faults c.args.door.now))
