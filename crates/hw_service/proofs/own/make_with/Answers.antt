use Rattle.std.proofs.Common.{Ok, Err, refl, arith}
use Rattle.hw_session.specs.declared.fault.MakeFault.TheVariants as make
use Rattle.hw_service.specs.Scene.{outside, scene}
use Rattle.hw_service.proofs.GrowLaws.{still_told, is_passed, passed_whole}
use Rattle.hw_service.proofs.DriveLaws.{makes_grows}
use Rattle.hw_service.proofs.OwnLaws.{told_made, on_ok}
use Rattle.hw_service.proofs.own.make_with.Goals as goal

pub pass-requires-clause-passed : goal.pass-requires-clause-passed
pass-requires-clause-passed g c = rw c.core.ensures (still_told _ _ _ (makes_grows _ _ _ _ c.make_named.ensures.made) (omega (arith, c.requires.ready.passed)))

pub returns-in-Ok-clause-makes : goal.returns-in-Ok-clause-makes
returns-in-Ok-clause-makes g c = λ door. record {
  made = Ok c.in-Ok.made;
  makes = c.in-Ok.ensures.made;
  log = c.in-Ok.ensures.log;
  told = told_made _ c.in-Ok.made (scene c.args.host.now.node c.args.host.now.fanout (outside (g.F.Files.held c.args.files.now) door (g.S.Sink.taken c.args.out.now) c.args.consumers.now.items)) (scene c.make_named.new.self c.pass.new.self (outside (g.F.Files.held c.make_named.new.files) door (g.S.Sink.taken c.tell_made.new.out) c.pass.new.consumers.items)) c.tell_made.result (is_passed _ _ _ _ _ _ _ _ (makes_grows _ _ _ _ c.make_named.ensures.made) c.core.ensures c.pass.ensures.told c.pass.ensures.passed) c.tell_made.ensures.fault c.tell_made.ensures.written;
  door = refl;
}

pub returns-in-Ok-clause-whole : goal.returns-in-Ok-clause-whole
returns-in-Ok-clause-whole g c = λ so. on_ok c.tell_made.result _ (
    passed_whole (λ b. (goal.Consumer-dyn g (b.vtable, b.value)).consumed b.value) _ _ _ _ _ _ _ c.pass.ensures.whole (makes_grows _ _ _ _ c.make_named.ensures.made) c.core.ensures (omega (arith, c.requires.ready.passed))
    (rw c.core.ensures at c.pass.ensures.passed) so)

pub returns-in-Err-RecordsFull-clause-makes : goal.returns-in-Err-RecordsFull-clause-makes
returns-in-Err-RecordsFull-clause-makes g c = λ door. record {
  made = Err make.RecordsFull;
  makes = rw c.in-Err-RecordsFull.field-0-is at c.in-Err-RecordsFull.ensures.made;
  log = λ tells. rw c.in-Err-RecordsFull.field-0-is at (c.in-Err-RecordsFull.ensures.log tells);
  told = (refl, is_passed _ _ _ _ _ _ _ _ (makes_grows _ _ _ _ c.make_named.ensures.made) c.core-in-Err-RecordsFull.ensures c.pass-in-Err-RecordsFull.ensures.told c.pass-in-Err-RecordsFull.ensures.passed, refl);
  door = refl;
}

pub returns-in-Err-RecordsFull-clause-whole : goal.returns-in-Err-RecordsFull-clause-whole
returns-in-Err-RecordsFull-clause-whole g c = λ so.
    passed_whole (λ b. (goal.Consumer-dyn g (b.vtable, b.value)).consumed b.value) _ _ _ _ _ _ _ c.pass-in-Err-RecordsFull.ensures.whole (makes_grows _ _ _ _ c.make_named.ensures.made) c.core-in-Err-RecordsFull.ensures (omega (arith, c.requires.ready.passed))
    (rw c.core-in-Err-RecordsFull.ensures at c.pass-in-Err-RecordsFull.ensures.passed) so
