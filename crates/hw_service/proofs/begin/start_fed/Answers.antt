use Rattle.std.proofs.lemmas.Result.{IfOk-weaker}
use Rattle.hw_session.proofs.StartLaws.{writes_not, about_tested}
use Rattle.hw_service.proofs.BeginLaws.{room_for, fed_anew, passed_anew, whole_anew}
use Rattle.hw_service.proofs.begin.start_fed.Goals as goal

pub returns-in-Ok-false-clause-fed : goal.returns-in-Ok-false-clause-fed
returns-in-Ok-false-clause-fed g c = IfOk-weaker c.begin.result _ _ (λ n is. fed_anew c.args.config c.args.keys c.args.log.now _ _ n is _) c.begin.ensures.node

pub returns-in-Ok-false-clause-whole : goal.returns-in-Ok-false-clause-whole
returns-in-Ok-false-clause-whole g c = λ so. IfOk-weaker c.begin.result _ _ (λ n is. whole_anew c.args.config c.args.keys c.args.log.now _ c.args.fanout.now n is (λ b. (goal.Consumer-dyn g (b.vtable, b.value)).consumed b.value) so) c.begin.ensures.node

pub returns-in-Ok-false-clause-passed : goal.returns-in-Ok-false-clause-passed
returns-in-Ok-false-clause-passed g c = IfOk-weaker c.begin.result _ _ (λ n is. passed_anew c.args.config c.args.keys c.args.log.now _ c.args.fanout.now n is c.requires.none) c.begin.ensures.node

pub returns-in-Ok-false-clause-room : goal.returns-in-Ok-false-clause-room
returns-in-Ok-false-clause-room g c = room_for _ _ c.requires.none

pub returns-in-Err-clause-log : goal.returns-in-Err-clause-log
returns-in-Err-clause-log g c = λ tells. writes_not c.args.config c.args.log.now _ _ _ c.fault_of_read.result c.in-Err.ensures.files

pub returns-in-Err-clause-room : goal.returns-in-Err-clause-room
returns-in-Err-clause-room g c = room_for _ _ c.requires.none

pub returns-in-Ok-true-clause-stopped : goal.returns-in-Ok-true-clause-stopped
returns-in-Ok-true-clause-stopped g c = rw (c.in-Ok-true.ensures.files c.args.log.now) at c.go_on_fed.ensures.stopped

pub returns-in-Ok-true-clause-part : goal.returns-in-Ok-true-clause-part
returns-in-Ok-true-clause-part g c = rw (c.in-Ok-true.ensures.files c.args.log.now) at c.go_on_fed.ensures.part

pub returns-in-Ok-true-clause-about : goal.returns-in-Ok-true-clause-about
returns-in-Ok-true-clause-about g c = λ tells.
    about_tested c.args.log.now _ _ _ _ _ c.go_on_fed.result (rw c.in-Ok-true.field-0-test at (c.in-Ok-true.ensures.answer tells)) (c.in-Ok-true.ensures.files c.args.log.now) c.in-Ok-true.ensures.about (c.go_on_fed.ensures.about tells)
