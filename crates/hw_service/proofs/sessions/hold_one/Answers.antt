use Rattle.std.proofs.Common.{arith}
use Rattle.hw_service.proofs.GrowLaws.{still_told, is_passed, passed_whole}
use Rattle.hw_service.proofs.sessions.hold_one.Goals as goal

pub pass-requires-clause-passed : goal.pass-requires-clause-passed
pass-requires-clause-passed g c = rw c.core.ensures (still_told _ _ _ c.talk-end.ensures.grown (omega (arith, c.requires.ready.passed)))

pub returns-clause-told : goal.returns-clause-told
returns-clause-told g c = is_passed _ _ _ _ _ _ _ _ c.talk-end.ensures.grown c.core.ensures c.pass.ensures.told c.pass.ensures.passed

pub returns-clause-whole : goal.returns-clause-whole
returns-clause-whole g c = λ so.
    passed_whole (λ b. (goal.Consumer-dyn g (b.vtable, b.value)).consumed b.value) _ _ _ _ _ _ _ c.pass.ensures.whole c.talk-end.ensures.grown c.core.ensures (omega (arith, c.requires.ready.passed))
    (rw c.core.ensures at c.pass.ensures.passed) so
