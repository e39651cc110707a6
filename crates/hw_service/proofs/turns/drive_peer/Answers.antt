use Rattle.std.proofs.Common.{refl, arith}
use Rattle.hw_service.proofs.GrowLaws.{still_told, is_passed, passed_whole}
use Rattle.hw_service.proofs.DriveLaws.{drives_grows}
use Rattle.hw_service.proofs.CountLaws.{appends_told, link_of}
use Rattle.hw_service.proofs.turns.drive_peer.Goals as goal

pub pass-requires-clause-passed : goal.pass-requires-clause-passed
pass-requires-clause-passed g c = rw c.core.ensures (still_told _ _ _ (drives_grows _ _ _ _ _ _ _ _ _ _ _ _ _ c.drive_one-end.ensures.driven) (omega (arith, c.requires.ready.passed)))

pub returns-clause-drives : goal.returns-clause-drives
returns-clause-drives g c = record {
  end = c.drive_one-end.result;
  driven = rw c.as_str.ensures.value at c.drive_one-end.ensures.driven;
  address = refl;
  dials = c.drive_one-end.ensures.dials;
  accepts = c.drive_one-end.ensures.accepts;
  passed = is_passed _ _ _ _ _ _ _ _ (drives_grows _ _ _ _ _ _ _ _ _ _ _ _ _ c.drive_one-end.ensures.driven) c.core.ensures c.pass.ensures.told c.pass.ensures.passed;
  told = c.tell_end.ensures.told;
}

pub returns-clause-whole : goal.returns-clause-whole
returns-clause-whole g c = λ so.
    passed_whole (λ b. (goal.Consumer-dyn g (b.vtable, b.value)).consumed b.value) _ _ _ _ _ _ _ c.pass.ensures.whole (drives_grows _ _ _ _ _ _ _ _ _ _ _ _ _ c.drive_one-end.ensures.driven) c.core.ensures (omega (arith, c.requires.ready.passed))
    (rw c.core.ensures at c.pass.ensures.passed) so

pub returns-clause-config : goal.returns-clause-config
returns-clause-config g c = (drives_grows _ _ _ _ _ _ _ _ _ _ _ _ _ c.drive_one-end.ensures.driven).config

pub returns-clause-appends : goal.returns-clause-appends
returns-clause-appends g c = appends_told _ _ c.drive_one-end.result c.drive_one-end.new.self _ _ _ _ _ c.tell_end.ensures.told c.drive_one-end.ensures.appends

pub returns-clause-link : goal.returns-clause-link
returns-clause-link g c = link_of _ _ c.drive_one-end.result c.drive_one-end.new.self _ _ _ _ _ c.tell_end.ensures.told c.drive_one-end.ensures.link
