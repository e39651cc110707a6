use Rattle.std.proofs.Common.{ap}
use Rattle.hw_replay.specs.Taken.{Taken}
use Rattle.hw_session.proofs.StartLaws.{config_fits}
use Rattle.hw_service.proofs.BeginLaws.{room_for, nothing_passed, fed_there, passed_there}
use Rattle.hw_service.proofs.begin.go_on_fed.Goals as goal

pub returns-in_err-name-clause-room : goal.returns-in_err-name-clause-room
returns-in_err-name-clause-room g c = room_for _ _ c.requires.none

pub replay_fed-requires-clause-wanted : goal.replay_fed-requires-clause-wanted
replay_fed-requires-clause-wanted g c = config_fits c.args.config.now c.requires.lawful

pub replay_fed-requires-clause-room : goal.replay_fed-requires-clause-room
replay_fed-requires-clause-room g c = room_for _ _ c.requires.none

pub returns-clause-fed : goal.returns-clause-fed
returns-clause-fed g c = fed_there _ _ _ _ (ap (λ (t : Taken). t.core) c.replayed.ensures.taken) c.replayed.ensures.config _ _ _ _ c.in_ok-replay.ensures.fed

pub returns-clause-passed : goal.returns-clause-passed
returns-clause-passed g c = passed_there _ _ _ _ (ap (λ (t : Taken). t.core) c.replayed.ensures.taken) c.replayed.ensures.config _ _ _ _ (nothing_passed _ _ c.requires.none) c.in_ok-replay.ensures.fed
