use Rattle.hw_session.proofs.StartLaws.{config_fits, goes_on}
use Rattle.hw_session.proofs.start.go_on.Goals as goal

pub replay_log-requires : goal.replay_log-requires
replay_log-requires g c = config_fits c.args.config.now c.requires.lawful

pub returns-clause-said : goal.returns-clause-said
returns-clause-said g c = λ tells.
    goes_on c.args.config.now c.args.keys c.args.log.now _ c.in_ok-replay.replay c.replayed.result (c.in_ok-replay.ensures.said tells) (c.in_ok-replay.ensures.lasts tells)
    c.replayed.ensures.taken c.replayed.ensures.lasts c.replayed.ensures.config c.replayed.ensures.keys (rw c.in_ok-name.ensures at c.replayed.ensures.log) c.replayed.ensures.limited c.replayed.ensures.clash
