use Rattle.std.proofs.Common.{inl, refl}
use Rattle.std.proofs.lemmas.Result.{err_from_is_err_and}
use Rattle.hw_service.specs.Scene.{door_seen, outside, scene}
use Rattle.hw_service.proofs.OwnLaws.{turns_of}
use Rattle.hw_service.proofs.turns.take_turn.Goals as goal

pub returns-clause-turn : goal.returns-clause-turn
returns-clause-turn g c = λ number.
    let d = g.D.Door in
    let seen_now = door_seen (d.sessions c.args.environment.now.door.now) (d.accepts c.args.environment.now.door.now) (d.dials c.args.environment.now.door.now) (d.ends c.args.environment.now.door.now) in
    let m = c.make_unit.new in
    record {
      moment = c.now-moment.result;
      early = c.now-moment.ensures.range;
      given = rw c.drive_peers.ensures.clock c.now-moment.ensures.given;
      turns = turns_of _ _ _ _ _ (scene m.host.node m.host.fanout (outside (g.F.Files.held m.files) seen_now (g.S.Sink.taken m.out) m.consumers.items)) _ _ _ c.drive_peers.result (c.in_ok-make_unit.ensures.makes seen_now) c.drive_peers.ensures.drives;
    }

pub returns-in_err-make_unit-clause-turn : goal.returns-in_err-make_unit-clause-turn
returns-in_err-make_unit-clause-turn g c = λ number.
    let p = err_from_is_err_and c.from_residual.result c.from_residual.ensures.1 in
    rw (p.1, p.2) (record {
      moment = c.now-moment.result;
      early = c.now-moment.ensures.range;
      given = c.now-moment.ensures.given;
      turns = inl (record { makes = c.in_err-make_unit.ensures.makes _; peers = refl });
    })
