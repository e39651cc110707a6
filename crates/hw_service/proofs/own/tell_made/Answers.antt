use Rattle.hw_service.proofs.OwnLaws.{none_made}
use Rattle.hw_service.proofs.own.tell_made.Goals as goal

pub returns-in-None-clause-written : goal.returns-in-None-clause-written
returns-in-None-clause-written g c = rw c.in-None.is (none_made (g.S.Sink.taken c.args.out.now))
