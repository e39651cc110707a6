use Rattle.hw_link.proofs.HearsLaws.{hears_then}
use Rattle.hw_link.proofs.AskLaws.{body_asks, front_after}
use Rattle.hw_link.proofs.body.read_body.Goals as goal

pub returns-clause-heard : goal.returns-clause-heard
returns-clause-heard g c =
    hears_then c.args.place c.in_ok-front.front (g.D.Door.sessions c.args.door.now) (g.D.Door.sessions c.read_front.new.door) (g.D.Door.sessions c.read_behind.new.door)
    (g.D.Door.ends c.args.door.now) (g.D.Door.ends c.read_front.new.door) (g.D.Door.ends c.read_behind.new.door) c.read_behind.result c.in_ok-front.ensures.heard c.read_behind.ensures.heard

pub returns-clause-asks : goal.returns-clause-asks
returns-clause-asks g c =
    body_asks c.args.place c.in_ok-front.front (g.D.Door.sessions c.args.door.now) (g.D.Door.sessions c.read_front.new.door) (front_after c.args.place c.in_ok-front.front _ _ _ _ c.in_ok-front.ensures.heard)
    (g.D.Door.asks c.args.door.now) (g.D.Door.asks c.read_front.new.door) (g.D.Door.asks c.read_behind.new.door) c.in_ok-front.ensures.asks c.read_behind.ensures.asks
