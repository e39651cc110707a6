use Rattle.std.proofs.Common.{length, take, ap, ◌∙◌}
use Rattle.hw_park.specs.Parked.{Parked, awaited}
use Rattle.hw_park.proofs.park.Park.first_needs.Goals as goal

pub returns-clause-first : goal.returns-clause-first
returns-clause-first g c =
    c.first_needs.ensures.put c.self.inside.next c.self.invariant.queue.below
    ∙ ap (λ (p : Parked g.row.T.Denot). take (length c.args.list.now) (awaited p.waiting)) c.self.view_is
