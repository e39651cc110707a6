use Rattle.hw_log.proofs.FollowingLaws.{one_named}
use Rattle.hw_log.proofs.following.named.Goals as goal

pub units-preserved : goal.units-preserved
units-preserved c =
    let i = c.units.invariant in
    rw c.in_ok-push-in-Some-pop.ensures.items
    (one_named c.args.lasts.now _ c.in-Some.read _ c.in-Some-pop.digest _ (rw c.in-Some.ensures.items at i.0) (rw (c.in-Some.ensures.items, c.in-Some-pop.ensures.items) at i.1) i.2)
