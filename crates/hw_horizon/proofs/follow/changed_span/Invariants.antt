use Rattle.hw_horizon.proofs.FollowLaws.{HasSame}
use Rattle.hw_horizon.proofs.follow.changed_span.Given as goal

abbrev pub invariant-loop-v : goal.invariant-loop-v
invariant-loop-v l = HasSame l.panorama l.tips l.span l.v
