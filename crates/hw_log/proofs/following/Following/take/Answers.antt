use Rattle.std.proofs.Common.{rules}
use Rattle.hw_log.specs.Following.{Follows}
use Rattle.hw_log.proofs.FollowingLaws.{follows_first, last_of_all}
use Rattle.hw_log.proofs.following.Following.take.Goals as goal

pub returns-clause-next : goal.returns-clause-next
returns-clause-next c =
    let inside = c.self.inside in
    let all = rw c.in-Some.ensures.items at c.self.invariant in
    rw (← c.self.view_is)
    (follows_first inside.lasts c.args.bytes.now c.in-Some.next (last_of_all (Follows inside.lasts) c.pop.new.self.items c.in-Some.next all) (c.has_bytes.ensures.0 (search rules)))
