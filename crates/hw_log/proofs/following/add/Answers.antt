use Rattle.std.proofs.Common.{rules}
use Rattle.hw_log.specs.Following.{IsRead}
use Rattle.hw_log.proofs.FollowingLaws.{all_and_last, one_more}
use Rattle.hw_log.proofs.following.add.Goals as goal

pub returns-clause-read : goal.returns-clause-read
returns-clause-read c =
    rw c.in_ok-push-2.ensures.items (all_and_last (IsRead c.args.lasts.now) _ c.args.read c.requires.read c.requires.unit)

pub returns-clause-spelled : goal.returns-clause-spelled
returns-clause-spelled c =
    one_more _ _ _ _ _ _ _ c.args.read c.len-start.result c.len-end.result c.requires.spelled c.in_ok-spelling.ensures.is
    (rw c.as_slice.ensures at c.in_ok-extend_from_slice.ensures.items) c.in_ok-push.ensures.items c.in_ok-push-2.ensures.items (search rules) (search rules)
