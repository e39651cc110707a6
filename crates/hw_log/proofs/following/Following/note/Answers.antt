use Rattle.hw_log.proofs.FollowingLaws.{noted_follow}
use Rattle.hw_log.proofs.following.Following.note.Goals as goal

pub invariant_of-self : goal.invariant_of-self
invariant_of-self c =
    let inside = c.self.inside in
    rw c.note.ensures
    (noted_follow inside.lasts c.args.noted inside.units.items _ (rw c.creator.ensures at c.forget.ensures.others) c.forget.ensures.left c.self.invariant)
