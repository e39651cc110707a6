use Rattle.std.proofs.Common.{rules, take}
use Rattle.std.proofs.lemmas.List.Sorted.{IsNonDecreasingBy-from_sort_by_key}
use Rattle.hw_forks.specs.declared.tallies.Share.{Share}
use Rattle.hw_forks.proofs.ShareLaws.{holds_moved, holds_are, if_heaviest_best, if_none_supports}
use Rattle.hw_forks.proofs.tallies.best_child.Goals as goal

pub heaviest-requires-clause-shares : goal.heaviest-requires-clause-shares
heaviest-requires-clause-shares c = holds_are c.args.dag.now c.args.place c.args.votes.now c.sort_unstable_by_key.new.self c.requires.votes
    (holds_moved c.args.dag.now c.args.place c.args.votes.now (take c.share_out-count.result c.share_out-count.new.shares) c.sort_unstable_by_key.new.self c.sort_unstable_by_key.ensures.permutation c.share_out-count.ensures.shares)

pub heaviest-requires-clause-sorted : goal.heaviest-requires-clause-sorted
heaviest-requires-clause-sorted c = IsNonDecreasingBy-from_sort_by_key (λ (share : Share). share.child.0) _ c.sort_unstable_by_key.ensures.sorted (λ a r q k. search rules)

pub returns-clause-best : goal.returns-clause-best
returns-clause-best c = if_heaviest_best c.args.dag.now c.args.place c.args.votes.now c.sort_unstable_by_key.new.self
    (holds_moved c.args.dag.now c.args.place c.args.votes.now (take c.share_out-count.result c.share_out-count.new.shares) c.sort_unstable_by_key.new.self c.sort_unstable_by_key.ensures.permutation c.share_out-count.ensures.shares)
    c.heaviest.result c.heaviest.ensures.best

pub returns-clause-none : goal.returns-clause-none
returns-clause-none c = if_none_supports c.args.dag.now c.args.place c.args.votes.now c.sort_unstable_by_key.new.self
    (holds_moved c.args.dag.now c.args.place c.args.votes.now (take c.share_out-count.result c.share_out-count.new.shares) c.sort_unstable_by_key.new.self c.sort_unstable_by_key.ensures.permutation c.share_out-count.ensures.shares)
    c.heaviest.result c.heaviest.ensures.none
