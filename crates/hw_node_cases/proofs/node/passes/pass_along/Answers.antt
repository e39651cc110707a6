use Rattle.hw_replay.proofs.FeedLaws.{still_told}
use Rattle.hw_node_cases.proofs.node.passes.pass_along.Goals as goal

pub pass_if-requires-clause-passed : goal.pass_if-requires-clause-passed
pass_if-requires-clause-passed g c = still_told _ _ _ c.goes_on.ensures.grows c.entries.invariant.passed

pub pass_if-requires-2-clause-passed : goal.pass_if-requires-2-clause-passed
pass_if-requires-2-clause-passed g c = still_told _ _ _ c.goes_on.ensures.grows c.entries.invariant.passed
