use Rattle.hw_horizon.proofs.NumberLaws.{fork_block}
use Rattle.hw_horizon.proofs.WayLaws.{top_is}
use Rattle.hw_horizon.proofs.search.Searcher.find_at.Goals as goal

pub ancestor_at-block-requires-clause-block : goal.ancestor_at-block-requires-clause-block
ancestor_at-block-requires-clause-block c = fork_block c.args.self.now.config c.args.dag.now c.args.panorama.now c.args.fork c.requires.searched

pub ancestor_at-block-requires-clause-within : goal.ancestor_at-block-requires-clause-within
ancestor_at-block-requires-clause-within c = c.requires.within _ (top_is c.args.self.now.config c.args.dag.now c.args.panorama.now c.args.fork c.args.at c.requires.searched)
