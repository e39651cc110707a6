use Rattle.std.proofs.Common.{◌≡◌, ◌+◌, ◌-◌, ◌≤◌, length}
use Rattle.hw_horizon.specs.Searcher.{IsTrueIn}
use Rattle.hw_horizon.proofs.WayLaws.{HasGoneUp}
use Rattle.hw_horizon.proofs.search.Searcher.climb.Given as goal

abbrev pub invariant-loop-fork : goal.invariant-loop-fork
invariant-loop-fork l = record {
  gone : HasGoneUp l.fn.self.config l.dag l.panorama l.fork l.at l.fn.found.blocks l.found.blocks;
  more : length l.fn.found.blocks ≤ length l.found.blocks;
  room : length l.found.blocks + l.found.spare ≡ length l.fn.found.blocks + l.fn.found.spare;
  kept : IsTrueIn l.dag l.self.config l.self.horizons l.self.bounds;
  config : l.self.config ≡ l.fn.self.config;
}

abbrev pub decreases-loop-fork : goal.decreases-loop-fork
decreases-loop-fork l = l.top + 1 - length l.found.blocks
