use Rattle.std.proofs.Common.{◌≡◌, Some}
use Rattle.hw_horizon.specs.Kept.{AreKept}
use Rattle.hw_horizon.specs.Bounds.{AreBounds, AreTips}
use Rattle.hw_horizon.proofs.LevelLaws.{NoneUpTo}
use Rattle.hw_horizon.proofs.search.Searcher.least_level.Given as goal

abbrev pub invariant-loop-below : goal.invariant-loop-below
invariant-loop-below l = record {
  none : NoneUpTo l.fn.self.config l.dag l.panorama l.block.0 l.below;
  walks : AreKept l.dag l.self.horizons.walks;
  bounds : AreBounds l.self.config.weights l.dag l.self.bounds;
  tips : AreTips l.panorama l.self.bounds;
  asked : l.self.bounds.block ≡ Some l.block;
  config : l.self.config ≡ l.fn.self.config;
  quorums : l.self.quorums.items ≡ l.fn.self.quorums.items;
}
