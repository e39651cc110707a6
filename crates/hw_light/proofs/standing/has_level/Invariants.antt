use Rattle.std.proofs.Common.{◌≡◌}
use Rattle.hw_horizon.specs.Kept.{AreKept}
use Rattle.hw_light.specs.Standing.{HasLevelWithin}
use Rattle.hw_light.proofs.standing.has_level.Given as goal

abbrev pub invariant-loop-below : goal.invariant-loop-below
invariant-loop-below l = record {
  none : HasLevelWithin l.state l.block.0 l.below → ⊥;
  walks : AreKept l.dag l.search.walks;
  validators : l.search.validators ≡ l.fn.search.validators;
  levels : l.search.levels ≡ l.fn.search.levels;
}
