use Rattle.std.proofs.Common.{◌≡◌, ◌≤◌, length, take}
use Rattle.std.specs.Prelude.{vec_capacity}
use Rattle.hw_horizon.specs.Detected.{decisions_of as found_in}
use Rattle.hw_core.proofs.decided.list.Given as goal

-- so many records are listed, and there is room for all
abbrev pub invariant-loop-index : goal.invariant-loop-index
invariant-loop-index l =
    (l.decisions.items ≡ take l.index (found_in l.dag l.detector.found)) × (length l.decisions.items ≡ l.index)
    × (length l.detector.found ≤ vec_capacity l.decisions) × (vec_capacity l.initial.decisions ≤ vec_capacity l.decisions)
