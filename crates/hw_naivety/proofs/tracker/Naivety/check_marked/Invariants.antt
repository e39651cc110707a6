use Rattle.std.proofs.Common.{◌≡◌, ◌<◌, ◌⊎◌, ℕ, true}
use Rattle.hw_dag.specs.Lanes.{is_lane_below}
use Rattle.hw_naivety.specs.Tips.{IsNaive}
use Rattle.hw_naivety.proofs.tracker.Naivety.check_marked.Given as goal

-- no creator so far has a naive fork
abbrev pub invariant-loop-creator : goal.invariant-loop-creator
invariant-loop-creator l =
    ((v m n : ℕ) → v < l.creator → IsNaive l.dag l.panorama l.endorsed v m → IsNaive l.dag l.panorama l.endorsed v n
    → (is_lane_below l.dag m n ≡ true) ⊎ (is_lane_below l.dag n m ≡ true))
    × (l.marks ≡ l.initial.marks)
