use Rattle.std.proofs.Common.{◌≡◌, ◌+◌, ◌-◌, ◌≤◌, Some}
use Rattle.hw_dag.specs.Jumps.{jump_count}
use Rattle.hw_dag.specs.Skips.{back_from}
use Rattle.hw_dag.proofs.skips.SkipTable.walk.Given as goal

-- the way so far, and the jumps that it took
abbrev pub invariant-loop-depth : goal.invariant-loop-depth
invariant-loop-depth g l =
    (l.to ≤ l.depth) × (l.depth ≤ l.from) × (back_from l.self.backs (l.from - l.depth) l.fn.no.0 ≡ Some l.at.0)
    × (l.steps + jump_count l.depth l.to ≡ l.initial.steps + jump_count l.from l.to)

abbrev pub decreases-loop-depth : goal.decreases-loop-depth
decreases-loop-depth g l = l.depth
