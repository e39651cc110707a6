use Rattle.std.proofs.Common.{◌≡◌, ℕ, ◌<◌, ◌≤◌, ◌⊎◌, true}
use Rattle.hw_dag.specs.declared.numbers.UnitNo.{UnitNo}
use Rattle.hw_dag.specs.declared.numbers.View.TheVariants as view
use Rattle.hw_dag.specs.Dag.{unit_at, view_at}
use Rattle.hw_dag.specs.Walks.{is_marked, Cites}
use Rattle.hw_dag.proofs.graph.Dag.mark_observed.Given as goal

-- the slots so far are marked, and nothing else
abbrev pub invariant-loop-slot : goal.invariant-loop-slot
invariant-loop-slot l =
    ((m : ℕ) → is_marked l.initial.marked m ≡ true → is_marked l.marked m ≡ true)
    × ((v : ℕ) (number : UnitNo) → v < l.slot-index → view_at (unit_at l.self l.fn.no.0).panorama v ≡ view.Correct number → l.fn.low.0 ≤ number.0 → is_marked l.marked number.0 ≡ true)
    × ((m : ℕ) → is_marked l.marked m ≡ true → (is_marked l.initial.marked m ≡ true) ⊎ Cites l.self l.fn.no.0 m)
