use Rattle.std.proofs.Common.{◌≡◌, ℕ, ◌<◌, ◌⊎◌, true, length}
use Rattle.hw_dag.specs.declared.numbers.UnitNo.{UnitNo}
use Rattle.hw_dag.specs.declared.numbers.View.TheVariants.{Correct}
use Rattle.hw_dag.specs.Dag.{unit_at, view_at}
use Rattle.hw_dag.specs.Walks.{is_marked, Cites}
use Rattle.hw_light.proofs.under.mark_observed.Given as goal

-- the slots so far are marked, and nothing else
abbrev pub invariant-loop-slot : goal.invariant-loop-slot
invariant-loop-slot l = record {
  length_is : length l.marked ≡ length l.initial.marked;
  kept : (m : ℕ) → is_marked l.initial.marked m ≡ true → is_marked l.marked m ≡ true;
  all : (v : ℕ) (number : UnitNo) → v < l.slot-index → view_at (unit_at l.fn.dag l.fn.no.0).panorama v ≡ Correct number → is_marked l.marked number.0 ≡ true;
  only : (m : ℕ) → is_marked l.marked m ≡ true → (is_marked l.initial.marked m ≡ true) ⊎ Cites l.fn.dag l.fn.no.0 m;
}
