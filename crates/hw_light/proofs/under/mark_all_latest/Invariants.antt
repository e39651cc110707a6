use Rattle.std.proofs.Common.{◌≡◌, ℕ, ◌<◌, ◌⊎◌, true, length}
use Rattle.std.specs.Prelude.{IsTrue}
use Rattle.hw_dag.specs.declared.numbers.UnitNo.{UnitNo}
use Rattle.hw_dag.specs.declared.numbers.View.TheVariants.{Correct}
use Rattle.hw_dag.specs.Dag.{view_at}
use Rattle.hw_dag.specs.Walks.{is_marked}
use Rattle.hw_horizon.specs.Search.{committees_of}
use Rattle.hw_light.specs.Under.{IsMembersLatest}
use Rattle.hw_light.proofs.under.mark_all_latest.Given as goal

-- the members so far are marked, and nothing else
abbrev pub invariant-loop-validator : goal.invariant-loop-validator
invariant-loop-validator l = record {
  length_is : length l.marked ≡ length l.initial.marked;
  all : (v : ℕ) (number : UnitNo) → v < l.validator → IsTrue ((committees_of l.search).member 0 v) → view_at l.panorama v ≡ Correct number → is_marked l.marked number.0 ≡ true;
  only : (n : ℕ) → is_marked l.marked n ≡ true → (is_marked l.initial.marked n ≡ true) ⊎ IsMembersLatest l.search l.panorama n;
}
