use Rattle.std.proofs.Common.{ℕ, ◌<◌, ◌↔◌, length, slice_index_or, IsTrue}
use Rattle.hw_dag.specs.declared.numbers.View.TheVariants as view
use Rattle.hw_dag.specs.Slots.{IsUpTo}
use Rattle.hw_dag.proofs.numbers.Panorama.is_within.Given as goal

-- the slots so far come before those of the other
abbrev pub invariant-loop-low : goal.invariant-loop-low
invariant-loop-low l = IsTrue l.within ↔ ((v : ℕ) → v < length l.yielded → IsUpTo (slice_index_or l.fn.self v view.Absent) (slice_index_or l.fn.other v view.Absent))
