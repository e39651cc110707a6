use Rattle.std.proofs.Common.{◌≡◌, ◌+◌, ◌-◌, ◌^◌, Some}
use Rattle.std.specs.Prelude.{vec_len, vec_capacity}
use Rattle.hw_dag.specs.Skips.{back_from, backs_of, lists_of, IsAddedBehind}
use Rattle.hw_dag.proofs.skips.push_pointers.Given as goal

-- the pointers so far, and the last of them
abbrev pub invariant-loop-i : goal.invariant-loop-i
invariant-loop-i l =
    IsAddedBehind (backs_of (lists_of l.starts l.fn.pointers.items)) l.fn.back.0 l.i l.fn.pointers.items l.pointers.items
    × (back_from (backs_of (lists_of l.starts l.fn.pointers.items)) (2 ^ (l.i - 1) - 1) l.fn.back.0 ≡ Some l.at.0)
    × (vec_len l.pointers ≡ vec_len l.fn.pointers + l.i) × (vec_capacity l.pointers ≡ vec_capacity l.fn.pointers)
