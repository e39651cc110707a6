use Rattle.std.proofs.lemmas.List.Filters.{FiltersInPlace}
use Rattle.hw_forks.specs.Walk.{is_over}
use Rattle.hw_forks.proofs.branch.keep_towards.Given as goal

-- the votes so far that are towards the block stand in front, and the others as they were
abbrev pub invariant-loop-i : goal.invariant-loop-i
invariant-loop-i l = FiltersInPlace (λ vote. is_over l.dag l.block.0 vote.block.0) l.initial.votes l.votes l.count l.i
