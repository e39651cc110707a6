use Rattle.std.proofs.Common.{◌≡◌, ◌++◌}
use Rattle.std.specs.List.{flat_map, range_with_len}
use Rattle.hw_explain.specs.Searched.{part_in}
use Rattle.hw_explain.proofs.committee.put_committee.Given as goal

abbrev pub invariant-loop-validator : goal.invariant-loop-validator
invariant-loop-validator l = l.text ≡ l.initial.text ++ flat_map (part_in l.search l.level) (range_with_len 0 l.validator)
