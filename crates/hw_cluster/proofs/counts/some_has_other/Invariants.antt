use Rattle.std.proofs.Common.{◌≡◌, drop}
use Rattle.std.specs.List.{list_any}
use Rattle.hw_safety.specs.Verdicts.{held_in}
use Rattle.hw_cluster.specs.Counts.{is_other}
use Rattle.hw_cluster.proofs.counts.some_has_other.Given as goal

-- the rest of the vertices says what all say
abbrev pub invariant-loop-vertex : goal.invariant-loop-vertex
invariant-loop-vertex l = list_any (is_other l.validator l.unit) (held_in (drop l.vertex-index l.sent)) ≡ list_any (is_other l.validator l.unit) (held_in l.sent)
