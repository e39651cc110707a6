use Rattle.std.proofs.Common.{◌≡◌, drop}
use Rattle.std.specs.List.{list_any}
use Rattle.hw_safety.specs.Verdicts.{held_in}
use Rattle.hw_cluster.specs.Counts.{has_other}
use Rattle.hw_cluster.proofs.counts.equivocates_in.Given as goal

-- the rest of the vertices says what all say
abbrev pub invariant-loop-vertex : goal.invariant-loop-vertex
invariant-loop-vertex l = list_any (has_other l.validator (held_in l.sent)) (held_in (drop l.vertex-index l.sent)) ≡ list_any (has_other l.validator (held_in l.sent)) (held_in l.sent)
