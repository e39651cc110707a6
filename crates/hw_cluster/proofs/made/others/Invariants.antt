use Rattle.std.proofs.Common.{◌≡◌, take, not, ◌==◌}
use Rattle.std.specs.Prelude.{filter}
use Rattle.hw_cluster.proofs.made.others.Given as goal

-- the others so far
abbrev pub invariant-loop-validator : goal.invariant-loop-validator
invariant-loop-validator l = l.others.items ≡ filter (λ v. not (v == l.leader)) (take l.validator-index l.validators)
