use Rattle.std.proofs.Common.{◌≡◌, ◌++◌, take}
use Rattle.std.specs.List.{flat_map}
use Rattle.hw_audit.specs.Text.{culprit_line}
use Rattle.hw_audit.proofs.text.put_culprits.Given as goal

abbrev pub invariant-loop-culprit : goal.invariant-loop-culprit
invariant-loop-culprit l = l.out ≡ l.initial.out ++ flat_map culprit_line (take l.culprit-index l.culprits)
