use Rattle.std.proofs.Common.{◌≡◌, ◌≢◌, ℕ, ◌<◌, Some}
use Rattle.std.specs.Prelude.{slice_get}
use Rattle.hw_types.specs.declared.answers.Decision.{Decision}
use Rattle.hw_core.specs.Decided.{decided_in}
use Rattle.hw_light.proofs.asked.decision_of.Given as goal

-- none so far has the digest
abbrev pub invariant-loop-index : goal.invariant-loop-index
invariant-loop-index l = (k : ℕ) (d : Decision) → k < l.index → slice_get (decided_in l.core) k ≡ Some d → d.block ≢ l.block
