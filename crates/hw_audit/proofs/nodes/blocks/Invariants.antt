use Rattle.std.proofs.Common.{◌≡◌, take}
use Rattle.hw_safety.specs.Verdicts.{chain_of}
use Rattle.hw_core.specs.Decided.{decided_in}
use Rattle.hw_audit.proofs.nodes.blocks.Given as goal

abbrev pub invariant-loop-index : goal.invariant-loop-index
invariant-loop-index l = l.blocks.items ≡ chain_of (take l.index (decided_in l.core))
