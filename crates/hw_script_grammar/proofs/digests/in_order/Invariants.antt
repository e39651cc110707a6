use Rattle.std.proofs.Common.{◌≡◌, length, take}
use Rattle.hw_script_grammar.specs.Units.{in_order}
use Rattle.hw_script_grammar.proofs.digests.in_order.Given as goal

abbrev pub invariant-loop-digest : goal.invariant-loop-digest
invariant-loop-digest l = (l.list.items ≡ in_order (take l.digest-index l.digests)) × (length l.list.items ≡ l.digest-index)
