use Rattle.std.proofs.Common.{◌≡◌, take, false}
use Rattle.hw_light.specs.Extract.{is_marked_by}
use Rattle.hw_light.specs.Under.{nodes_at}
use Rattle.hw_light.proofs.needed.is_marked_by.Given as goal

abbrev pub invariant-loop-number : goal.invariant-loop-number
invariant-loop-number l = is_marked_by (nodes_at l.dag (take l.number-index l.numbers)) l.validator ≡ false
