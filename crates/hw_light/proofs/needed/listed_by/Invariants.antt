use Rattle.std.proofs.Common.{◌≡◌, take}
use Rattle.std.specs.List.{list_any}
use Rattle.hw_types.specs.declared.unit.Digest.{Digest}
use Rattle.hw_types.specs.Graph.{digest_eq}
use Rattle.hw_light.specs.Extract.{is_listed_by}
use Rattle.hw_light.specs.Under.{nodes_at}
use Rattle.hw_light.proofs.needed.listed_by.Given as goal

abbrev pub invariant-loop-number : goal.invariant-loop-number
invariant-loop-number l = (d : Digest) → list_any (digest_eq d) l.listed.names ≡ is_listed_by (nodes_at l.dag (take l.number-index l.numbers)) d
