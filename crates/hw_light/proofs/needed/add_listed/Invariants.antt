use Rattle.std.proofs.Common.{◌≡◌, take}
use Rattle.std.specs.Prelude.{◌||◌}
use Rattle.std.specs.List.{list_any}
use Rattle.hw_types.specs.declared.unit.Digest.{Digest}
use Rattle.hw_types.specs.Graph.{digest_eq}
use Rattle.hw_types.specs.Rules.{has_digest}
use Rattle.hw_light.proofs.needed.add_listed.Given as goal

abbrev pub invariant-loop-digest : goal.invariant-loop-digest
invariant-loop-digest l = (d : Digest) → list_any (digest_eq d) l.listed.names ≡ (list_any (digest_eq d) l.initial.listed.names || has_digest (take l.digest-index l.digests) d)
