use Rattle.std.proofs.Common.{map, ap, ◌∙◌}
use Rattle.std.proofs.lemmas.Simd.{map-map}
use Rattle.sha2.specs.Sha256.{sha256}
use Rattle.hw_types.specs.Spelling.{unit_bytes}
use Rattle.hw_cluster.proofs.names.digests_of.Goals as goal

pub returns : goal.returns
returns c = c.in_ok-digests.ensures ∙ ap (map sha256) c.in_ok-spellings.ensures ∙ map-map sha256 unit_bytes c.args.units.now
