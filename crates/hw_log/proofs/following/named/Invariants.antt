use Rattle.std.proofs.Common.{◌≡◌, length, map}
use Rattle.std.specs.Prelude.{All}
use Rattle.sha2.specs.Sha256.{sha256}
use Rattle.hw_types.specs.Spelling.{unit_bytes}
use Rattle.hw_log.specs.Following.{Follows, IsRead, unit_of}
use Rattle.hw_log.proofs.following.named.Given as goal

abbrev pub invariant-units : goal.invariant-units
invariant-units l =
    All (IsRead l.lasts) l.units.items
    × (l.digests.items ≡ map (λ read. sha256 (unit_bytes (unit_of read))) l.units.items)
    × All (Follows l.lasts) l.named.items

abbrev pub decreases-units : goal.decreases-units
decreases-units l = length l.units.items
