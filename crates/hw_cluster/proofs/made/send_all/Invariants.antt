use Rattle.std.proofs.Common.{◌≡◌, ◌++◌, drop, map, length}
use Rattle.std.specs.Prelude.{fold}
use Rattle.sha2.specs.Sha256.{sha256}
use Rattle.hw_types.specs.Spelling.{unit_bytes}
use Rattle.hw_honest.specs.Cluster.{signed}
use Rattle.hw_cluster.specs.Lanes.{with_unit}
use Rattle.hw_cluster.specs.Made.{AreOurs}
use Rattle.hw_cluster.proofs.made.send_all.Given as goal

-- the units so far are noted and sent, and the others are validators', with their digests from the place on
abbrev pub invariant-loop-unit : goal.invariant-loop-unit
invariant-loop-unit l = record {
  noted : l.lanes ≡ fold with_unit l.initial.lanes l.yielded;
  sent : l.sent.items ≡ l.initial.sent.items ++ map signed l.yielded;
  ours : AreOurs (length l.initial.lanes.last) l.unit-iterator.rest.items;
  digests : drop l.place l.digests.items ≡ map (λ u. sha256 (unit_bytes u)) l.unit-iterator.rest.items;
}
