use Rattle.std.proofs.Common.{◌≡◌, ◌-◌, length}
use Rattle.hw_codec.specs.Compact.{changed_at}
use Rattle.hw_codec.proofs.compact.read_changes.Given as goal

abbrev pub invariant-loop : goal.invariant-loop
invariant-loop l = record {
  read : changed_at l.creator (l.count - l.counter) l.from l.panorama l.reader ≡ changed_at l.creator l.count 0 l.fn.panorama l.fn.reader;
  same : length l.panorama ≡ length l.fn.panorama;
}
