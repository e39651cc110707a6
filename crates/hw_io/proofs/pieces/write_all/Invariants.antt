use Rattle.std.proofs.Common.{◌≡◌, length, take, ◌-◌, ◌≤◌}
use Rattle.std.specs.Io.KnownBytes.{Appends}
use Rattle.hw_io.proofs.pieces.write_all.Given as goal

abbrev pub invariant-loop-done : goal.invariant-loop-done
invariant-loop-done g l = record {
  within : l.done ≤ length l.bytes;
  taken : Appends (g.S.Sink.taken l.initial.sink) (g.S.Sink.taken l.sink) (take l.done l.bytes);
  faults : g.S.Sink.faults l.sink ≡ g.S.Sink.faults l.initial.sink;
  wants : g.S.Sink.wants l.sink ≡ g.S.Sink.wants l.initial.sink;
}

abbrev pub decreases-loop-done : goal.decreases-loop-done
decreases-loop-done g l = length l.bytes - l.done
