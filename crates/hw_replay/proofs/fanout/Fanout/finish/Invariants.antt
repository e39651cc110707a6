use Rattle.std.proofs.Common.{◌≡◌, ◌-◌, ◌≤◌, length}
use Rattle.hw_replay.specs.Fates.{seen}
use Rattle.hw_replay.specs.Told.{IsFinished}
use Rattle.hw_replay.proofs.Serving.{AreUnderWay}
use Rattle.hw_replay.proofs.fanout.Fanout.finish.Given as goal

abbrev pub invariant-loop-index : goal.invariant-loop-index
invariant-loop-index g l = record {
  served : AreUnderWay (IsFinished (seen (λ b. (goal.Consumer-dyn g (b.vtable, b.value)).consumed b.value) (λ b. (goal.Consumer-dyn g (b.vtable, b.value)).faults b.value) (λ b. (goal.Consumer-dyn g (b.vtable, b.value)).wants b.value) (λ b. b.vtable))) l.fn.consumers.items l.consumers.items l.fn.self l.self l.index;
  room : length l.consumers.items ≤ length l.self.places;
  passed : l.self.passed ≡ l.fn.self.passed;
}

abbrev pub decreases-loop-index : goal.decreases-loop-index
decreases-loop-index g l = length l.consumers.items - l.index
