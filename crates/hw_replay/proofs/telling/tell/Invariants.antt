use Rattle.std.proofs.Common.{◌≡◌, ◌≤◌}
use Rattle.std.specs.Option.{option_map}
use Rattle.hw_replay.specs.Chain.{told_chain}
use Rattle.hw_replay.specs.Told.{blocks_between, with_more}
use Rattle.hw_replay.proofs.telling.tell.Given as goal

abbrev pub invariant-loop-index : goal.invariant-loop-index
invariant-loop-index g l = record {
  more : l.from ≤ l.index;
  took : (goal.Consumer-dyn g (l.consumer.vtable, l.consumer.value)).consumed l.consumer.value ≡ option_map (with_more (blocks_between l.from l.index (told_chain l.core))) ((goal.Consumer-dyn g (l.initial.consumer.vtable, l.initial.consumer.value)).consumed l.initial.consumer.value);
  faults : (goal.Consumer-dyn g (l.consumer.vtable, l.consumer.value)).faults l.consumer.value ≡ (goal.Consumer-dyn g (l.initial.consumer.vtable, l.initial.consumer.value)).faults l.initial.consumer.value;
  wants : (goal.Consumer-dyn g (l.consumer.vtable, l.consumer.value)).wants l.consumer.value ≡ (goal.Consumer-dyn g (l.initial.consumer.vtable, l.initial.consumer.value)).wants l.initial.consumer.value;
  kind : l.consumer.vtable ≡ l.initial.consumer.vtable;
}
