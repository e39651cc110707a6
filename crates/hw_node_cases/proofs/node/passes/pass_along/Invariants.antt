use Rattle.std.proofs.Common.{◌≤◌, length}
use Rattle.hw_doubles.specs.Memory.{mem_allowance}
use Rattle.hw_log.specs.Reader.{ahead_of}
use Rattle.hw_replay.specs.Steps.{HasRoom}
use Rattle.hw_replay.specs.Chain.{told_chain}
use Rattle.hw_node_cases.proofs.node.passes.pass_along.Given as goal

abbrev pub invariant-entries : goal.invariant-entries
invariant-entries g l = record {
  replay : HasRoom l.replay (mem_allowance l.files);
  room : length l.consumers.items ≤ length l.fanout.places;
  passed : l.fanout.passed ≤ length (told_chain l.replay.core);
}

abbrev pub decreases-entries : goal.decreases-entries
decreases-entries g l = ahead_of l.replay.reader (mem_allowance l.files)
