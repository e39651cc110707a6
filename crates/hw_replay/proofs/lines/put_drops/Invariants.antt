use Rattle.std.proofs.Common.{◌≡◌, ◌++◌, take}
use Rattle.hw_replay.specs.Lines.{drop_lines}
use Rattle.hw_replay.proofs.lines.put_drops.Given as goal

abbrev pub invariant-loop-index : goal.invariant-loop-index
invariant-loop-index g l = l.out ≡ l.initial.out ++ drop_lines (take l.index l.fanout.drops)
