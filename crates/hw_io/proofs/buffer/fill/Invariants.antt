use Rattle.std.proofs.Common.{◌≡◌, ◌+◌, ◌-◌, ◌≤◌, IsTrue, length, take, ◌++◌}
use Rattle.hw_io.specs.Reads.{OnlyReads}
use Rattle.hw_io.proofs.buffer.fill.Given as goal

abbrev pub invariant-loop-end : goal.invariant-loop-end
invariant-loop-end g l =
    let f = g.F.Files in
    record {
      later : l.held ≤ l.end;
      within : l.end ≤ length l.bytes;
      held : take l.held l.bytes ≡ take l.held l.initial.bytes;
      left : IsTrue f.tells → take l.end l.bytes ++ f.unread l.files ≡ take l.held l.initial.bytes ++ f.unread l.initial.files;
      allowance : f.allowance l.files + l.end ≡ f.allowance l.initial.files + l.held;
      faults : f.read_faults l.files ≡ f.read_faults l.initial.files;
      about : f.faults_about l.files ≡ f.faults_about l.initial.files;
      rest : OnlyReads f l.initial.files l.files;
    }

abbrev pub decreases-loop-end : goal.decreases-loop-end
decreases-loop-end g l = length l.bytes - l.end
