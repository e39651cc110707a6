use Rattle.std.proofs.Common.{◌≡◌, ◌+◌, ℕ, List, IsTrue, drop, map}
use Rattle.std.specs.Prelude.{string_bytes}
use Rattle.hw_io.specs.Files.{SameFiles}
use Rattle.hw_eras.specs.Nodes.{first_config}
use Rattle.hw_eras.specs.Filled.{logs_in, next_in, ahead_in, IsFilled}
use Rattle.hw_eras.specs.Turns.{HasTurnFrom}
use Rattle.hw_eras.proofs.filled.Filled.take_all.Given as goal

abbrev pub invariant-loop-log : goal.invariant-loop-log
invariant-loop-log g l = record {
  filled : IsFilled l.self;
  count : logs_in l.self ≡ logs_in l.initial.self + l.log-index;
  first : first_config l.self.eras ≡ first_config l.initial.self.eras;
  said : IsTrue g.F.Files.tells → ahead_in (g.F.Files.held l.initial.files) l.self (drop l.log-index (map string_bytes l.logs)) ≡ ahead_in (g.F.Files.held l.initial.files) l.initial.self (map string_bytes l.logs);
  reads : g.F.Files.read_faults l.files ≡ g.F.Files.read_faults l.initial.files;
  about : IsTrue g.F.Files.tells → g.F.Files.faults_about l.files ≡ g.F.Files.faults_about l.initial.files;
  turn : IsTrue g.F.Files.tells → (name : List ℕ) → HasTurnFrom (g.F.Files.held l.initial.files) (next_in l.self) (drop l.log-index (map string_bytes l.logs)) name → HasTurnFrom (g.F.Files.held l.initial.files) (next_in l.initial.self) (map string_bytes l.logs) name;
  files : SameFiles (g.F.Files.held l.initial.files) (g.F.Files.held l.files);
  appends : g.F.Files.append_faults l.files ≡ g.F.Files.append_faults l.initial.files;
}
