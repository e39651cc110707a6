use Rattle.std.proofs.Common.{◌≡◌, ◌+◌, ◌^◌, ◌≤◌, ℕ, List, IsTrue}
use Rattle.hw_io.specs.Files.{SameFiles}
use Rattle.hw_log.specs.Reader.{PlacesFit, ahead_of}
use Rattle.hw_log.specs.Measured.{StandsBehindSome}
use Rattle.hw_log.proofs.measure.count_entries.Given as goal

abbrev pub invariant-entries : goal.invariant-entries
invariant-entries g l = record {
  stands : IsTrue g.F.Files.tells → (bytes : List ℕ) → StandsBehindSome bytes 0 l.initial.reader (g.F.Files.unread l.initial.files) → StandsBehindSome bytes l.count l.reader (g.F.Files.unread l.files);
  places : PlacesFit l.reader (g.F.Files.allowance l.files);
  few : l.count + ahead_of l.reader (g.F.Files.allowance l.files) ≤ 2 ^ 62;
  counted : g.F.Files.read_faults l.files ≡ g.F.Files.read_faults l.initial.files;
  about : g.F.Files.faults_about l.files ≡ g.F.Files.faults_about l.initial.files;
  begun : g.F.Files.begun l.files ≡ g.F.Files.begun l.initial.files;
  files : SameFiles (g.F.Files.held l.initial.files) (g.F.Files.held l.files);
  appends : g.F.Files.append_faults l.files ≡ g.F.Files.append_faults l.initial.files;
}

abbrev pub decreases-entries : goal.decreases-entries
decreases-entries g l = ahead_of l.reader (g.F.Files.allowance l.files)
