use Rattle.std.proofs.Common.{◌≡◌, ◌++◌, IsTrue}
use Rattle.hw_io.specs.Files.{SameFiles}
use Rattle.hw_log.proofs.file.read_rest.Given as goal

abbrev pub invariant-pieces : goal.invariant-pieces
invariant-pieces g l =
    let f = g.F.Files in
    record {
      left : IsTrue f.tells → l.bytes.items ++ f.unread l.files ≡ l.initial.bytes.items ++ f.unread l.initial.files;
      faults : f.read_faults l.files ≡ f.read_faults l.initial.files;
      about : f.faults_about l.files ≡ f.faults_about l.initial.files;
      begun : f.begun l.files ≡ f.begun l.initial.files;
      files : SameFiles (f.held l.initial.files) (f.held l.files);
      appends : f.append_faults l.files ≡ f.append_faults l.initial.files;
    }

abbrev pub decreases-pieces : goal.decreases-pieces
decreases-pieces g l = g.F.Files.allowance l.files
