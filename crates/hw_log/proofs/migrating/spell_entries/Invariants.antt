use Rattle.std.proofs.Common.{◌≡◌, ◌+◌, ◌^◌, ◌≤◌, ℕ, List, IsTrue}
use Rattle.hw_io.specs.Files.{SameFiles}
use Rattle.hw_log.specs.Reader.{PlacesFit, ahead_of}
use Rattle.hw_log.specs.Migrated.{StandsBehindSpelled}
use Rattle.hw_log.proofs.migrating.spell_entries.Given as goal

abbrev pub invariant-loop-entry : goal.invariant-loop-entry
invariant-loop-entry g l = record {
  stands : IsTrue g.F.Files.tells → (bytes : List ℕ)
      → StandsBehindSpelled bytes l.initial.reader (g.F.Files.unread l.initial.files) l.initial.lasts l.initial.lasts l.initial.text l.initial.text 0
      → StandsBehindSpelled bytes l.reader (g.F.Files.unread l.files) l.initial.lasts l.lasts l.initial.text l.text l.count;
  config : l.reader.config ≡ l.initial.reader.config;
  places : PlacesFit l.reader (g.F.Files.allowance l.files);
  few : l.count + ahead_of l.reader (g.F.Files.allowance l.files) ≤ 2 ^ 62;
  counted : g.F.Files.read_faults l.files ≡ g.F.Files.read_faults l.initial.files;
  about : g.F.Files.faults_about l.files ≡ g.F.Files.faults_about l.initial.files;
  begun : g.F.Files.begun l.files ≡ g.F.Files.begun l.initial.files;
  files : SameFiles (g.F.Files.held l.initial.files) (g.F.Files.held l.files);
  appends : g.F.Files.append_faults l.files ≡ g.F.Files.append_faults l.initial.files;
}

abbrev pub decreases-loop-entry : goal.decreases-loop-entry
decreases-loop-entry g l = ahead_of l.reader (g.F.Files.allowance l.files)
