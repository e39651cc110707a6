use Rattle.std.proofs.Common.{◌≡◌, IsTrue}
use Rattle.hw_io.specs.Files.{SameFiles}
use Rattle.hw_log.specs.Reader.{ahead_of}
use Rattle.hw_replay.specs.Replay.{ahead_in}
use Rattle.hw_replay.specs.Ends.{lasts_ahead, IsReached}
use Rattle.hw_replay.specs.Steps.{HasRoom}
use Rattle.hw_replay.proofs.replay.take_all.Given as goal

abbrev pub invariant-entries : goal.invariant-entries
invariant-entries g l = record {
  ahead : IsTrue g.F.Files.tells → ahead_in l.replay (g.F.Files.unread l.files) ≡ ahead_in l.initial.replay (g.F.Files.unread l.initial.files);
  lasts : IsTrue g.F.Files.tells → lasts_ahead l.replay (g.F.Files.unread l.files) ≡ lasts_ahead l.initial.replay (g.F.Files.unread l.initial.files);
  reached : IsReached l.initial.replay.core → IsReached l.replay.core;
  config : l.replay.core.config ≡ l.initial.replay.core.config;
  room : HasRoom l.replay (g.F.Files.allowance l.files);
  about : g.F.Files.faults_about l.files ≡ g.F.Files.faults_about l.initial.files;
  begun : g.F.Files.begun l.files ≡ g.F.Files.begun l.initial.files;
  counted : g.F.Files.read_faults l.files ≡ g.F.Files.read_faults l.initial.files;
  files : SameFiles (g.F.Files.held l.initial.files) (g.F.Files.held l.files);
  appends : g.F.Files.append_faults l.files ≡ g.F.Files.append_faults l.initial.files;
}

abbrev pub decreases-entries : goal.decreases-entries
decreases-entries g l = ahead_of l.replay.reader (g.F.Files.allowance l.files)
