use Rattle.std.proofs.Common.{◌≡◌, ◌≤◌, length, IsTrue}
use Rattle.std.specs.Prelude.{All}
use Rattle.hw_io.specs.Files.{SameFiles}
use Rattle.hw_log.specs.Reader.{ahead_of}
use Rattle.hw_replay.specs.Replay.{ahead_in}
use Rattle.hw_replay.specs.Ends.{lasts_ahead, IsReached}
use Rattle.hw_replay.specs.Steps.{HasRoom}
use Rattle.hw_replay.specs.Fates.{seen}
use Rattle.hw_replay.specs.Chain.{told_chain}
use Rattle.hw_replay.specs.Told.{HasTaken}
use Rattle.hw_replay.specs.Feed.{moment, AreFed}
use Rattle.hw_replay.specs.Midway.{midway_in, HasRead}
use Rattle.hw_replay.proofs.feed.feed_all.Given as goal

abbrev pub invariant-entries : goal.invariant-entries
invariant-entries g l = record {
  ahead : IsTrue g.F.Files.tells → ahead_in l.replay (g.F.Files.unread l.files) ≡ ahead_in l.initial.replay (g.F.Files.unread l.initial.files);
  lasts : IsTrue g.F.Files.tells → lasts_ahead l.replay (g.F.Files.unread l.files) ≡ lasts_ahead l.initial.replay (g.F.Files.unread l.initial.files);
  read : IsTrue g.F.Files.tells → HasRead (midway_in l.initial.replay (g.F.Files.unread l.initial.files)) (midway_in l.replay (g.F.Files.unread l.files));
  reached : IsReached l.initial.replay.core → IsReached l.replay.core;
  config : l.replay.core.config ≡ l.initial.replay.core.config;
  room : HasRoom l.replay (g.F.Files.allowance l.files);
  fed : AreFed (seen (λ b. (goal.Consumer-dyn g (b.vtable, b.value)).consumed b.value) (λ b. (goal.Consumer-dyn g (b.vtable, b.value)).faults b.value) (λ b. (goal.Consumer-dyn g (b.vtable, b.value)).wants b.value) (λ b. b.vtable)) (moment l.initial.replay.core l.initial.consumers.items l.initial.fanout) (moment l.replay.core l.consumers.items l.fanout);
  places : length l.consumers.items ≤ length l.fanout.places;
  passed : l.fanout.passed ≡ length (told_chain l.replay.core);
  whole : All (λ b. HasTaken (told_chain l.initial.replay.core) l.initial.fanout.passed ((goal.Consumer-dyn g (b.vtable, b.value)).consumed b.value)) l.initial.consumers.items → All (λ b. HasTaken (told_chain l.replay.core) l.fanout.passed ((goal.Consumer-dyn g (b.vtable, b.value)).consumed b.value)) l.consumers.items;
  about : g.F.Files.faults_about l.files ≡ g.F.Files.faults_about l.initial.files;
  begun : g.F.Files.begun l.files ≡ g.F.Files.begun l.initial.files;
  counted : g.F.Files.read_faults l.files ≡ g.F.Files.read_faults l.initial.files;
  files : SameFiles (g.F.Files.held l.initial.files) (g.F.Files.held l.files);
  appends : g.F.Files.append_faults l.files ≡ g.F.Files.append_faults l.initial.files;
}

abbrev pub decreases-entries : goal.decreases-entries
decreases-entries g l = ahead_of l.replay.reader (g.F.Files.allowance l.files)
