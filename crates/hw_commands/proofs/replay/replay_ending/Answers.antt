use Rattle.std.proofs.Common.{length, ap, ◌∙◌, ◌≡◌, arith}
use Rattle.std.proofs.lemmas.List.FromFn.{length-range_with_len}
use Rattle.hw_replay.specs.Replay.{taken_in}
use Rattle.hw_replay.specs.State.{FanoutState}
use Rattle.hw_replay.specs.Fates.{seen}
use Rattle.hw_commands.proofs.CauseLaws.{read_about}
use Rattle.hw_commands.proofs.FedLaws.{told_all, told_some}
use Rattle.hw_commands.proofs.ToldLaws.{of_replay, reported_text, reported_told, stopped_text, stopped_told}
use Rattle.hw_commands.proofs.replay.replay_ending.Goals as goal

pub replay_fed-requires-clause-room : goal.replay_fed-requires-clause-room
replay_fed-requires-clause-room g c =
    let same : length c.args.fanout.now.places ≡ length c.args.consumers.now.items = ap (λ (k : FanoutState _). length k.places) c.requires ∙ length-range_with_len 0 (length c.args.consumers.now.items) in
    omega (arith, same)

-- ---- it came to its report

pub returns-in-Ok-clause-text : goal.returns-in-Ok-clause-text
returns-in-Ok-clause-text g c = λ tells.
    let held = g.F.Files.held c.args.files.now in
    let told = told_all (seen (λ b. (goal.Consumer-dyn g (b.vtable, b.value)).consumed b.value) (λ b. (goal.Consumer-dyn g (b.vtable, b.value)).faults b.value) (λ b. (goal.Consumer-dyn g (b.vtable, b.value)).wants b.value) (λ b. b.vtable)) (taken_in c.in-Ok.replay).core c.args.consumers.now.items c.replay_fed.new.consumers.items c.reported-ended.new.consumers.items c.args.fanout.now c.replay_fed.new.fanout c.reported-ended.new.fanout
    c.requires c.in-Ok.ensures.fed c.reported-ended.ensures.finished in
    reported_text (seen (λ b. (goal.Consumer-dyn g (b.vtable, b.value)).consumed b.value) (λ b. (goal.Consumer-dyn g (b.vtable, b.value)).faults b.value) (λ b. (goal.Consumer-dyn g (b.vtable, b.value)).wants b.value) (λ b. b.vtable)) g.F.Files.tells held c.args.log.now c.args.consumers.now.items c.reported-ended.new.consumers.items c.in-Ok.replay c.reported-ended.result c.reported-ended.new.fanout.drops (c.in-Ok.ensures.said tells)
    (of_replay (seen (λ b. (goal.Consumer-dyn g (b.vtable, b.value)).consumed b.value) (λ b. (goal.Consumer-dyn g (b.vtable, b.value)).faults b.value) (λ b. (goal.Consumer-dyn g (b.vtable, b.value)).wants b.value) (λ b. b.vtable)) g.F.Files.tells held c.args.log.now c.args.consumers.now.items c.reported-ended.new.consumers.items c.in-Ok.replay c.reported-ended.new.fanout.drops c.in-Ok.ensures.said told) c.reported-ended.ensures.text

pub returns-in-Ok-clause-told : goal.returns-in-Ok-clause-told
returns-in-Ok-clause-told g c =
    let held = g.F.Files.held c.args.files.now in
    let told = told_all (seen (λ b. (goal.Consumer-dyn g (b.vtable, b.value)).consumed b.value) (λ b. (goal.Consumer-dyn g (b.vtable, b.value)).faults b.value) (λ b. (goal.Consumer-dyn g (b.vtable, b.value)).wants b.value) (λ b. b.vtable)) (taken_in c.in-Ok.replay).core c.args.consumers.now.items c.replay_fed.new.consumers.items c.reported-ended.new.consumers.items c.args.fanout.now c.replay_fed.new.fanout c.reported-ended.new.fanout
    c.requires c.in-Ok.ensures.fed c.reported-ended.ensures.finished in
    reported_told (seen (λ b. (goal.Consumer-dyn g (b.vtable, b.value)).consumed b.value) (λ b. (goal.Consumer-dyn g (b.vtable, b.value)).faults b.value) (λ b. (goal.Consumer-dyn g (b.vtable, b.value)).wants b.value) (λ b. b.vtable)) g.F.Files.tells held c.args.log.now c.args.consumers.now.items c.reported-ended.new.consumers.items c.reported-ended.result c.reported-ended.new.fanout.drops _
    (of_replay (seen (λ b. (goal.Consumer-dyn g (b.vtable, b.value)).consumed b.value) (λ b. (goal.Consumer-dyn g (b.vtable, b.value)).faults b.value) (λ b. (goal.Consumer-dyn g (b.vtable, b.value)).wants b.value) (λ b. b.vtable)) g.F.Files.tells held c.args.log.now c.args.consumers.now.items c.reported-ended.new.consumers.items c.in-Ok.replay c.reported-ended.new.fanout.drops c.in-Ok.ensures.said told) c.reported-ended.ensures.text c.reported-ended.ensures.fault

-- ---- it was stopped

pub returns-in-Err-clause-text : goal.returns-in-Err-clause-text
returns-in-Err-clause-text g c = λ tells.
    stopped_text (seen (λ b. (goal.Consumer-dyn g (b.vtable, b.value)).consumed b.value) (λ b. (goal.Consumer-dyn g (b.vtable, b.value)).faults b.value) (λ b. (goal.Consumer-dyn g (b.vtable, b.value)).wants b.value) (λ b. b.vtable)) g.F.Files.tells (g.F.Files.held c.args.files.now) c.args.log.now
    c.args.consumers.now.items c.replay_fed.new.consumers.items c.in-Err.fault c.stopped.result (c.in-Err.ensures.said tells) c.stopped.ensures.said

pub returns-in-Err-clause-told : goal.returns-in-Err-clause-told
returns-in-Err-clause-told g c =
    let held = g.F.Files.held c.args.files.now in
    stopped_told (seen (λ b. (goal.Consumer-dyn g (b.vtable, b.value)).consumed b.value) (λ b. (goal.Consumer-dyn g (b.vtable, b.value)).faults b.value) (λ b. (goal.Consumer-dyn g (b.vtable, b.value)).wants b.value) (λ b. b.vtable)) g.F.Files.tells held c.args.log.now
    c.args.consumers.now.items c.replay_fed.new.consumers.items c.in-Err.fault c.stopped.result _ _
    (told_some (seen (λ b. (goal.Consumer-dyn g (b.vtable, b.value)).consumed b.value) (λ b. (goal.Consumer-dyn g (b.vtable, b.value)).faults b.value) (λ b. (goal.Consumer-dyn g (b.vtable, b.value)).wants b.value) (λ b. b.vtable)) g.F.Files.tells (held c.args.log.now) c.in-Err.fault
    c.args.consumers.now.items c.replay_fed.new.consumers.items c.args.fanout.now c.replay_fed.new.fanout c.requires c.in-Err.ensures.part) c.stopped.ensures.said (c.stopped.ensures.cause _ _ c.in-Err.ensures.cause.counted)

pub returns-in-Err-clause-fault : goal.returns-in-Err-clause-fault
returns-in-Err-clause-fault g c = record { later = c.in-Err.ensures.cause.later; counted = c.stopped.ensures.cause _ _ c.in-Err.ensures.cause.counted }

pub returns-in-Err-clause-about : goal.returns-in-Err-clause-about
returns-in-Err-clause-about g c = λ tells.
    read_about (g.F.Files.held c.args.files.now c.args.log.now) c.args.log.now _ _ c.in-Err.fault c.stopped.result (c.in-Err.ensures.about tells) c.stopped.ensures.read
