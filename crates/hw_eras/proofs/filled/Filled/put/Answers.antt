use Rattle.hw_replay.specs.Replay.{taken_in}
use Rattle.hw_eras.specs.declared.filled.Filled.{Filled}
use Rattle.hw_eras.proofs.FilledLaws.{put_taken}
use Rattle.hw_eras.proofs.filled.Filled.put.Goals as goal

pub returns : goal.returns
returns c =
    let x : Filled = record { alloc = c.args.self.now.alloc; eras = c.put_last.new.self; counts = c.push.new.self } in
    record { taken = put_taken c.args.self.now x c.open.new.self (taken_in c.args.replay.now) c.open.result c.requires.filled c.requires.there c.put_last.ensures.put c.in_ok-push.ensures.items c.open.ensures.eras c.open.ensures.counts }
