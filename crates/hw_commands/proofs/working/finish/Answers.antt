use Rattle.std.proofs.Common.{inr}
use Rattle.hw_commands.proofs.RunLaws.{prefix_then_line}
use Rattle.hw_commands.proofs.working.finish.Goals as goal

pub returns-in-Err-OutOfMemory : goal.returns-in-Err-OutOfMemory
returns-in-Err-OutOfMemory g c =
    let taken = g.S.Sink.taken in
    inr (inr (c.out_of_memory.ensures.status, (c.out_of_memory.ensures.wants (g.S.Sink.wants c.args.out.now) (rw c.in-Err-OutOfMemory.field-0-is at c.in-Err-OutOfMemory.ensures.want), prefix_then_line (taken c.args.out.now) (taken c.write_all.new.sink) (taken c.out_of_memory.new.out) c.args.text.now c.in-Err-OutOfMemory.ensures.err c.out_of_memory.ensures.prefix)))
