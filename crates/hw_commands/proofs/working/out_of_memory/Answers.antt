use Rattle.hw_commands.proofs.RunLaws.{wrote_prefix, wrote_memory_line, rose_still}
use Rattle.hw_commands.proofs.working.out_of_memory.Goals as goal

pub returns-clause-line : goal.returns-clause-line
returns-clause-line g c =
    wrote_memory_line c.write_all.result _ _ (rw c.as_bytes.ensures.value at c.write_all.ensures.ok) (rw c.as_bytes.ensures.value at c.write_all.ensures.err) c.write_all.ensures.cause.failed c.write_all.ensures.want

pub returns-clause-prefix : goal.returns-clause-prefix
returns-clause-prefix g c =
    let taken = g.S.Sink.taken in
    wrote_prefix c.write_all.result (taken c.args.out.now) (taken c.write_all.new.sink) _ (rw c.as_bytes.ensures.value at c.write_all.ensures.ok) (rw c.as_bytes.ensures.value at c.write_all.ensures.err)

pub returns-clause-wants : goal.returns-clause-wants
returns-clause-wants g c = λ before rose. rose_still c.write_all.result before _ _ c.write_all.ensures.want rose
