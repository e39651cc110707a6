use Rattle.std.proofs.Common.{refl, ◌∙◌, inl, inr, arith}
use Rattle.hw_commands.specs.Commands.{request_of}
use Rattle.hw_replay.specs.Fates.{seen}
use Rattle.hw_commands.specs.Program.{run_of}
use Rattle.hw_commands.proofs.EndLaws.{finished_files, memory_files, allowed_run, allowed_end, write_failed, append_told, append_untold, finished_shown, four_shows_nothing, five_shows_nothing, seven_shows_nothing}
use Rattle.hw_commands.proofs.WrittenLaws.{end_consumers, fault_consumers, memory_consumers, line_written, text_written, want_written}
use Rattle.hw_commands.proofs.working.work.Goals as goal

-- ---- what it leaves of the files

pub returns-in-Ok-clause-left : goal.returns-in-Ok-clause-left
returns-in-Ok-clause-left g c = λ tells. finished_files (request_of c.args.words.now) _ _ _ _ _ _ _ c.finish.ensures (c.in-Ok.ensures.left tells)

pub returns-in-Err-Read-clause-left : goal.returns-in-Err-Read-clause-left
returns-in-Err-Read-clause-left g c = λ tells. finished_files (request_of c.args.words.now) _ _ _ _ _ _ _ c.finish-in-Err-Read.ensures (rw c.in-Err-Read.field-0-is at (c.in-Err-Read.ensures.left tells))

pub returns-in-Err-Append-clause-left : goal.returns-in-Err-Append-clause-left
returns-in-Err-Append-clause-left g c = λ tells. finished_files (request_of c.args.words.now) _ _ _ _ _ _ _ c.finish-in-Err-Append.ensures (rw c.in-Err-Append.field-0-is at (c.in-Err-Append.ensures.left tells))

pub returns-in-Err-OutOfMemory-clause-left : goal.returns-in-Err-OutOfMemory-clause-left
returns-in-Err-OutOfMemory-clause-left g c = λ tells. memory_files (request_of c.args.words.now) _ _ _ _ c.out_of_memory.ensures.status (c.in-Err-OutOfMemory.ensures.left tells)

-- ---- what is allowed is done

pub returns-in-Ok-clause-allowed : goal.returns-in-Ok-clause-allowed
returns-in-Ok-clause-allowed g c = λ tells may reads faults appends.
    allowed_end _ _ _ _ _ c.finish.ensures (c.in-Ok.ensures.said tells ∙ allowed_run c.args.words.now (g.F.Files.held c.args.files.now) may) faults

-- ---- what is written

pub returns-in-Ok-clause-text : goal.returns-in-Ok-clause-text
returns-in-Ok-clause-text g c = λ tells is.
    (c.in-Ok.ended.text, (c.in-Ok.ensures.text tells, text_written c.in-Ok.ended.status c.in-Ok.ended.text _ _ _ (rw c.as_slice.ensures at c.finish.ensures) is))

pub returns-in-Ok-clause-line : goal.returns-in-Ok-clause-line
returns-in-Ok-clause-line g c = λ tells is.
    line_written (seen (λ b. (goal.Consumer-dyn g (b.vtable, b.value)).consumed b.value) (λ b. (goal.Consumer-dyn g (b.vtable, b.value)).faults b.value) (λ b. (goal.Consumer-dyn g (b.vtable, b.value)).wants b.value) (λ b. b.vtable)) g.F.Files.tells (g.F.Files.held c.args.files.now)
    _ _ c.args.consumers.now.items c.run.new.consumers.items (request_of c.args.words.now) (run_of c.args.words.now (g.F.Files.held c.args.files.now)) c.in-Ok.ended _
    (c.in-Ok.ensures.said tells) (c.in-Ok.ensures.text tells) (rw c.as_slice.ensures at c.finish.ensures) is

-- a prefix, where a write failed
pub returns-in-Ok-clause-cut : goal.returns-in-Ok-clause-cut
returns-in-Ok-clause-cut g c = λ tells reads five.
    let w = write_failed (request_of c.args.words.now) c.in-Ok.ended c.in-Ok.ended _ _ _ c.in-Ok.ensures.status refl (rw c.as_slice.ensures at c.finish.ensures) five in
    (c.in-Ok.ended.text, (c.in-Ok.ensures.text tells, w.1))

pub returns-in-Ok-clause-append_line : goal.returns-in-Ok-clause-append_line
returns-in-Ok-clause-append_line g c = λ tells five.
    let w = write_failed (request_of c.args.words.now) c.in-Ok.ended c.in-Ok.ended _ _ _ c.in-Ok.ensures.status refl (rw c.as_slice.ensures at c.finish.ensures) five in
    inl (w.0, (c.in-Ok.ended.text, (c.in-Ok.ensures.text tells, w.1)))

pub returns-in-Err-Append-clause-append_line : goal.returns-in-Err-Append-clause-append_line
returns-in-Err-Append-clause-append_line g c = λ tells five.
    inr (append_told _ _ _ _ _ (rw c.as_bytes-in-Err-Append.ensures.value at c.finish-in-Err-Append.ensures) (rw c.in-Err-Append.field-0-is at c.in-Err-Append.ensures.fault.appends_counted) five)

-- as much as before a write that found no memory
pub returns-in-Ok-clause-memory_line : goal.returns-in-Ok-clause-memory_line
returns-in-Ok-clause-memory_line g c = λ tells reads seven.
    inr (inl (c.in-Ok.ended.text, (c.in-Ok.ensures.text tells, want_written (request_of c.args.words.now) c.in-Ok.ended _ _ _ c.in-Ok.ensures.status (rw c.as_slice.ensures at c.finish.ensures) seven)))

pub returns-in-Ok-clause-any_memory_line : goal.returns-in-Ok-clause-any_memory_line
returns-in-Ok-clause-any_memory_line g c = λ tells seven.
    inl (inr (inl (c.in-Ok.ended.text, (c.in-Ok.ensures.text tells, want_written (request_of c.args.words.now) c.in-Ok.ended _ _ _ c.in-Ok.ensures.status (rw c.as_slice.ensures at c.finish.ensures) seven))))

pub returns-in-Err-Append-clause-any_memory_line : goal.returns-in-Err-Append-clause-any_memory_line
returns-in-Err-Append-clause-any_memory_line g c = λ tells seven.
    append_untold _ _ _ _ _ _ (rw c.as_bytes-in-Err-Append.ensures.value at c.finish-in-Err-Append.ensures) (rw c.in-Err-Append.field-0-is at c.in-Err-Append.ensures.fault.appends_counted) seven

-- ---- what the consumers were told

pub returns-in-Ok-clause-consumers : goal.returns-in-Ok-clause-consumers
returns-in-Ok-clause-consumers g c =
    end_consumers (seen (λ b. (goal.Consumer-dyn g (b.vtable, b.value)).consumed b.value) (λ b. (goal.Consumer-dyn g (b.vtable, b.value)).faults b.value) (λ b. (goal.Consumer-dyn g (b.vtable, b.value)).wants b.value) (λ b. b.vtable)) g.F.Files.tells (g.F.Files.held c.args.files.now)
    _ _ c.args.consumers.now.items c.run.new.consumers.items (request_of c.args.words.now) c.in-Ok.ended _ c.in-Ok.ensures.status (rw c.as_slice.ensures at c.finish.ensures) c.in-Ok.ensures.consumers

pub returns-in-Err-Read-clause-consumers : goal.returns-in-Err-Read-clause-consumers
returns-in-Err-Read-clause-consumers g c =
    fault_consumers (seen (λ b. (goal.Consumer-dyn g (b.vtable, b.value)).consumed b.value) (λ b. (goal.Consumer-dyn g (b.vtable, b.value)).faults b.value) (λ b. (goal.Consumer-dyn g (b.vtable, b.value)).wants b.value) (λ b. b.vtable)) g.F.Files.tells (g.F.Files.held c.args.files.now)
    _ _ c.args.consumers.now.items c.run.new.consumers.items (request_of c.args.words.now) 4 _ _ (λ three. omega (arith, three)) c.finish-in-Err-Read.ensures (rw c.in-Err-Read.field-0-is at c.in-Err-Read.ensures.consumers)

pub returns-in-Err-Append-clause-consumers : goal.returns-in-Err-Append-clause-consumers
returns-in-Err-Append-clause-consumers g c =
    fault_consumers (seen (λ b. (goal.Consumer-dyn g (b.vtable, b.value)).consumed b.value) (λ b. (goal.Consumer-dyn g (b.vtable, b.value)).faults b.value) (λ b. (goal.Consumer-dyn g (b.vtable, b.value)).wants b.value) (λ b. b.vtable)) g.F.Files.tells (g.F.Files.held c.args.files.now)
    _ _ c.args.consumers.now.items c.run.new.consumers.items (request_of c.args.words.now) 5 _ _ (λ three. omega (arith, three)) c.finish-in-Err-Append.ensures (rw c.in-Err-Append.field-0-is at c.in-Err-Append.ensures.consumers)

pub returns-in-Err-OutOfMemory-clause-consumers : goal.returns-in-Err-OutOfMemory-clause-consumers
returns-in-Err-OutOfMemory-clause-consumers g c =
    memory_consumers (seen (λ b. (goal.Consumer-dyn g (b.vtable, b.value)).consumed b.value) (λ b. (goal.Consumer-dyn g (b.vtable, b.value)).faults b.value) (λ b. (goal.Consumer-dyn g (b.vtable, b.value)).wants b.value) (λ b. b.vtable)) g.F.Files.tells (g.F.Files.held c.args.files.now)
    c.args.consumers.now.items c.run.new.consumers.items (request_of c.args.words.now) _ _ c.out_of_memory.ensures.status c.in-Err-OutOfMemory.ensures.consumers

-- ---- what a check shows

pub returns-in-Ok-clause-certified : goal.returns-in-Ok-clause-certified
returns-in-Ok-clause-certified g c = λ tells. finished_shown c.args.words.now (g.F.Files.held c.args.files.now) c.in-Ok.ended _ _ _ (rw c.as_slice.ensures at c.finish.ensures) (c.in-Ok.ensures.said tells)

pub returns-in-Err-Read-clause-certified : goal.returns-in-Err-Read-clause-certified
returns-in-Err-Read-clause-certified g c = λ tells. four_shows_nothing _ _ _ _ c.finish-in-Err-Read.ensures

pub returns-in-Err-Append-clause-certified : goal.returns-in-Err-Append-clause-certified
returns-in-Err-Append-clause-certified g c = λ tells. five_shows_nothing _ _ _ _ c.finish-in-Err-Append.ensures

pub returns-in-Err-OutOfMemory-clause-certified : goal.returns-in-Err-OutOfMemory-clause-certified
returns-in-Err-OutOfMemory-clause-certified g c = λ tells. seven_shows_nothing _ c.out_of_memory.ensures.status
