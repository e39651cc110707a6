use Rattle.hw_program.proofs.ServedLaws.{line_of_fault, append_stopped}
use Rattle.hw_program.proofs.ends.tell.Goals as goal

pub returns-in-Err-Read : goal.returns-in-Err-Read
returns-in-Err-Read g c = line_of_fault _ _ _ _ _ (c.in-Err-Read.ensures.read c.in-Err-Read.field-0-is) (rw c.as_bytes.ensures.value at c.finish-in-Err-Read.ensures)

pub returns-in-Err-Append : goal.returns-in-Err-Append
returns-in-Err-Append g c = line_of_fault _ _ _ _ _ (append_stopped _ _ (c.in-Err-Append.ensures.append c.in-Err-Append.field-0-is)) (rw c.as_bytes-in-Err-Append.ensures.value at c.finish-in-Err-Append.ensures)
