-- What is read is what the text writes.
use Rattle.std.proofs.Common.{List, ℕ, Result, Ok, Err, IfOk, IfErr}
use Rattle.hw_types.specs.Real.{setting_of}
use Rattle.hw_script_grammar.specs.declared.script.Script.{Script}
use Rattle.hw_script_grammar.specs.declared.fault.ScriptError.{ScriptError}
use Rattle.hw_script_grammar.specs.declared.fault.ScriptError.TheVariants as error
use Rattle.hw_script_grammar.specs.Answers.{Reads, IsLine}
use Rattle.hw_script_grammar.specs.Grammar.{Writes, IsFirstWrong}
use Rattle.hw_script_grammar.specs.Script.{script_of}
use Rattle.hw_script_grammar.proofs.WritesLaws.{written_is, wrong_is, written_there, wrong_there}

pub is_written : (text : List ℕ) (r : Result Script ScriptError) → Reads (λ script. script) r (script_of text) → IfOk r (Writes text)
is_written text (Ok script) reads = written_is setting_of text script reads
is_written text (Err e) reads = tt

pub is_wrong : (text : List ℕ) (r : Result Script ScriptError) → Reads (λ script. script) r (script_of text) → IfErr r (IsLine (IsFirstWrong text))
is_wrong text (Ok script) reads = tt
is_wrong text (Err (error.Line n)) reads = wrong_is setting_of text n reads
is_wrong text (Err error.OutOfMemory) reads = tt

-- and the other way round
pub is_read : (text : List ℕ) (r : Result Script ScriptError) → IfOk r (Writes text) → IfErr r (IsLine (IsFirstWrong text)) → Reads (λ script. script) r (script_of text)
is_read text (Ok script) writes wrong = written_there setting_of text script writes
is_read text (Err (error.Line n)) writes wrong = wrong_there setting_of text n wrong
is_read text (Err error.OutOfMemory) writes wrong = tt
