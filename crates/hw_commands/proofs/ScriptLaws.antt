-- The script in a file, as the definition has it.
use Rattle.std.proofs.Common.{◌≡◌, ℕ, List, Option, Some, None, Ok, Err, ap}
use Rattle.hw_script.specs.Output.{output_of}
use Rattle.hw_commands.specs.declared.ended.Ended.{Ended}
use Rattle.hw_commands.specs.Commands.{Word}
use Rattle.hw_commands.specs.Texts.{read_fault_ended}
use Rattle.hw_commands.specs.Scripted.{script_ended}
use Rattle.hw_commands.specs.Program.{◌>>=◌, Held, Part, ended, script_said}

-- what the definition says of a file
abbrev file_scripted : Word → Option (List ℕ) → Ended
file_scripted name file = ended (elim file as (λ z. Part (List ℕ)) [ None ↦ Err read_fault_ended | Some bytes ↦ Ok bytes ] >>= λ bytes. Ok (script_ended name (output_of bytes)))

pub scripted : (held : Held) (name : Word) (bytes : List ℕ) → held name ≡ Some bytes → ended (script_said held name) ≡ script_ended name (output_of bytes)
scripted held name bytes is = ap (file_scripted name) is
