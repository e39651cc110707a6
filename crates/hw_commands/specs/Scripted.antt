-- How the run of a script ends.
use Rattle.std.specs.Prelude.{ℕ, List, ◌++◌, codes, Result, Ok, Err}
use Rattle.hw_text.specs.Text.{number_text}
use Rattle.hw_commands.specs.declared.ended.Ended.{Ended}
use Rattle.hw_commands.specs.Texts.{input_ended}

-- by what the file of this name prints, or by its first line outside the grammar
abbrev pub script_ended : List ℕ → Result (List ℕ) ℕ → Ended
script_ended name (Ok text) = record { status = 0; text = text }
script_ended name (Err number) = input_ended name (codes "line " ++ number_text number)
