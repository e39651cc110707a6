-- What is proved of the grammar.
-- Source: ours.
use Rattle.std.specs.Prelude.{◌≡◌, ◌≤◌, ◌<◌, ◌↔◌, ◌⊎◌, ◌^◌, ℕ, List, decimal, Some, Ok, Err}
use Rattle.hw_types.specs.declared.config.Config.{Config}
use Rattle.hw_types.specs.Journal.{Setting}
use Rattle.hw_script_grammar.specs.declared.script.Script.{Script}
use Rattle.hw_text.specs.Numbers.{number_below}
use Rattle.hw_script_grammar.specs.Grammar.{WritesIn, IsFirstWrongIn}
use Rattle.hw_script_grammar.specs.Script.{script_in}

-- the reader's steps give exactly the script that is written
abbrev pub ThatWritesIsRead : Type 0
ThatWritesIsRead = (setting : Config → Setting) (text : List ℕ) (script : Script) → (script_in setting text ≡ Ok script) ↔ WritesIn setting text script

-- and exactly the first wrong line
abbrev pub ThatWrongIsNamed : Type 0
ThatWrongIsNamed = (setting : Config → Setting) (text : List ℕ) (n : ℕ) → (script_in setting text ≡ Err n) ↔ IsFirstWrongIn setting text n

-- no text writes two scripts
abbrev pub ThatOneIsWritten : Type 0
ThatOneIsWritten = (setting : Config → Setting) (text : List ℕ) (a b : Script) → WritesIn setting text a → WritesIn setting text b → a ≡ b

-- each text writes a script or has a first wrong line
abbrev pub ThatAllIsRead : Type 0
ThatAllIsRead = (setting : Config → Setting) (text : List ℕ) → ((script : Script) × WritesIn setting text script) ⊎ ((n : ℕ) × IsFirstWrongIn setting text n)

-- a word is a number exactly where it is the number's decimal text
abbrev pub ThatNumbersAreDecimal : Type 0
ThatNumbersAreDecimal = (limit n : ℕ) (w : List ℕ) → limit ≤ 2 ^ 64 → (number_below limit w ≡ Some n) ↔ ((w ≡ decimal n) × (n < limit))
