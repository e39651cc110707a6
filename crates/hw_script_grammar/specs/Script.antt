-- What a text says, or the first line outside the grammar.
-- For the prover: the reader's steps. What a reader believes is Grammar; the law `writes_is_script_of` says that the two are one.
-- Source: ours.
use Rattle.std.specs.Prelude.{ℕ, ◌+◌, List, length, Some, Result, Ok, Err}
use Rattle.hw_types.specs.declared.config.Config.{Config}
use Rattle.hw_types.specs.Journal.{Setting}
use Rattle.hw_types.specs.Real.{setting_of}
use Rattle.hw_script_grammar.specs.declared.script.Script.{Script}
use Rattle.hw_script_grammar.specs.Texts.{texts_of}
use Rattle.hw_script_grammar.specs.Lines.{lines_behind}
use Rattle.hw_script_grammar.specs.Settings.{no_head, head_from, config_or_line}
use Rattle.hw_script_grammar.specs.Body.{nothing_said, lines_add}

-- go on with what was read, or stop at the line
infixl 10 ◌>>=◌
abbrev pub ◌>>=◌ : {A B : Type 0} → Result A ℕ → (A → Result B ℕ) → Result B ℕ
(Ok x) >>= f = f x
(Err line) >>= f = Err line

-- What the text says, where units are named so; or the number of the first line outside the grammar.
unfoldable pub script_in : (Config → Setting) → List ℕ → Result Script ℕ
script_in setting text = do
  head ← head_from no_head (lines_behind 0 (texts_of (Some text)))
  config ← config_or_line (length (texts_of (Some text)) + 1) head.0 head.1
  said ← lines_add (setting config) nothing_said head.1
  Ok (record { config = config; names = said.names; acts = said.acts })

-- with names by SHA-256
abbrev pub script_of : List ℕ → Result Script ℕ
script_of text = script_in setting_of text
