-- The lines of a text.
-- Source: ours.
use Rattle.std.specs.Prelude.{ℕ, ◌+◌, List, [], ◌∷◌, length, Option, Some, None}
use Rattle.hw_script_grammar.specs.Words.{pieces}

-- the parts but for an empty one at the end
abbrev pub without_last_empty : List (List ℕ) → List (List ℕ)
without_last_empty [] = []
without_last_empty ([] ∷ []) = []
without_last_empty (part ∷ parts) = part ∷ without_last_empty parts

-- the lines of a text, if there is one; the last one may lack its line feed
unfoldable pub texts_of : Option (List ℕ) → List (List ℕ)
texts_of text = without_last_empty (pieces 10 text)

-- how many lines were read, and those behind them
pub record Rest : Type 0 where
  pub before : ℕ
  pub texts : List (List ℕ)

-- how many lines there are at most
abbrev pub most_lines : Option (List ℕ) → ℕ
most_lines None = 0
most_lines (Some bytes) = length bytes + 1
