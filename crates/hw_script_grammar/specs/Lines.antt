-- The lines that count.
-- Source: ours.
use Rattle.std.specs.Prelude.{ℕ, ◌+◌, ◌==◌, Bool, true, false, List, [], ◌∷◌, if◌then◌else◌}
use Rattle.hw_script_grammar.specs.declared.lines.Line.{Line}
use Rattle.hw_script_grammar.specs.Words.{words_of}
use Rattle.hw_script_grammar.specs.Wording.{is_setting}
use Rattle.hw_script_grammar.specs.Texts.{Rest}

-- an empty line, or one that begins with #
abbrev pub is_skipped : List ℕ → Bool
is_skipped [] = true
is_skipped (c ∷ cs) = c == 35

-- the line of this number in front of these, unless it is skipped
abbrev pub with_line : ℕ → List ℕ → List Line → List Line
with_line number text lines = if is_skipped text then lines else record { number = number; words = words_of text } ∷ lines

-- the lines that are not skipped, behind so many
unfoldable pub lines_behind : ℕ → List (List ℕ) → List Line
lines_behind before [] = []
lines_behind before (t ∷ ts) = with_line (before + 1) t (lines_behind (before + 1) ts)

-- those that are not skipped
abbrev pub lines_in : Rest → List Line
lines_in r = lines_behind r.before r.texts

-- the number of the first of these lines, or of the one behind the text
abbrev pub first_number : ℕ → List Line → ℕ
first_number behind_all [] = behind_all
first_number behind_all (l ∷ ls) = l.number

-- the first of these lines is one
abbrev pub begin_with_setting : List Line → Bool
begin_with_setting [] = false
begin_with_setting (l ∷ ls) = is_setting l.words
