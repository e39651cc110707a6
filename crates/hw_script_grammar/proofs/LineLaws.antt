-- Lines, one after the other.
use Rattle.std.proofs.Common.{◌≡◌, ℕ, ◌+◌, List, [], ◌∷◌, sym, ap, ◌∙◌}
use Rattle.hw_script_grammar.specs.Texts.{Rest}
use Rattle.std.specs.Prelude.{true, false, if◌then◌else◌}
use Rattle.hw_script_grammar.specs.Words.{words_of}
use Rattle.hw_script_grammar.specs.Lines.{is_skipped, with_line, lines_behind, lines_in}

-- a line that was taken stood in front of those behind it, unless it is skipped
pub line_taken : (r later : Rest) (text : List ℕ) → r.texts ≡ text ∷ later.texts → later.before ≡ r.before + 1 → lines_in r ≡ with_line later.before text (lines_in later)
unfolding lines_behind
line_taken r later text is number = ap (lines_behind r.before) is ∙ ap (λ n. with_line n text (lines_behind n later.texts)) (sym number)

-- behind the last text there is no line
pub none_left : (r : Rest) → r.texts ≡ [] → lines_in r ≡ []
unfolding lines_behind
none_left r is = ap (lines_behind r.before) is

-- a line that isn't skipped
pub line_kept : (r later : Rest) (text : List ℕ) → r.texts ≡ text ∷ later.texts → later.before ≡ r.before + 1 → is_skipped text ≡ false
    → lines_in r ≡ record { number = later.before; words = words_of text } ∷ lines_in later
line_kept r later text is number kept = line_taken r later text is number ∙ ap (λ b. if b then lines_in later else record { number = later.before; words = words_of text } ∷ lines_in later) kept

-- one that is
pub line_skipped : (r later : Rest) (text : List ℕ) → r.texts ≡ text ∷ later.texts → later.before ≡ r.before + 1 → is_skipped text ≡ true → lines_in r ≡ lines_in later
line_skipped r later text is number skipped = line_taken r later text is number ∙ ap (λ b. if b then lines_in later else record { number = later.before; words = words_of text } ∷ lines_in later) skipped
