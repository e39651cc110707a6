-- Names, values, and the words that are neither.
-- Source: ours.
use Rattle.std.specs.Prelude.{ℕ, nat_le, nat_lt, Bool, false, not, ◌&&◌, ◌||◌, List, [], ◌∷◌, length, codes, bytes_eq}
use Rattle.std.specs.List.{list_any, list_all}
use Rattle.hw_text.specs.Numbers.{is_digit}
use Rattle.hw_script_grammar.specs.Words.{Word, words_of}

-- the word is one of these
unfoldable pub is_one_of : Word → List Word → Bool
is_one_of w ws = list_any (bytes_eq w) ws

-- the words that begin a settings line
abbrev pub setting_words : List Word
setting_words = words_of (codes "weights ftt levels exponents leaders records parked end")

-- the words of the other lines, and of what is printed
abbrev pub line_words : List Word
line_words = words_of (codes "unit by at exp seq cites block endorsed evidence of deliver endorse show fork panorama faulty final")

-- the further words of answers
abbrev pub answer_words : List Word
answer_words = words_of (codes "admitted dropped repeat refused local pair creator sequence instance same clash full check")

-- it begins a settings line
unfoldable pub is_setting_word : Word → Bool
is_setting_word w = is_one_of w setting_words

-- it stands in another line, or in what is printed
unfoldable pub is_line_word : Word → Bool
is_line_word w = is_one_of w line_words

-- it stands in an answer
unfoldable pub is_answer_word : Word → Bool
is_answer_word w = is_one_of w answer_words

-- a word of the language, which is no name
abbrev pub is_reserved : Word → Bool
is_reserved w = is_setting_word w || is_line_word w || is_answer_word w

-- a lower-case letter
abbrev pub is_lower : ℕ → Bool
is_lower c = nat_le 97 c && nat_le c 122

-- an upper-case letter
abbrev pub is_upper : ℕ → Bool
is_upper c = nat_le 65 c && nat_le c 90

-- a lower-case letter or a digit
abbrev pub is_name_byte : ℕ → Bool
is_name_byte c = is_lower c || is_digit c

-- a letter of either case, or a digit
abbrev pub is_value_byte : ℕ → Bool
is_value_byte c = is_name_byte c || is_upper c

-- a lower-case letter and up to 15 lower-case letters and digits, and no word of the language
unfoldable pub is_name : Word → Bool
is_name [] = false
is_name (c ∷ cs) = is_lower c && nat_lt (length cs) 16 && list_all is_name_byte cs && not (is_reserved (c ∷ cs))

-- 1 to 64 letters and digits
unfoldable pub is_value : Word → Bool
is_value w = nat_le 1 (length w) && nat_le (length w) 64 && list_all is_value_byte w

-- the line is a settings line
abbrev pub is_setting : List Word → Bool
is_setting [] = false
is_setting (k ∷ ws) = is_setting_word k
