-- The settings at the head of a script.
-- Grammar takes `no_settings`, `with_setting` and `config_of` from here; the rest is for the prover: the reader's steps.
-- Source: ours.
use Rattle.std.specs.Prelude.{ℕ, ◌^◌, List, [], ◌∷◌, codes, bytes_eq, unwrap_or, Option, Some, None, Result, Ok, Err, if◌then◌else◌}
use Rattle.hw_types.specs.declared.config.Config.{Config}
use Rattle.hw_types.specs.declared.config.ConfigFault.{ConfigFault}
use Rattle.hw_types.specs.declared.config.Leaders.TheVariants.{Table}
use Rattle.hw_types.specs.Limits.{config_fault}
use Rattle.hw_script_grammar.specs.declared.lines.Line.{Line}
use Rattle.hw_script_grammar.specs.declared.setting.Kind.{Kind}
use Rattle.hw_script_grammar.specs.declared.setting.Kind.TheVariants as kind
use Rattle.hw_script_grammar.specs.declared.setting.Setting.{Setting}
use Rattle.hw_script_grammar.specs.declared.setting.Setting.TheVariants as setting
use Rattle.hw_script_grammar.specs.declared.head.Settings.{Settings}
use Rattle.hw_script_grammar.specs.declared.head.Head.{Head}
use Rattle.hw_text.specs.Numbers.{number_below}
use Rattle.hw_script_grammar.specs.Words.{Word, ◌>>=◌, next_word, number, one_or_more, nothing_more}
use Rattle.hw_script_grammar.specs.Wording.{is_setting}
use Rattle.hw_script_grammar.specs.Lines.{first_number}

-- ---- one line

-- what a word says that the line sets
unfoldable pub kind_of : Word → Option Kind
kind_of w =
    if bytes_eq w (codes "weights") then Some kind.Weights
    else if bytes_eq w (codes "ftt") then Some kind.Threshold
    else if bytes_eq w (codes "levels") then Some kind.Levels
    else if bytes_eq w (codes "exponents") then Some kind.Exponents
    else if bytes_eq w (codes "leaders") then Some kind.Leaders
    else if bytes_eq w (codes "records") then Some kind.Records
    else if bytes_eq w (codes "parked") then Some kind.Parked
    else if bytes_eq w (codes "end") then Some kind.End
    else None

-- one number and no more
unfoldable pub one_number : ℕ → List Word → Option ℕ
one_number limit ws = do
  n ← number limit ws
  end ← nothing_more n.1
  Some n.0

-- the least and the greatest exponent
unfoldable pub two_exponents : List Word → Option Setting
two_exponents ws = do
  least ← number (2 ^ 8) ws
  greatest ← one_number (2 ^ 8) least.1
  Some (setting.Exponents least.0 greatest)

-- what a line of this kind sets
unfoldable pub setting_behind : Kind → List Word → Option Setting
setting_behind kind.Weights ws = one_or_more (number_below (2 ^ 64)) ws >>= λ ns. Some (setting.Weights ns)
setting_behind kind.Threshold ws = one_number (2 ^ 64) ws >>= λ n. Some (setting.Threshold n)
setting_behind kind.Levels ws = one_number (2 ^ 8) ws >>= λ n. Some (setting.Levels n)
setting_behind kind.Exponents ws = two_exponents ws
setting_behind kind.Leaders ws = one_or_more (number_below (2 ^ 32)) ws >>= λ ns. Some (setting.Leaders ns)
setting_behind kind.Records ws = one_number (2 ^ 32) ws >>= λ n. Some (setting.Records n)
setting_behind kind.Parked ws = one_number (2 ^ 32) ws >>= λ n. Some (setting.Parked n)
setting_behind kind.End ws = one_number (2 ^ 64) ws >>= λ n. Some (setting.End n)

-- what the words of a settings line set
unfoldable pub setting_of : List Word → Option Setting
setting_of ws = do
  w ← next_word ws
  k ← kind_of w.0
  setting_behind k w.1

-- ---- all of them

-- before the first line
abbrev pub no_settings : Settings
no_settings = record { weights = None; ftt = None; levels = None; exponents = None; leaders = None; records = None; parked = None; end = None }

-- a value that is set, where none was set before
abbrev pub once : {A : Type 0} → Option A → A → Option (Option A)
once None x = Some (Some x)
once (Some old) x = None

-- the settings with one more, which none of them sets
unfoldable pub with_setting : Settings → Setting → Option Settings
with_setting t (setting.Weights ns) = once t.weights ns >>= λ x. Some (record t { weights = x })
with_setting t (setting.Threshold n) = once t.ftt n >>= λ x. Some (record t { ftt = x })
with_setting t (setting.Levels n) = once t.levels n >>= λ x. Some (record t { levels = x })
with_setting t (setting.Exponents least greatest) = once t.exponents (least, greatest) >>= λ x. Some (record t { exponents = x })
with_setting t (setting.Leaders ns) = once t.leaders ns >>= λ x. Some (record t { leaders = x })
with_setting t (setting.Records n) = once t.records n >>= λ x. Some (record t { records = x })
with_setting t (setting.Parked n) = once t.parked n >>= λ x. Some (record t { parked = x })
with_setting t (setting.End n) = once t.end n >>= λ x. Some (record t { end = x })

-- the settings after one more line; nothing where it is malformed, or sets what is set already
unfoldable pub with_words : Settings → List Word → Option Settings
with_words t ws = setting_of ws >>= with_setting t

-- the configuration, where all that must be set is set
unfoldable pub config_of : Settings → Option Config
config_of t = do
  weights ← t.weights
  ftt ← t.ftt
  levels ← t.levels
  exponents ← t.exponents
  leaders ← t.leaders
  Some (record { weights = weights; ftt = ftt; levels = levels; min_exponent = exponents.0; max_exponent = exponents.1; leaders = Table leaders; max_records = unwrap_or t.records 131072; max_parked = unwrap_or t.parked 4096; end = t.end })

-- ---- the head of a script

-- before the first line
abbrev pub no_head : Head
no_head = record { settings = no_settings; last = 0 }

-- the settings of these lines up to the first other one, with the lines from there on; or the number of one that is wrong
unfoldable pub head_from : Head → List Line → Result (Head × List Line) ℕ
head_from head [] = Ok (head, [])
head_from head (l ∷ ls) =
    if is_setting l.words then elim (with_words head.settings l.words) [ None ↦ Err l.number | Some t ↦ head_from (record { settings = t; last = l.number }) ls ]
    else Ok (head, l ∷ ls)

-- a configuration that keeps its limits, or the number of the last settings line
abbrev pub within_limits : ℕ → Config → Option ConfigFault → Result Config ℕ
within_limits last config None = Ok config
within_limits last config (Some fault) = Err last

-- The configuration of the head. Where a setting is missing, the first line behind the head is wrong.
unfoldable pub config_or_line : ℕ → Head → List Line → Result Config ℕ
config_or_line behind_all head behind = elim (config_of head.settings) [ None ↦ Err (first_number behind_all behind) | Some c ↦ within_limits head.last c (config_fault c) ]
