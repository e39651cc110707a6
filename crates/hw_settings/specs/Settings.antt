-- The configuration that settings say: a JSON value with certain members and no others.
-- Source: ours.
use Rattle.std.specs.Prelude.{ℕ, ◌^◌, nat_lt, Bool, ◌||◌, List, [], ◌∷◌, codes, bytes_eq, Option, Some, None, option_map, option_and_then, Result, Ok, Err, if◌then◌else◌}
use Rattle.std.specs.List.{list_any, list_all}
use Rattle.std.specs.Option.{option_or}
use Rattle.std.specs.Result.{result_ok}
use Rattle.std.specs.Str.{is_utf8}
use Rattle.hex.specs.Hex.{decode_sized}
use Rattle.serde_json.specs.Data.{Data, Items, no_items, item, Members, no_members, member}
use Rattle.serde_json.specs.Read.{read}
use Rattle.serde_json.specs.Find.{get, as_u64, as_number, as_str, as_array, as_object}
use Rattle.hw_types.specs.declared.config.Config.{Config}
use Rattle.hw_types.specs.declared.config.Leaders.{Leaders}
use Rattle.hw_types.specs.declared.config.Leaders.TheVariants.{Table, Drawn}
use Rattle.hw_types.specs.declared.config.ConfigFault.{ConfigFault}
use Rattle.hw_types.specs.Graph.{is_some_and}
use Rattle.hw_types.specs.Limits.{config_fault}
use Rattle.hw_text.specs.Digits.{is_lower_digit}
use Rattle.hw_settings.specs.declared.fault.SettingsFault.{SettingsFault}
use Rattle.hw_settings.specs.declared.fault.SettingsFault.TheVariants.{Form, Fault}

-- go on with what is there
infixl 10 ◌>>=◌
abbrev pub ◌>>=◌ : {A B : Type 0} → Option A → (A → Option B) → Option B
x >>= f = option_and_then f x

-- the value, where the test passes
abbrev pub only_if : {A : Type 0} → Bool → A → Option A
only_if test x = if test then Some x else None

-- ---- values

-- a whole number below the limit
unfoldable pub number_in : ℕ → Data → Option ℕ
number_in limit d = option_and_then as_u64 (as_number d) >>= λ n. only_if (nat_lt n limit) n

-- whole numbers below the limit
unfoldable pub numbers_in : ℕ → Items → Option (List ℕ)
numbers_in limit no_items = Some []
numbers_in limit (item d ds) = do
  n ← number_in limit d
  others ← numbers_in limit ds
  Some (n ∷ others)

-- an array of whole numbers below the limit
abbrev pub list_in : ℕ → Data → Option (List ℕ)
list_in limit d = as_array d >>= numbers_in limit

-- both are whole numbers below the limit
abbrev pub both_in : ℕ → Data → Data → Option (ℕ × ℕ)
both_in limit d e = do
  first ← number_in limit d
  second ← number_in limit e
  Some (first, second)

-- two whole numbers below the limit
unfoldable pub two_in : ℕ → Items → Option (ℕ × ℕ)
two_in limit no_items = None
two_in limit (item d no_items) = None
two_in limit (item d (item e no_items)) = both_in limit d e
two_in limit (item d (item e (item f ds))) = None

-- an array of two whole numbers below the limit
abbrev pub pair_in : ℕ → Data → Option (ℕ × ℕ)
pair_in limit d = as_array d >>= two_in limit

-- the 32 bytes that 64 hexadecimal digits in lower case tell
abbrev pub key_of : List ℕ → Option (List ℕ)
key_of text = if list_all is_lower_digit text then result_ok (decode_sized text 32) else None

-- ---- members

-- the names of members
abbrev pub names_of : Members → List (List ℕ)
names_of no_members = []
names_of (member k d ms) = k ∷ names_of ms

-- an object, and all of its names pass the test
abbrev pub is_object_of : (List ℕ → Bool) → Data → Bool
is_object_of test d = is_some_and (λ ms. list_all test (names_of ms)) (as_object d)

-- what the member says that has to be there
abbrev pub must : {A : Type 0} → List ℕ → (Data → Option A) → Data → Option A
must name form d = get name d >>= form

-- what the member says, or what holds where there is none
abbrev pub otherwise : {A : Type 0} → A → (Data → Option A) → Option Data → Option A
otherwise usual form None = Some usual
otherwise usual form (Some d) = form d

-- the same of a member by its name
abbrev pub may : {A : Type 0} → List ℕ → (Data → Option A) → A → Data → Option A
may name form usual d = otherwise usual form (get name d)

-- ---- leaders

-- a table of validators
abbrev pub table_in : Data → Option Leaders
table_in d = option_map Table (list_in (2 ^ 32) d)

-- an object of the one member `drawn`: a key from which they are drawn
abbrev pub drawn_in : Data → Option Leaders
drawn_in d = if is_object_of (bytes_eq (codes "drawn")) d then option_map Drawn (must (codes "drawn") (λ e. as_str e >>= key_of) d) else None

-- the leaders: a table or a key
unfoldable pub leaders_in : Data → Option Leaders
leaders_in d = option_or (table_in d) (drawn_in d)

-- ---- the configuration

-- the members that have to be there
abbrev pub needed_names : List (List ℕ)
needed_names = codes "weights" ∷ codes "threshold" ∷ codes "levels" ∷ codes "exponents" ∷ codes "leaders" ∷ []

-- the members that may be there too
abbrev pub further_names : List (List ℕ)
further_names = codes "records" ∷ codes "parked" ∷ codes "end" ∷ []

-- a member that settings may have
unfoldable pub is_setting_name : List ℕ → Bool
is_setting_name k = list_any (bytes_eq k) needed_names || list_any (bytes_eq k) further_names

-- what the members say
unfoldable pub members_say : Data → Option Config
members_say d = do
  weights ← must (codes "weights") (list_in (2 ^ 64)) d
  threshold ← must (codes "threshold") (number_in (2 ^ 64)) d
  levels ← must (codes "levels") (number_in (2 ^ 8)) d
  exponents ← must (codes "exponents") (pair_in (2 ^ 8)) d
  leaders ← must (codes "leaders") leaders_in d
  records ← may (codes "records") (number_in (2 ^ 32)) 131072 d
  parked ← may (codes "parked") (number_in (2 ^ 32)) 4096 d
  end ← may (codes "end") (λ e. option_map Some (number_in (2 ^ 64) e)) None d
  Some (record { weights = weights; ftt = threshold; levels = levels; min_exponent = exponents.0; max_exponent = exponents.1; leaders = leaders; max_records = records; max_parked = parked; end = end })

-- the configuration that an object says which has no other members
unfoldable pub config_in : Data → Option Config
config_in d = if is_object_of is_setting_name d then members_say d else None

-- the configuration, unless it breaks a limit
abbrev pub within_limits : Config → Option ConfigFault → Result Config SettingsFault
within_limits config None = Ok config
within_limits config (Some fault) = Err (Fault fault)

-- a configuration that keeps its limits, or what is wrong
abbrev pub checked : Option Config → Result Config SettingsFault
checked None = Err Form
checked (Some config) = within_limits config (config_fault config)

-- the value that bytes are the JSON text of, in UTF-8
unfoldable pub json_of : List ℕ → Option Data
json_of bytes = if is_utf8 bytes then read bytes else None

-- The configuration that these settings say, or what is wrong with them.
unfoldable pub settings_of : List ℕ → Result Config SettingsFault
settings_of bytes = checked (json_of bytes >>= config_in)
