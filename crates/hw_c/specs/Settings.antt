-- A configuration from its fields.
-- Source: ours.
use Rattle.std.specs.Prelude.{◌≡◌, ◌⊎◌, ℕ, ◌<◌, ◌==◌, List, length, Option, Some, None, Result, Ok, Err, if◌then◌else◌}
use Rattle.hw_types.specs.declared.config.Config.{Config}
use Rattle.hw_types.specs.declared.config.Leaders.{Leaders}
use Rattle.hw_types.specs.declared.config.Leaders.TheVariants.{Table, Drawn}
use Rattle.hw_types.specs.Limits.{config_fault}
use Rattle.hw_types.specs.Spelling.{SpellsConfig}
use Rattle.hw_c.specs.declared.codes.Fault.{Fault}
use Rattle.hw_c.specs.declared.codes.Fault.TheVariants as fault
use Rattle.hw_c.specs.declared.settings.Settings.{Settings}
use Rattle.hw_c.specs.Calls.{IsWant}

-- the leaders: from the table, or drawn by the key
abbrev pub leaders_with : Settings → List ℕ → Leaders
leaders_with s table = if s.is_drawn == 0 then Table table else Drawn s.key

-- the height of the last block, where there is one
abbrev pub end_with : Settings → Option ℕ
end_with s = if s.has_end == 0 then None else Some s.end

-- the configuration of the fields
abbrev pub config_with : Settings → List ℕ → List ℕ → Config
config_with s weights table = record {
  weights = weights;
  ftt = s.ftt;
  levels = s.levels;
  min_exponent = s.min_exponent;
  max_exponent = s.max_exponent;
  leaders = leaders_with s table;
  max_records = s.max_records;
  max_parked = s.max_parked;
  end = end_with s;
}

-- The spelling of that configuration, which keeps all limits. Or the first limit that it breaks.
abbrev pub IsConfig : Settings → List ℕ → List ℕ → Result (List ℕ) Fault → Type 0
IsConfig s weights table (Ok bytes) = (config_fault (config_with s weights table) ≡ None) × SpellsConfig bytes (config_with s weights table)
IsConfig s weights table (Err (fault.Config limit)) = config_fault (config_with s weights table) ≡ Some limit
IsConfig s weights table (Err fault.TooLong) = (1024 < length weights) ⊎ (4096 < length table)
IsConfig s weights table (Err f) = IsWant f
