-- Small settings, and what they say.
-- Source: ours.
use Rattle.std.specs.Prelude.{◌≡◌, [], ◌∷◌, codes, None, Ok, Err}
use Rattle.hw_types.specs.declared.config.Config.{Config}
use Rattle.hw_types.specs.declared.config.Leaders.TheVariants.{Table}
use Rattle.hw_types.specs.declared.config.ConfigFault.TheVariants.{Threshold}
use Rattle.hw_settings.specs.declared.fault.SettingsFault.TheVariants.{Form, Fault}
use Rattle.hw_settings.specs.Settings.{settings_of}

-- three validators of one weight
abbrev pub three_validators : Config
three_validators = record { weights = 1 ∷ 1 ∷ 1 ∷ []; ftt = 0; levels = 1; min_exponent = 4; max_exponent = 8; leaders = Table (0 ∷ 0 ∷ 2 ∷ []); max_records = 131072; max_parked = 4096; end = None }

-- settings with the usual limits
abbrev pub ThatSettingsAreRead : Type 0
ThatSettingsAreRead = settings_of (codes "{\"weights\":[1,1,1],\"threshold\":0,\"levels\":1,\"exponents\":[4,8],\"leaders\":[0,0,2]}") ≡ Ok three_validators

-- a member that settings haven't got
abbrev pub ThatTheFormIsMissed : Type 0
ThatTheFormIsMissed = settings_of (codes "{\"weights\":[1,1,1],\"threshold\":0,\"levels\":1,\"exponents\":[4,8],\"leaders\":[0,0,2],\"more\":0}") ≡ Err Form

-- a threshold that the total weight doesn't exceed
abbrev pub ThatALimitIsNamed : Type 0
ThatALimitIsNamed = settings_of (codes "{\"weights\":[1,1,1],\"threshold\":3,\"levels\":1,\"exponents\":[4,8],\"leaders\":[0,0,2]}") ≡ Err (Fault Threshold)
