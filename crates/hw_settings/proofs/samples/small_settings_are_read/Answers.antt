use Rattle.std.proofs.Common.{refl}
use Rattle.std.specs.Str.{is_utf8, chars}
use Rattle.serde_json.proofs.OnLiterals.{serde_json_on_literals}
use Rattle.hw_types.specs.Limits.{config_fault}
use Rattle.hw_settings.specs.Settings.{number_in, numbers_in, two_in, leaders_in, is_setting_name, members_say, config_in, json_of, settings_of}
use Rattle.hw_settings.proofs.samples.small_settings_are_read.Goals as goal

pub returns : goal.returns
unfolding serde_json_on_literals is_utf8 chars config_fault number_in numbers_in two_in leaders_in is_setting_name members_say config_in json_of settings_of
returns c = record { read = refl; form = refl; limit = refl }
