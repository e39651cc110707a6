use Rattle.std.proofs.Common.{sym, ◌∙◌}
use Rattle.serde_json.specs.View.{view}
use Rattle.hw_settings.specs.Settings.{is_setting_name}
use Rattle.hw_settings.proofs.NameLaws.{object_passes}
use Rattle.hw_settings.proofs.settings.is_settings_object.Goals as goal

pub returns-in-Some : goal.returns-in-Some
returns-in-Some c = c.have_setting_names.ensures ∙ sym (object_passes is_setting_name (view c.args.value.now) c.in-Some.members.now c.in-Some.ensures)
