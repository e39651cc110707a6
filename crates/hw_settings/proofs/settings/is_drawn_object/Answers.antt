use Rattle.std.proofs.Common.{bytes_eq, codes, sym, ◌∙◌}
use Rattle.serde_json.specs.View.{view}
use Rattle.hw_settings.proofs.NameLaws.{object_passes}
use Rattle.hw_settings.proofs.settings.is_drawn_object.Goals as goal

pub returns-in-Some : goal.returns-in-Some
returns-in-Some c = c.are_named_drawn.ensures ∙ sym (object_passes (bytes_eq (codes "drawn")) (view c.args.value.now) c.in-Some.members.now c.in-Some.ensures)
