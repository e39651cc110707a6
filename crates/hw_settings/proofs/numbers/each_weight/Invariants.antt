use Rattle.std.proofs.Common.{◌≡◌, ◌^◌}
use Rattle.serde_json.specs.View.{items_view}
use Rattle.hw_settings.specs.Settings.{numbers_in}
use Rattle.hw_settings.proofs.NumberLaws.{with_front, rest_in}
use Rattle.hw_settings.proofs.numbers.each_weight.Given as goal

abbrev pub invariant-loop-value : goal.invariant-loop-value
invariant-loop-value l = with_front l.list (rest_in (2 ^ 64) l.value-index l.values) ≡ numbers_in (2 ^ 64) (items_view l.values)
