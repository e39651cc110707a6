use Rattle.std.proofs.Common.{◌≡◌, drop}
use Rattle.std.specs.List.{zip}
use Rattle.hw_types.specs.Real.{setting_of}
use Rattle.hw_light.specs.Checked.{taken_from}
use Rattle.hw_light.proofs.checking.take_all.Given as goal

abbrev pub invariant-loop-index : goal.invariant-loop-index
invariant-loop-index l = record {
  config : l.core.config ≡ l.fn.core.config;
  asked : l.core.asked ≡ l.fn.core.asked;
  taken : taken_from (setting_of l.fn.core.config) l.index l.core.journal (drop l.index (zip l.vertices l.verdicts)) ≡ taken_from (setting_of l.fn.core.config) 0 l.fn.core.journal (zip l.vertices l.verdicts);
}
