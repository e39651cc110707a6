use Rattle.std.proofs.Common.{◌≡◌, take}
use Rattle.hw_light.specs.CheckedTexts.{verdicts_by}
use Rattle.hw_light.proofs.checked.verdicts_on.Given as goal

abbrev pub invariant-loop-vertex : goal.invariant-loop-vertex
invariant-loop-vertex l = l.verdicts.items ≡ verdicts_by l.keys (take l.vertex-index l.vertices)
