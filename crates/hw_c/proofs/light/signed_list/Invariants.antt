use Rattle.std.proofs.Common.{◌≡◌, map, take}
use Rattle.hw_c.specs.Answers.{signed_of}
use Rattle.hw_c.proofs.light.signed_list.Given as goal

abbrev pub invariant-vertices : goal.invariant-vertices
invariant-vertices l = l.list.items ≡ map signed_of (take l.vertex-index l.vertices)
