use Rattle.hw_naivety.specs.Shared.{IsSource}
use Rattle.hw_naivety.proofs.tips.Tips.newest.Given as goal

-- the source so far is one
abbrev pub invariant-loop-slot : goal.invariant-loop-slot
invariant-loop-slot l = IsSource l.sight.validators l.sight.panorama.now l.self l.source
