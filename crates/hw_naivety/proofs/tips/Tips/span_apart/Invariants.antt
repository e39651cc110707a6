use Rattle.std.proofs.Common.{◌<◌, ◌≤◌, ◌⊎◌, ℕ}
use Rattle.hw_naivety.specs.Shared.{HasPlace}
use Rattle.hw_naivety.proofs.tips.Tips.span_apart.Given as goal

-- the slots so far that have other rows are in the span
abbrev pub invariant-loop-slot : goal.invariant-loop-slot
invariant-loop-slot l = (l.end ≤ l.sight.validators) × ((slot : ℕ) → slot < l.slot → (slot < l.first) ⊎ (l.end ≤ slot) → HasPlace l.sight.panorama.now l.self l.place slot)
