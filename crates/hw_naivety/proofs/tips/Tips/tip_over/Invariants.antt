use Rattle.std.proofs.Common.{◌≡◌, ◌<◌, ◌≤◌, ℕ}
use Rattle.hw_naivety.specs.Tips.{IsNaiveTip}
use Rattle.hw_naivety.proofs.SharedLaws.{IsOver}
use Rattle.hw_naivety.proofs.tips.Tips.tip_over.Given as goal

-- the tip stands for what the source's unit and the units of the slots so far are or have below them
abbrev pub invariant-loop-slot : goal.invariant-loop-slot
invariant-loop-slot l =
    IsNaiveTip l.sight.dag.now l.sight.panorama.now l.sight.endorsed.now l.creator l.tip
    × IsOver l.sight.dag.now l.sight.panorama.now l.sight.endorsed.now l.creator l.shared.source.slot l.tip
    × ((slot : ℕ) → l.initial.slot ≤ slot → slot < l.slot → IsOver l.sight.dag.now l.sight.panorama.now l.sight.endorsed.now l.creator slot l.tip)
    × (l.marks ≡ l.initial.marks)
