use Rattle.std.proofs.Common.{◌≡◌, ◌<◌, ℕ}
use Rattle.hw_dag.specs.Dag.{view_at}
use Rattle.hw_naivety.specs.Rows.{row_slot}
use Rattle.hw_naivety.specs.Tips.{IsTip, AreKept, said_tip}
use Rattle.hw_naivety.proofs.tips.Tips.fill_row.Given as goal

-- the tips of the creators so far are there, and those of other units stay
abbrev pub invariant-loop-creator : goal.invariant-loop-creator
invariant-loop-creator l =
    ((creator : ℕ) → creator < l.creator → IsTip l.sight.dag.now l.sight.panorama.now l.sight.endorsed.now creator (said_tip (view_at l.sight.panorama.now creator) (row_slot l.self.rows l.self.taken creator)))
    × AreKept l.initial.self l.self
    × (l.marks ≡ l.initial.marks)
