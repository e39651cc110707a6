use Rattle.std.proofs.Common.{◌≡◌, ◌<◌, ℕ}
use Rattle.hw_naivety.specs.Rows.{row_slot}
use Rattle.hw_naivety.proofs.rows.Rows.is_same.Given as goal

-- the slots so far say the same
abbrev pub invariant-loop-creator : goal.invariant-loop-creator
invariant-loop-creator l = (v : ℕ) → v < l.creator → row_slot l.self l.row v ≡ row_slot l.self l.other v
