use Rattle.std.proofs.Common.{◌≡◌, ℕ, ◌<◌, suc, take, sum, length, get_or}
use Rattle.hw_rounds.proofs.drawing.running_weights.Given as goal

abbrev pub invariant-loop-weight : goal.invariant-loop-weight
invariant-loop-weight l =
    (l.total ≡ sum (take l.weight-index l.weights))
    × (length l.running.items ≡ l.weight-index)
    × ((k : ℕ) → k < l.weight-index → get_or l.running.items k 0 ≡ sum (take (suc k) l.weights))
