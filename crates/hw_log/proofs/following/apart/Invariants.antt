use Rattle.std.proofs.Common.{◌≡◌, ◌-◌, ◌≤◌, length}
use Rattle.hw_log.proofs.following.apart.Given as goal

abbrev pub invariant-entries : goal.invariant-entries
invariant-entries l = (l.found ≤ 64) × (length l.creators ≡ 64) × (l.start ≤ l.end) × (l.end ≤ length l.held)

abbrev pub decreases-entries : goal.decreases-entries
decreases-entries l = length l.held - l.end
