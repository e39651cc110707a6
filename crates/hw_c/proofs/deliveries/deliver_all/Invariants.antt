use Rattle.std.proofs.Common.{◌≡◌, ◌-◌, ◌≤◌, length, take}
use Rattle.hw_c.specs.Deliveries.{AreDeliveries}
use Rattle.hw_c.proofs.deliveries.deliver_all.Given as goal

abbrev pub invariant-chunks : goal.invariant-chunks
invariant-chunks l =
    (length l.delivered ≡ length l.vertices) × (l.at ≤ length l.vertices) × AreDeliveries l.fn.core l.bytes (take l.at l.vertices) (take l.at l.delivered) l.core

abbrev pub decreases-chunks : goal.decreases-chunks
decreases-chunks l = length l.vertices - l.at
