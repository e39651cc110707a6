use Rattle.std.proofs.Common.{◌≡◌, length, take}
use Rattle.hw_c.specs.Deliveries.{AreDeliveries}
use Rattle.hw_c.proofs.deliveries.deliver_few.Given as goal

abbrev pub invariant-vertices : goal.invariant-vertices
invariant-vertices l =
    (length l.delivered ≡ length l.vertices) × AreDeliveries l.fn.core l.bytes (take l.k l.vertices) (take l.k l.delivered) l.core
