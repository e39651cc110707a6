use Rattle.std.proofs.Common.{length-set, ◌∙◌, arith}
use Rattle.hw_c.proofs.DeliveryLaws.{one_more}
use Rattle.hw_c.proofs.deliveries.deliver_others.Goals as goal

pub vertices-preserved : goal.vertices-preserved
vertices-preserved c =
    let before = c.vertices.invariant in (
      length-set c.vertices.delivered _ _ ∙ before.0,
      one_more c.args.core.now c.args.bytes.now c.args.vertices.now c.vertices.delivered c.vertices.k _ c.delivered_of.result c.deliver_one-outcome.result
          c.vertices.core c.deliver_one-outcome.new.core (omega arith) before.0 before.1 c.deliver_one-outcome.ensures c.delivered_of.ensures,
    )
