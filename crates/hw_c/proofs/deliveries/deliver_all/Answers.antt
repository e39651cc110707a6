use Rattle.std.proofs.Common.{ℕ, ◌≤◌, length, ◌∙◌, arith}
use Rattle.hw_c.proofs.DeliveryLaws.{as_long, some_more}
use Rattle.hw_c.proofs.deliveries.deliver_all.Goals as goal

pub chunks-preserved : goal.chunks-preserved
chunks-preserved c =
    let before = c.chunks.invariant in
    let at : ℕ = c.chunks.at in
    let end : ℕ = c.min-end.result in
    let within : end ≤ length c.args.vertices.now = omega arith in
    let answers = c.deliver_few.new.delivered in (
      as_long c.chunks.core c.args.bytes.now c.args.vertices.now c.chunks.delivered answers at end c.deliver_few.new.core within before.0 c.deliver_few.ensures ∙ before.0,
      within,
      some_more c.args.core.now c.args.bytes.now c.args.vertices.now c.chunks.delivered answers at end c.chunks.core c.deliver_few.new.core
          (omega arith) within before.0 before.2 c.deliver_few.ensures,
    )
