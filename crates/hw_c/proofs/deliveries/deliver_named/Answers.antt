use Rattle.std.proofs.Common.{arith}
use Rattle.hw_codec.proofs.Fields.{bytes_are}
use Rattle.hw_c.proofs.NameLaws.{name_told}
use Rattle.hw_c.proofs.deliveries.deliver_named.Goals as goal

pub deliver_named-requires : goal.deliver_named-requires
deliver_named-requires c =
    name_told c.args.bytes.now c.args.sent c.in-Some.vertex.now c.args.name (bytes_are _ (λ i. omega (arith, c.type_inv.bytes i)))
    c.in-Some.ensures.within c.in-Some.ensures.bytes c.requires
