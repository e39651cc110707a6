use Rattle.std.proofs.Common.{arith}
use Rattle.hw_codec.proofs.Fields.{bytes_are}
use Rattle.hw_log.proofs.NameLaws.{holds_unit, names_unit}
use Rattle.hw_log.proofs.name.unit_in.Goals as goal

pub unit_part-requires : goal.unit_part-requires
unit_part-requires c = holds_unit c.args.bytes.now c.args.vertex.now c.in-Unit.field-0 (bytes_are _ (λ i. omega (arith, c.type_inv.bytes i))) c.requires c.in-Unit.is

pub returns-in-Unit : goal.returns-in-Unit
returns-in-Unit c =
    names_unit c.args.bytes.now c.unit_part.result c.args.vertex.now c.in-Unit.field-0
    (bytes_are _ (λ i. omega (arith, c.type_inv.bytes i))) c.requires c.in-Unit.is c.unit_part.ensures
