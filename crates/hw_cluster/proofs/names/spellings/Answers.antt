use Rattle.std.proofs.Common.{sym, subst}
use Rattle.hw_types.specs.declared.unit.WireUnit.{WireUnit}
use Rattle.hw_types.specs.Below.{Among}
use Rattle.hw_cluster.proofs.NodesLaws.{got_among}
use Rattle.hw_cluster.proofs.names.spellings.Goals as goal

pub encode_unit-requires : goal.encode_unit-requires
encode_unit-requires c =
    c.requires c.unit-item.result
    (subst (λ (u : WireUnit). Among u c.args.units.now) (sym c.unit-item.is) (got_among c.args.units.now c.loop-unit.unit-index c.unit-item.result c.loop-unit-test.true))
