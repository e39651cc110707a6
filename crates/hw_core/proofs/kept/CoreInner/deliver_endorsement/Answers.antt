use Rattle.std.proofs.Common.{List, sym, subst}
use Rattle.hw_types.specs.declared.unit.Vertex.{Vertex}
use Rattle.hw_core.specs.Keeps.{IsNode}
use Rattle.hw_core.proofs.kept.CoreInner.deliver_endorsement.Goals as goal

pub test_endorsement-requires : goal.test_endorsement-requires
test_endorsement-requires c =
    let core = c.self.inside in
    record { node = (core.park, subst (λ (vs : List Vertex). IsNode vs core.park core.state) (sym c.as_slice.ensures.value) c.self.invariant.node) }
