use Rattle.std.proofs.Common.{List, sym, subst}
use Rattle.hw_types.specs.declared.unit.Vertex.{Vertex}
use Rattle.hw_core.specs.Keeps.{IsNode}
use Rattle.hw_core.proofs.kept.CoreInner.test_named.Goals as goal

pub test_named-requires-clause-node : goal.test_named-requires-clause-node
test_named-requires-clause-node c =
    let core = c.self.inside in
    (core.park, subst (λ (vs : List Vertex). IsNode vs core.park core.state) (sym c.as_slice.ensures.value) c.self.invariant.node)
