use Rattle.std.proofs.Common.{arith}
use Rattle.hw_dag.specs.Lists.{HasNameAmong}
use Rattle.hw_dag.proofs.graph.Dag.is_below_named.Goals as goal

pub returns-then-top-low-clause-below : goal.returns-then-top-low-clause-below
returns-then-top-low-clause-below c = (
  λ t. absurd cc,
  λ b. absurd (
      let named : HasNameAmong c.args.self.now c.args.names.now b.number = record { name = b.name; among = b.among; known = b.known; named = b.named } in
      let within = c.in-Some.ensures.open.within b.number named b.seen in
      let after = within.0 in
      let end = within.1 in
      let below = c.if-top-low.true in
      omega arith),
)
