use Rattle.std.proofs.Common.{arith}
use Rattle.hw_dag.proofs.MarkLaws.{seen_earlier}
use Rattle.hw_naivety.proofs.sight.Sight.is_covered.Goals as goal

pub returns-then-no-listed-clause-below : goal.returns-then-no-listed-clause-below
returns-then-no-listed-clause-below c = (
  λ t. absurd cc,
  λ b. absurd (
      let named = b.below in
      let less = c.requires.listed.end b.name b.among named.named named.known named.name_is in
      let up = seen_earlier c.args.self.now.dag.now c.requires.sight.graph_is c.args.no.0 named.named c.requires.known named.known named.seen in
      let over = c.if-no-listed.true in
      omega arith),
)
