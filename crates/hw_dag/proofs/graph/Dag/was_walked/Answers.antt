use Rattle.std.proofs.Common.{arith}
use Rattle.std.proofs.lemmas.Bool.{ltb-true}
use Rattle.hw_dag.proofs.ListLaws.{name_below}
use Rattle.hw_dag.proofs.graph.Dag.was_walked.Goals as goal

pub returns-else-no-top : goal.returns-else-no-top
returns-else-no-top c =
    let found = c.in-Some.ensures.found in
    let over = c.if-no-top.false in (
      λ t. absurd (let less = ltb-true c.in-Some.no.0 c.args.top t in omega arith),
      λ b. absurd (
          let told = c.requires.tells c.in-Some.no.0 c.if-no-low.false found.0 (c.names_unit.ensures.none c.if-names_unit.false) in
          let less = (told.1 (name_below c.args.self.now c.recall_graph.ensures c.args.slots.now c.in-Some.no.0 c.args.name.now found.0 found.1 b)).0 in
          omega arith),
    )
