use Rattle.std.proofs.Common.{◌<◌, List, refl, subst, arith}
use Rattle.hw_dag.specs.declared.numbers.View.{View}
use Rattle.hw_dag.specs.Lanes.{IsBelow}
use Rattle.hw_dag.proofs.graph.Dag.has_all_below.Goals as goal

pub returns-then-low-count-clause-below : goal.returns-then-low-count-clause-below
returns-then-low-count-clause-below c = (
  λ t name m.
      let b = c.in-Some.ensures.open name m in
      let known = b.known in
      let before : b.number < c.in-Some.low.0 = (let same = c.if-low-count.true in let count = c.count.ensures.count in omega arith) in
      record {
        number = b.number;
        known = b.known;
        named = b.named;
        below = subst (λ (ws : List View). IsBelow c.args.self.now ws b.number) c.views-slots.ensures (b.below before);
      },
  λ all. refl,
)
