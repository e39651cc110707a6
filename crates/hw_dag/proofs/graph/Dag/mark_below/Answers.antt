use Rattle.std.proofs.Common.{◌≤◌, inl, inr, arith}
use Rattle.std.proofs.lemmas.Bool.{cases_lt}
use Rattle.hw_dag.specs.Dag.{count_of}
use Rattle.hw_dag.proofs.ListLaws.{marks_tell}
use Rattle.hw_dag.proofs.graph.Dag.mark_below.Goals as goal

pub returns-clause-tells : goal.returns-clause-tells
returns-clause-tells c =
    let top = c.greatest-top.result in
    let over : top ≤ count_of c.args.self.now = elim (cases_lt 0 top) [
      | inl some ↦
          let one = c.greatest-top.ensures.one some in
          let known = c.requires.known one.0 one.1 one.2 in
          let same = one.3 in
          omega arith
      | inr none ↦ omega arith
    ] in
    marks_tell c.args.self.now c.recall_graph.ensures c.args.slots.now top c.args.low.0 c.clear.new.marked c.mark_observed_by.new.marked c.walk_on.new.marked c.requires.known over c.greatest-top.ensures.all
    c.clear.ensures c.mark_observed_by.ensures.all c.mark_observed_by.ensures.only c.walk_on.ensures
