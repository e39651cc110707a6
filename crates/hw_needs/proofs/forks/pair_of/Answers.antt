use Rattle.std.proofs.Common.{ℕ, Option, Some, None, sym, subst}
use Rattle.hw_dag.specs.Dag.{count_of}
use Rattle.hw_needs.specs.Forks.{IsLeastWithTwo}
use Rattle.hw_needs.proofs.ForkLaws.{none_is, told, known}
use Rattle.hw_needs.proofs.forks.pair_of.Goals as goal

pub returns-in-Some-clause-pair : goal.returns-in-Some-clause-pair
returns-in-Some-clause-pair c =
    let least : IsLeastWithTwo c.args.dag.now (count_of c.args.dag.now) c.args.creator (Some c.in-Some.seq) = subst (λ (o : Option ℕ). IsLeastWithTwo c.args.dag.now (count_of c.args.dag.now) c.args.creator o) c.in-Some.is c.in_ok-seq.ensures in
    told c.args.dag.now c.recall_graph.ensures c.requires.named c.args.creator c.in-Some.seq least c.least_two.result c.least_two.ensures

pub returns-in-Some-clause-known : goal.returns-in-Some-clause-known
returns-in-Some-clause-known c = known c.args.dag.now c.args.creator c.in-Some.seq c.least_two.result c.least_two.ensures

pub returns-in-None-clause-pair : goal.returns-in-None-clause-pair
returns-in-None-clause-pair c =
    let none : IsLeastWithTwo c.args.dag.now (count_of c.args.dag.now) c.args.creator None = subst (λ (o : Option ℕ). IsLeastWithTwo c.args.dag.now (count_of c.args.dag.now) c.args.creator o) c.in-None.is c.in_ok-seq.ensures in
    sym (none_is c.args.dag.now c.recall_graph.ensures c.requires.named c.args.creator none)
