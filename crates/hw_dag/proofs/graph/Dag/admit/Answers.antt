use Rattle.std.proofs.Common.{sym, subst}
use Rattle.hw_dag.specs.Admission.{IsGraph, IsReady}
use Rattle.hw_dag.proofs.AdmitLaws.{settled_same, graph_with}
use Rattle.hw_dag.proofs.graph.Dag.admit.Goals as goal

pub keep-requires-clause-graph : goal.keep-requires-clause-graph
keep-requires-clause-graph c =
    let r = c.requires in
    let ready : IsReady c.args.self.now c.args.prepared c.args.fork = record { room = r.room; is_for = r.prepared_for; resolved = r.resolved; rules = r.rules; fresh = r.fresh; fork_is = r.fork } in
    let same = settled_same c.args.self.now c.args.prepared c.args.fork c.settle.result c.count.result c.height_above-height.result c.settle.ensures c.count.ensures.count c.height_above-height.ensures in
    graph_with c.args.self.now c.count.ensures.graph c.args.prepared c.args.fork ready c.settle.result same

pub returns-clause-graph : goal.returns-clause-graph
returns-clause-graph c =
    let r = c.requires in
    let ready : IsReady c.args.self.now c.args.prepared c.args.fork = record { room = r.room; is_for = r.prepared_for; resolved = r.resolved; rules = r.rules; fresh = r.fresh; fork_is = r.fork } in
    let same = settled_same c.args.self.now c.args.prepared c.args.fork c.settle.result c.count.result c.height_above-height.result c.settle.ensures c.count.ensures.count c.height_above-height.ensures in
    subst IsGraph (sym c.keep.ensures) (graph_with c.args.self.now c.count.ensures.graph c.args.prepared c.args.fork ready c.settle.result same)
