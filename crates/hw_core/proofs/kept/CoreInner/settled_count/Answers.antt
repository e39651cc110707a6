use Rattle.std.proofs.Common.{List, length, sym, ap, ◌∙◌}
use Rattle.hw_types.specs.Graph.{Node}
use Rattle.hw_types.specs.Real.{CoreState, settled_in}
use Rattle.hw_dag.specs.Dag.{UnitGraph, count_of}
use Rattle.hw_core.proofs.CountLaws.{graph_length}
use Rattle.hw_core.proofs.KeptLaws.{settled_is}
use Rattle.hw_core.proofs.kept.CoreInner.settled_count.Goals as goal

pub returns : goal.returns
returns c =
    c.count.ensures.count
    ∙ ap (λ (d : UnitGraph). count_of d) c.dag.ensures.dag
    ∙ sym (graph_length c.self.inside.state.dag c.dag.ensures.graph)
    ∙ ap (λ (xs : List Node). length xs) (settled_is c.self.inside.instance c.self.inside.journal.items c.self.inside.names.entries c.self.inside.park c.self.inside.dropped.entries c.self.inside.dropped.room c.self.inside.state c.self.inside.fork c.self.inside.decided c.self.inside.shown c.self.invariant)
    ∙ ap (λ (k : CoreState). length (settled_in k)) c.self.view_is
