use Rattle.std.proofs.Common.{List, ◌+◌, ◌++◌, take, drop, ap, sym, ◌∙◌}
use Rattle.std.proofs.lemmas.List.{append_assoc, append-nil}
use Rattle.hw_types.specs.declared.unit.Vertex.{Vertex}
use Rattle.hw_types.specs.Graph.{Node}
use Rattle.hw_types.specs.Real.{settled_in}
use Rattle.hw_dag.specs.Dag.{UnitGraph, graph}
use Rattle.hw_core.specs.Readers.{names_of}
use Rattle.hw_audit.specs.Held.{HeldUnit, held_by, held_units}
use Rattle.hw_audit.proofs.LinkLaws.{held_more, rest_more}
use Rattle.hw_audit.proofs.nodes.put_journal.Goals as goal

pub loop-place-init : goal.loop-place-init
loop-place-init c = (sym (append-nil c.args.units.now.items), c.unit_names-names.ensures)

pub put_units-requires-clause-names : goal.put_units-requires-clause-names
put_units-requires-clause-names c =
    let journal = c.args.core.now.journal in
    let place = c.loop-place.place in
    (drop (place + 1) journal, c.loop-place.invariant.1 ∙ ap (λ (vs : List Vertex). names_of vs) (rest_more journal place c.journal_at.result.now c.journal_at.ensures.vertex))

pub loop-place-preserved : goal.loop-place-preserved
loop-place-preserved c =
    let journal = c.args.core.now.journal in
    let place = c.loop-place.place in
    let v = c.journal_at.result.now in
    let settled = ap (λ (d : UnitGraph). graph d) c.dag-dag.ensures.dag ∙ c.state.ensures.settled in (
      c.in_ok-names.ensures.units ∙ ap (λ (hs : List HeldUnit). hs ++ held_by (graph c.dag-dag.result.now) v) c.loop-place.invariant.0
          ∙ append_assoc c.args.units.now.items (held_units (settled_in c.args.core.now) (take place journal)) (held_by (graph c.dag-dag.result.now) v)
          ∙ ap (λ (hs : List HeldUnit). c.args.units.now.items ++ hs)
          (ap (λ (xs : List Node). held_units (settled_in c.args.core.now) (take place journal) ++ held_by xs v) settled
          ∙ sym (held_more (settled_in c.args.core.now) journal place v c.journal_at.ensures.vertex)),
      c.in_ok-names.ensures.names (drop (place + 1) journal) (c.loop-place.invariant.1 ∙ ap (λ (vs : List Vertex). names_of vs) (rest_more journal place v c.journal_at.ensures.vertex)),
    )
