use Rattle.std.proofs.Common.{◌≡◌, ◌<◌, ap, ◌∙◌, arith}
use Rattle.hw_types.specs.declared.unit.SignedUnit.{SignedUnit}
use Rattle.hw_dag.specs.Dag.{SettledUnit, unit_at, count_of, seq_of}
use Rattle.hw_meeting.proofs.SeqLaws.{seq_small}
use Rattle.hw_meeting.proofs.summary.lane_summary.Goals as goal

pub overflow_add-result : goal.overflow_add-result
overflow_add-result c =
    let tip = c.in-Whole-Some.tip.0 in
    let dag = c.args.dag.now in
    let known : tip < count_of dag = rw c.in-Whole-Some.is-1 at c.requires in
    let seq : c.signed.result.now.unit.seq ≡ seq_of (unit_at dag tip) = ap (λ (s : SignedUnit). s.unit.seq) (c.signed.ensures ∙ ap (λ (u : SettledUnit). u.signed) c.unit-tip.ensures) in
    let small = seq_small dag c.recall_graph.ensures tip known in
    omega (arith, seq, small, c.recall_graph.ensures.bounded)
