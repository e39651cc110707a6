use Rattle.std.proofs.Common.{◌≡◌, length, below_more, ap, ◌∙◌, arith}
use Rattle.std.proofs.Math.ListN.{length-set}
use Rattle.hw_dag.specs.Dag.{graph, observations}
use Rattle.hw_horizon.specs.Tables.{entry}
use Rattle.hw_horizon.proofs.RoundLaws.{put_entry, put_same, next_by_entries}
use Rattle.hw_horizon.proofs.rounds.put_next.Goals as goal

pub loop-v-preserved : goal.loop-v-preserved
loop-v-preserved c =
    let i = c.loop-v.invariant in
    let many = c.validators-v-end.ensures.validators in
    let long = i.long in
    let last : entry c.set.new.self c.loop-v.v ≡ c.start_over-start.result = put_same c.loop-v.next c.set.new.self c.loop-v.v c.start_over-start.result c.set.ensures (omega arith) in
    record {
      long = ap length c.set.ensures ∙ length-set c.loop-v.next c.loop-v.v c.start_over-start.result ∙ long;
      starts = below_more _ _
          (λ v lt. put_entry c.loop-v.next c.set.new.self c.loop-v.v v c.start_over-start.result c.set.ensures lt ∙ i.starts v lt)
          (last ∙ c.start_over-start.ensures);
    }

pub returns : goal.returns
returns c =
    let i = c.loop-v.invariant in
    let many = c.validators-v-end.ensures.validators in
    let width = c.args.question.now.asked.weights_are.length_is in
    next_by_entries c.args.question.now.weights.now (graph c.args.question.now.dag.now) (observations c.args.question.now.dag.now c.args.question.now.panorama.now) c.args.question.now.quorum c.args.lower.now c.args.present.now c.loop-v.next (omega (arith, i.long)) (λ v lt. i.starts v (omega arith))
