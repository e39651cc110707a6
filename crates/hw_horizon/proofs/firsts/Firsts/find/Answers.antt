use Rattle.std.proofs.Common.{ℕ, length, below_more, subst, sym, ap, ◌∙◌, arith}
use Rattle.std.proofs.Math.ListN.{length-set}
use Rattle.hw_dag.specs.Dag.{view_at}
use Rattle.hw_dag.specs.declared.numbers.View.{View}
use Rattle.hw_horizon.specs.Firsts.{IsFirst}
use Rattle.hw_horizon.proofs.FirstLaws.{put_number, put_number_same}
use Rattle.hw_horizon.proofs.firsts.Firsts.find.Goals as goal

pub loop-v-preserved : goal.loop-v-preserved
loop-v-preserved c =
    let i = c.loop-v.invariant in
    let many = c.validators-v-end.ensures.validators in
    let long = i.long in
    record {
      long = ap length c.set.ensures ∙ length-set c.loop-v.self c.loop-v.v c.first_of-first.result ∙ long;
      firsts = below_more _ _
          (λ v lt. subst (λ (n : ℕ). IsFirst c.args.dag.now (view_at c.args.panorama.now v) c.args.lower.now c.args.present.now v n) (sym (put_number c.loop-v.self c.set.new.self c.loop-v.v v c.first_of-first.result c.set.ensures lt)) (i.firsts v lt))
          (subst (λ (n : ℕ). IsFirst c.args.dag.now (view_at c.args.panorama.now c.loop-v.v) c.args.lower.now c.args.present.now c.loop-v.v n) (sym (put_number_same c.loop-v.self c.set.new.self c.loop-v.v c.first_of-first.result c.set.ensures (omega arith)))
          (subst (λ (w : View). IsFirst c.args.dag.now w c.args.lower.now c.args.present.now c.loop-v.v c.first_of-first.result) c.get.ensures c.first_of-first.ensures));
    }
