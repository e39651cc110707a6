use Rattle.std.proofs.Common.{◌≡◌, ◌<◌, inl, inr, ℕ, List, length, set, refl, sym, ap, subst, ◌∙◌, arith}
use Rattle.std.proofs.Math.ListN.{length-set}
use Rattle.std.proofs.lemmas.Bool.{cases_eq, cases_lt}
use Rattle.hw_dag.specs.declared.numbers.View.TheVariants as view
use Rattle.hw_dag.specs.Dag.{view_at}
use Rattle.hw_horizon.specs.Firsts.{weight_after}
use Rattle.hw_horizon.specs.Bounds.{LevelBound, support_of}
use Rattle.hw_horizon.proofs.FollowLaws.{put_other, put_same}
use Rattle.hw_horizon.proofs.follow.put_support.Goals as goal

pub loop-v-init : goal.loop-v-init
loop-v-init c = record {
  firsts = refl;
  long = refl;
  rest = λ w le. refl;
  done = λ w tip lt e. c.requires.outside w tip (inl lt) e;
}

pub loop-v-preserved : goal.loop-v-preserved
loop-v-preserved c =
    let i = c.loop-v.invariant in
    let less = c.loop-v-test.true in
    let end = c.requires.span in
    let wide = c.requires.support_length in
    let long = i.long in
    let inside : c.loop-v.v < length c.loop-v.bound.support = omega arith in
    let put : c.set_support.new.self.support ≡ set c.loop-v.bound.support c.loop-v.v c.next_support-weight.result = ap (λ (b : LevelBound). b.support) c.set_support.ensures in
    record {
      firsts = ap (λ (b : LevelBound). b.firsts) c.set_support.ensures ∙ i.firsts;
      long = ap length put ∙ length-set c.loop-v.bound.support c.loop-v.v c.next_support-weight.result ∙ i.long;
      rest = λ w le. put_other c.loop-v.bound.support c.set_support.new.self.support c.loop-v.v w c.next_support-weight.result put (omega arith) ∙ i.rest w (omega arith);
      done = λ w tip lt e. elim (cases_eq w c.loop-v.v) [
        | inl same ↦
            let here : view_at c.args.question.now.panorama.now c.loop-v.v ≡ view.Correct tip = subst (λ (k : ℕ). view_at c.args.question.now.panorama.now k ≡ view.Correct tip) same e in
            let is : support_of c.set_support.new.self w ≡ c.next_support-weight.result = ap (λ (k : ℕ). support_of c.set_support.new.self k) same ∙ put_same c.loop-v.bound.support c.set_support.new.self.support c.loop-v.v c.next_support-weight.result put inside in
            let sees = subst (λ (ns : List ℕ). weight_after c.args.question.now.weights.now c.args.question.now.dag.now ns tip.0 ≡ c.next_support-weight.result) i.firsts (c.next_support-weight.ensures tip (c.get-view.ensures ∙ here)) in
            subst (λ (n : ℕ). weight_after c.args.question.now.weights.now c.args.question.now.dag.now c.args.bound.now.firsts tip.0 ≡ n) (sym is) sees
        | inr other ↦
            subst (λ (n : ℕ). weight_after c.args.question.now.weights.now c.args.question.now.dag.now c.args.bound.now.firsts tip.0 ≡ n)
            (sym (put_other c.loop-v.bound.support c.set_support.new.self.support c.loop-v.v w c.next_support-weight.result put other)) (i.done w tip (omega arith) e)
      ];
    }

pub returns-clause-support : goal.returns-clause-support
returns-clause-support c = λ w tip e. elim (cases_lt w c.loop-v.v) [
  | inl less ↦
      subst (λ (ns : List ℕ). weight_after c.args.question.now.weights.now c.args.question.now.dag.now ns tip.0 ≡ support_of c.loop-v.bound w) (sym c.loop-v.invariant.firsts) (c.loop-v.invariant.done w tip less e)
  | inr le ↦
      (let past = c.loop-v-test.false in
      subst (λ (ns : List ℕ). weight_after c.args.question.now.weights.now c.args.question.now.dag.now ns tip.0 ≡ support_of c.loop-v.bound w) (sym c.loop-v.invariant.firsts)
      (subst (λ (n : ℕ). weight_after c.args.question.now.weights.now c.args.question.now.dag.now c.args.bound.now.firsts tip.0 ≡ n) (sym (c.loop-v.invariant.rest w le)) (c.requires.outside w tip (inr (omega arith)) e)))
]
