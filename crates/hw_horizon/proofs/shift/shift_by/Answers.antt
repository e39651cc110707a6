use Rattle.std.proofs.Common.{◌≡◌, ◌+◌, ◌<◌, inl, inr, ℕ, List, Some, None, length, set, get_or, sym, ap, subst, ◌∙◌, arith}
use Rattle.std.proofs.Math.ListN.{length-set, get_or-eq_default}
use Rattle.std.proofs.lemmas.Bool.{cases_eq, cases_lt}
use Rattle.hw_horizon.specs.Firsts.{weight_amid}
use Rattle.hw_horizon.specs.Bounds.{LevelBound, support_of}
use Rattle.hw_horizon.proofs.FollowLaws.{put_other, put_same}
use Rattle.hw_horizon.proofs.shift.shift_by.Goals as goal

pub loop-v-preserved : goal.loop-v-preserved
loop-v-preserved c =
    let i = c.loop-v.invariant in
    let less = c.loop-v-test.true in
    let end = c.validators-v-end.ensures.validators in
    let wide = c.requires.support_length in
    let long = i.long in
    let inside : c.loop-v.v < length c.loop-v.bound.support = omega arith in
    let put : c.set_support.new.self.support ≡ set c.loop-v.bound.support c.loop-v.v c.shifted_of-next.result = ap (λ (b : LevelBound). b.support) c.set_support.ensures in
    let firsts = c.firsts.ensures ∙ i.firsts in
    record {
      firsts = ap (λ (b : LevelBound). b.firsts) c.set_support.ensures ∙ i.firsts;
      long = ap length put ∙ length-set c.loop-v.bound.support c.loop-v.v c.shifted_of-next.result ∙ i.long;
      rest = λ w le. put_other c.loop-v.bound.support c.set_support.new.self.support c.loop-v.v w c.shifted_of-next.result put (omega arith) ∙ i.rest w (omega arith);
      done = λ w tip lt e. elim (cases_eq w c.loop-v.v) [
        | inl same ↦
            let here : get_or c.args.tips.now c.loop-v.v None ≡ Some tip = subst (λ (k : ℕ). get_or c.args.tips.now k None ≡ Some tip) same e in
            let is : support_of c.set_support.new.self w ≡ c.shifted_of-next.result = ap (λ (k : ℕ). support_of c.set_support.new.self k) same ∙ put_same c.loop-v.bound.support c.set_support.new.self.support c.loop-v.v c.shifted_of-next.result put inside in
            let saw = c.requires.seen c.loop-v.v tip here ∙ sym (i.rest c.loop-v.v (omega arith)) ∙ sym c.support-sum.ensures in
            let sees = subst (λ (ns : List ℕ). weight_amid c.args.question.now.weights.now c.args.question.now.dag.now c.args.before.now ns c.args.slot tip.0 ≡ c.support-sum.result → weight_amid c.args.question.now.weights.now c.args.question.now.dag.now c.args.before.now ns (c.args.slot + 1) tip.0 ≡ c.shifted_of-next.result) firsts
            (c.shifted_of-next.ensures tip here) in
            sees saw ∙ sym is
        | inr other ↦ i.done w tip (omega arith) e ∙ sym (put_other c.loop-v.bound.support c.set_support.new.self.support c.loop-v.v w c.shifted_of-next.result put other)
      ];
    }

pub returns-clause-seen : goal.returns-clause-seen
returns-clause-seen c = λ w tip e. elim (cases_lt w c.loop-v.v) [
  | inl less ↦
      subst (λ (ns : List ℕ). weight_amid c.args.question.now.weights.now c.args.question.now.dag.now c.args.before.now ns (c.args.slot + 1) tip.0 ≡ support_of c.loop-v.bound w) (sym c.loop-v.invariant.firsts) (c.loop-v.invariant.done w tip less e)
  | inr le ↦
      (let past = c.loop-v-test.false in
      let end = c.validators-v-end.ensures.validators in
      let long = c.requires.tips in
      let none = get_or-eq_default c.args.tips.now None (omega arith) in
      absurd (let bad : None ≡ Some tip = sym none ∙ e in cc))
]
