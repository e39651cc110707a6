use Rattle.std.proofs.Common.{◌≡◌, ◌<◌, ◌≤◌, ◌⊎◌, inl, inr, ℕ, List, length, set, get_or, refl, sym, ap, subst, ◌∙◌, arith}
use Rattle.std.proofs.Math.ListN.{length-set}
use Rattle.std.proofs.lemmas.Bool.{cases_eq, cases_lt}
use Rattle.hw_dag.specs.declared.numbers.View.TheVariants as view
use Rattle.hw_dag.specs.Dag.{view_at}
use Rattle.hw_horizon.specs.Bounds.{LevelBound, first_of, counts_over, IsFirstOf}
use Rattle.hw_horizon.proofs.FollowLaws.{put_other, put_same, lowered_more, same_more}
use Rattle.hw_horizon.proofs.follow.put_firsts.Goals as goal

pub loop-v-init : goal.loop-v-init
loop-v-init c = record {
  long = refl;
  support = refl;
  rest = λ w le. refl;
  firsts = λ w tip lt e. c.requires.outside w tip (inl lt) e;
  lowered = λ w. inl (omega arith);
  same = λ w. inl refl;
  edges = refl;
}

pub loop-v-preserved : goal.loop-v-preserved
loop-v-preserved c =
    let i = c.loop-v.invariant in
    let less = c.loop-v-test.true in
    let end = c.requires.span in
    let wide = c.requires.firsts_length in
    let long = i.long in
    let inside : c.loop-v.v < length c.loop-v.bound.firsts = omega arith in
    let put : c.set_first.new.self.firsts ≡ set c.loop-v.bound.firsts c.loop-v.v c.next_first-first.result = ap (λ (b : LevelBound). b.firsts) c.set_first.ensures in
    let before : c.get-before.result ≡ first_of c.args.bound.now c.loop-v.v = c.get-before.ensures ∙ ap (λ (ns : List ℕ). get_or ns c.loop-v.v 0) c.firsts.ensures ∙ i.rest c.loop-v.v (omega arith) in
    record {
      long = ap length put ∙ length-set c.loop-v.bound.firsts c.loop-v.v c.next_first-first.result ∙ i.long;
      support = ap (λ (b : LevelBound). b.support) c.set_first.ensures ∙ i.support;
      rest = λ w le. put_other c.loop-v.bound.firsts c.set_first.new.self.firsts c.loop-v.v w c.next_first-first.result put (omega arith) ∙ i.rest w (omega arith);
      firsts = λ w tip lt e. elim (cases_eq w c.loop-v.v) [
        | inl same ↦
            let here : view_at c.args.question.now.panorama.now c.loop-v.v ≡ view.Correct tip = subst (λ (k : ℕ). view_at c.args.question.now.panorama.now k ≡ view.Correct tip) same e in
            let is : first_of c.set_first.new.self w ≡ c.next_first-first.result = ap (λ (k : ℕ). first_of c.set_first.new.self k) same ∙ put_same c.loop-v.bound.firsts c.set_first.new.self.firsts c.loop-v.v c.next_first-first.result put inside in
            subst (λ (n : ℕ). IsFirstOf c.args.question.now.dag.now tip.0 (counts_over c.args.question.now.weights.now c.args.question.now.dag.now c.args.question.now.block.0 c.args.question.now.quorum c.args.below.now.is_votes c.args.below.now.bound.now.firsts) n) (sym is)
            (c.next_first-first.ensures tip here)
        | inr other ↦
            subst (λ (n : ℕ). IsFirstOf c.args.question.now.dag.now tip.0 (counts_over c.args.question.now.weights.now c.args.question.now.dag.now c.args.question.now.block.0 c.args.question.now.quorum c.args.below.now.is_votes c.args.below.now.bound.now.firsts) n)
            (sym (put_other c.loop-v.bound.firsts c.set_first.new.self.firsts c.loop-v.v w c.next_first-first.result put other)) (i.firsts w tip (omega arith) e)
      ];
      lowered = lowered_more c.args.bound.now c.loop-v.bound c.set_first.new.self c.loop-v.v c.next_first-first.result c.loop-v.moves.down c.moved-moves.result.down i.lowered (i.rest c.loop-v.v (omega arith)) put inside
          c.moved-moves.ensures.down (λ lt. c.moved-moves.ensures.lowered (omega arith));
      same = same_more c.args.bound.now c.loop-v.bound c.set_first.new.self c.loop-v.v c.next_first-first.result c.loop-v.moves.any c.moved-moves.result.any i.same (i.rest c.loop-v.v (omega arith)) put inside
          c.moved-moves.ensures.any
          (subst (λ (k : ℕ). (k ≡ c.next_first-first.result) ⊎ ((c.moved-moves.result.any ≤ k) × (c.moved-moves.result.any ≤ c.next_first-first.result))) before c.moved-moves.ensures.same);
      edges = c.put_edge.ensures ∙ i.edges;
    }

pub returns-clause-firsts : goal.returns-clause-firsts
returns-clause-firsts c = λ w tip e. elim (cases_lt w c.loop-v.v) [
  | inl less ↦ c.loop-v.invariant.firsts w tip less e
  | inr le ↦
      (let past = c.loop-v-test.false in
      subst (λ (n : ℕ). IsFirstOf c.args.question.now.dag.now tip.0 (counts_over c.args.question.now.weights.now c.args.question.now.dag.now c.args.question.now.block.0 c.args.question.now.quorum c.args.below.now.is_votes c.args.below.now.bound.now.firsts) n)
      (sym (c.loop-v.invariant.rest w le)) (c.requires.outside w tip (inr (omega arith)) e))
]

pub next_first-first-requires-clause-kept : goal.next_first-first-requires-clause-kept
next_first-first-requires-clause-kept c = λ tip e le.
    let i = c.loop-v.invariant in
    let before : c.get-before.result ≡ first_of c.args.bound.now c.loop-v.v = c.get-before.ensures ∙ ap (λ (ns : List ℕ). get_or ns c.loop-v.v 0) c.firsts.ensures ∙ i.rest c.loop-v.v (omega arith) in
    subst (λ (n : ℕ). IsFirstOf c.args.question.now.dag.now tip.0 (counts_over c.args.question.now.weights.now c.args.question.now.dag.now c.args.question.now.block.0 c.args.question.now.quorum c.args.below.now.is_votes c.args.below.now.bound.now.firsts) n) (sym before)
    (c.requires.kept (c.known_tip.ensures.old tip e) c.loop-v.v tip (c.known_tip.ensures.same tip e) (omega arith))
