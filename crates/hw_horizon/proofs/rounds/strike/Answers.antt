use Rattle.std.proofs.Common.{◌≡◌, ℕ, inl, inr, below_more, sym, ap, ◌∙◌, arith}
use Rattle.std.specs.Prelude.{is_some}
use Rattle.std.proofs.lemmas.Bool.{cases_eq}
use Rattle.hw_dag.specs.Dag.{graph, observations}
use Rattle.hw_horizon.specs.Tables.{entry, AreAmong}
use Rattle.hw_horizon.proofs.StrikeLaws.{judged_among, judged_keeps, judged_start, all_judged}
use Rattle.hw_horizon.proofs.rounds.strike.Goals as goal

pub loop-v-init : goal.loop-v-init
loop-v-init c = record {
  present_length = c.requires.present_length;
  firsts_length = c.requires.firsts_length;
  firsts = c.requires.firsts;
  slots = c.requires.slots;
  weight = c.requires.weight;
  most = omega arith;
  among = λ v h. h;
  keeps = λ kept stable down. down;
  judged = λ v lt h. absurd (omega arith);
  settled = λ same v h. h;
  counts = c.requires.counts;
}

pub loop-v-preserved : goal.loop-v-preserved
loop-v-preserved c =
    let i = c.loop-v.invariant in
    let j = c.let_fall-left.ensures in
    let most = i.most in
    let weight = i.weight in
    let less = j.weight in
    let among : AreAmong c.let_fall-left.new.present c.loop-v.present =
    judged_among c.args.question.now.weights.now (graph c.args.question.now.dag.now) (observations c.args.question.now.dag.now c.args.question.now.panorama.now) c.args.question.now.quorum c.args.lower.now c.loop-v.present c.let_fall-left.new.present c.loop-v.v j.others j.judged in
    record {
      present_length = j.present_length;
      firsts_length = j.firsts_length;
      firsts = j.firsts;
      slots = λ v h. i.slots v (among v h);
      weight = omega arith;
      most = omega arith;
      among = λ v h. i.among v (among v h);
      keeps = λ kept stable down.
          judged_keeps c.args.question.now.weights.now (graph c.args.question.now.dag.now) (observations c.args.question.now.dag.now c.args.question.now.panorama.now) c.args.question.now.quorum c.args.lower.now c.loop-v.present c.let_fall-left.new.present c.loop-v.v j.others j.judged
          kept stable (i.keeps kept stable down);
      judged = below_more _ _ (λ v lt h. i.judged v lt (among v h))
          (judged_start c.args.question.now.weights.now (graph c.args.question.now.dag.now) (observations c.args.question.now.dag.now c.args.question.now.panorama.now) c.args.question.now.quorum c.args.lower.now c.loop-v.present c.let_fall-left.new.present c.loop-v.v j.others j.judged
          c.args.present.now i.among);
      settled = λ same v h.
          let none : c.let_fall-left.result ≡ 0 = omega arith in
          let was = i.settled (omega arith) v h in
          elim (cases_eq v c.loop-v.v) [
            | inl here ↦ ap (λ (k : ℕ). is_some (entry c.let_fall-left.new.present k)) here ∙ ap is_some (j.stays none) ∙ ap (λ (k : ℕ). is_some (entry c.loop-v.present k)) (sym here) ∙ was
            | inr other ↦ ap is_some (j.others v other) ∙ was
          ];
      counts = j.counts;
    }

pub returns-clause-judged : goal.returns-clause-judged
returns-clause-judged c = λ enough.
    let i = c.loop-v.invariant in
    let many = c.validators-v-end.ensures.validators in
    let end = c.loop-v-test.false in
    let width = c.args.question.now.asked.weights_are.length_is in
    let long = i.present_length in
    all_judged c.args.question.now.weights.now (graph c.args.question.now.dag.now) (observations c.args.question.now.dag.now c.args.question.now.panorama.now) c.args.question.now.quorum c.args.lower.now c.args.present.now c.loop-v.present (long ∙ sym width) i.among
    (λ v lt. i.judged v (omega arith))
