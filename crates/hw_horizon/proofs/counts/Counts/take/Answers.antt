use Rattle.std.proofs.Common.{◌≡◌, ◌≢◌, ℕ, ◌+◌, ◌-◌, ◌^◌, ◌≤◌, ◌<◌, true, false, List, length, below_more, set, get_or, refl, sym, ap, ◌∙◌, arith}
use Rattle.std.specs.Prelude.{is_some}
use Rattle.std.proofs.Math.ListN.{length-set}
use Rattle.hw_dag.specs.declared.numbers.UnitNo.{UnitNo}
use Rattle.hw_dag.specs.declared.numbers.View.TheVariants as view
use Rattle.hw_dag.specs.Dag.{view_at}
use Rattle.hw_horizon.specs.Firsts.{weight_after}
use Rattle.hw_horizon.proofs.FirstLaws.{correct_inside}
use Rattle.hw_horizon.proofs.FollowLaws.{put_other, put_same}
use Rattle.hw_horizon.proofs.SeenLaws.{seer, slot_sees, sees_less, sees_as_much}
use Rattle.hw_horizon.proofs.counts.Counts.take.Goals as goal
use Rattle.hw_horizon.proofs.counts.Counts.take.Goals.{then-is_some+then-does_see, else-is_some, else-is_some-via-then-is_some+else-does_see, else-is_some-via-else-is_some}

pub overflow_sub-seen : goal.overflow_sub-seen
overflow_sub-seen c =
    let D = c.args.question.now.dag.now in
    let W = c.args.question.now.weights.now in
    let V = c.loop-v.v in
    let lw = c.args.question.now.asked.weights_are.length_is in
    let lf = c.requires.firsts in
    let within = c.requires.within in
    let there = ap is_some (sym c.get.ensures) ∙ sym c.is_some.ensures ∙ c.if-is_some.true in
    let sees = sym c.does_see.ensures ∙ c.if-does_see.true in
    let tip = seer D (view_at c.args.question.now.panorama.now V) c.args.validator c.get-first.result sees in
    let known = c.args.question.now.asked.panorama_is.known V tip.0 tip.1 in
    let was = slot_sees D (view_at c.args.question.now.panorama.now V) tip.0 c.args.firsts.now c.args.validator c.get-first.result true tip.1 c.get-first.ensures (sym sees) in
    let less = sees_less W D c.args.question.now.asked.graph_is c.args.firsts.now (set c.args.firsts.now c.args.validator (2 ^ 32 - 1)) c.args.validator refl (omega arith) (omega arith) tip.0.0 known was in
    let saw = c.requires.seen.each V tip.0 there tip.1 ∙ sym (c.loop-v.invariant.rest V (omega arith)) ∙ sym c.get-seen.ensures in
    omega arith

pub loop-v-preserved : goal.loop-v-preserved
loop-v-preserved c =
    let i = c.loop-v.invariant in
    let lw = c.args.question.now.asked.weights_are.length_is in
    let lf = c.requires.firsts in
    let within = c.requires.within in
    let less = c.loop-v-test.true in
    let end = c.validators-v-end.ensures.validators in
    let long = i.long in
    let inside : c.loop-v.v < length c.loop-v.self = omega arith in
    elim c.if-is_some.branch [
      | then-is_some+then-does_see w ↦
          (let put = w.self-is ∙ w.set.ensures in
          let at : (k : ℕ) → (k ≡ c.loop-v.v → ⊥) → get_or c.if-is_some.self k 0 ≡ get_or c.loop-v.self k 0 = λ k other. put_other c.loop-v.self c.if-is_some.self c.loop-v.v k _ put other in
          let here = put_same c.loop-v.self c.if-is_some.self c.loop-v.v _ put inside in
          record {
            long = ap length put ∙ length-set c.loop-v.self c.loop-v.v _ ∙ i.long;
            done = below_more _ _ (λ k lt tip there slot. i.done k lt tip there slot ∙ sym (at k (λ same. omega arith)))
                (λ tip there slot.
                let was = slot_sees c.args.question.now.dag.now (view_at c.args.question.now.panorama.now c.loop-v.v) tip c.args.firsts.now c.args.validator c.get-first.result true slot c.get-first.ensures (sym w.if-does_see.true ∙ w.does_see.ensures) in
                let fewer = sees_less c.args.question.now.weights.now c.args.question.now.dag.now c.args.question.now.asked.graph_is c.args.firsts.now (set c.args.firsts.now c.args.validator (2 ^ 32 - 1)) c.args.validator refl (omega arith) (omega arith)
                tip.0 (c.args.question.now.asked.panorama_is.known c.loop-v.v tip slot) was in
                let saw = c.requires.seen.each c.loop-v.v tip there slot ∙ sym (i.rest c.loop-v.v (omega arith)) ∙ sym w.get-seen.ensures in
                omega arith);
            rest = λ k le. at k (λ same. omega arith) ∙ i.rest k (omega arith);
          })
      | else-is_some w ↦ record {
        long = ap length w.self-is ∙ i.long;
        done = below_more _ _ (λ k lt tip there slot. i.done k lt tip there slot ∙ sym (ap (λ (ns : List ℕ). get_or ns k 0) w.self-is))
            (λ tip there slot. elim w.else-is_some.branch [
              | else-is_some-via-then-is_some+else-does_see x ↦
                  (let never = slot_sees c.args.question.now.dag.now (view_at c.args.question.now.panorama.now c.loop-v.v) tip c.args.firsts.now c.args.validator c.get-first.result false slot c.get-first.ensures (sym x.if-does_see.false ∙ x.does_see.ensures) in
                  sym (sees_as_much c.args.question.now.weights.now c.args.question.now.dag.now c.args.question.now.asked.graph_is c.args.firsts.now (set c.args.firsts.now c.args.validator (2 ^ 32 - 1)) c.args.validator refl (omega arith) (omega arith)
                  tip.0 (c.args.question.now.asked.panorama_is.known c.loop-v.v tip slot) never)
                  ∙ c.requires.seen.each c.loop-v.v tip there slot ∙ sym (i.rest c.loop-v.v (omega arith)) ∙ sym (ap (λ (ns : List ℕ). get_or ns c.loop-v.v 0) w.self-is))
              | else-is_some-via-else-is_some x ↦ absurd (let bad : false ≡ true = sym x.if-is_some.false ∙ c.is_some.ensures ∙ ap is_some c.get.ensures ∙ there in cc)
            ]);
        rest = λ k le. ap (λ (ns : List ℕ). get_or ns k 0) w.self-is ∙ i.rest k (omega arith);
      }
    ]

pub returns : goal.returns
returns c = λ numbers e.
    let i = c.loop-v.invariant in
    let wide = c.args.question.now.asked.panorama_is.length_is in
    let many = c.validators-v-end.ensures.validators in
    let end = c.loop-v-test.false in
    record {
      long = i.long;
      each = λ v tip there slot.
          let lt = correct_inside c.args.question.now.panorama.now v tip slot in
          ap (λ (ns : List ℕ). weight_after c.args.question.now.weights.now c.args.question.now.dag.now ns tip.0) e ∙ i.done v (omega arith) tip there slot;
    }
