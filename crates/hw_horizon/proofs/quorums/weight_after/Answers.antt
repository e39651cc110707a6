use Rattle.std.proofs.Common.{◌≡◌, ℕ, ◌+◌, Bool, true, false, sym, ap, ◌∙◌, arith}
use Rattle.hw_dag.specs.Dag.{SettledUnit, view_at}
use Rattle.hw_horizon.specs.Firsts.{is_after, sees_after}
use Rattle.hw_horizon.proofs.WeightLaws.{one_more, so_far_most}
use Rattle.hw_horizon.proofs.quorums.weight_after.Goals as goal
use Rattle.hw_horizon.proofs.quorums.weight_after.Goals.{then-is_after, else-is_after}

-- the test is that of the validator
same_test : (c : goal.After-row_known-1) → sees_after c.args.dag.now c.args.firsts.now c.args.no.0 c.loop-v.v ≡ c.is_after.result
same_test c =
    let slots = c.panorama-panorama.ensures ∙ ap (λ (u : SettledUnit). u.panorama) c.unit.ensures in
    let slot : c.get-in-loop-v.result ≡ view_at c.panorama-panorama.result.now c.loop-v.v = c.get-in-loop-v.ensures in
    sym (c.is_after.ensures ∙ ap (λ (n : ℕ). is_after n c.get-in-loop-v.result) c.get.ensures
    ∙ ap (is_after _) (slot ∙ ap (λ (p : _). view_at p c.loop-v.v) slots))

pub overflow_add-total : goal.overflow_add-total
overflow_add-total c =
    let test : ℕ → Bool = sees_after c.args.dag.now c.args.firsts.now c.args.no.0 in
    let many = c.requires.weights.length_is in
    let end = c.validators-v-end.ensures.validators in
    let bound = c.requires.weights.bounded in
    let most = so_far_most c.args.weights.now test (c.loop-v.v + 1) (omega arith) in
    elim c.if-is_after.branch [
      | then-is_after w ↦ (let h : test c.loop-v.v ≡ true = same_test c ∙ w.if-is_after.true in let more = one_more c.args.weights.now test c.loop-v.v true h in let is = w.total-is in omega arith)
      | else-is_after w ↦ (let h : test c.loop-v.v ≡ false = same_test c ∙ w.if-is_after.false in let more = one_more c.args.weights.now test c.loop-v.v false h in let is = w.total-is in omega arith)
    ]

pub loop-v-preserved : goal.loop-v-preserved
loop-v-preserved c =
    let test : ℕ → Bool = sees_after c.args.dag.now c.args.firsts.now c.args.no.0 in
    elim c.if-is_after.branch [
      | then-is_after w ↦ (let h : test c.loop-v.v ≡ true = same_test c ∙ w.if-is_after.true in let more = one_more c.args.weights.now test c.loop-v.v true h in let is = w.total-is in omega arith)
      | else-is_after w ↦ (let h : test c.loop-v.v ≡ false = same_test c ∙ w.if-is_after.false in let more = one_more c.args.weights.now test c.loop-v.v false h in let is = w.total-is in omega arith)
    ]
