use Rattle.std.proofs.Common.{◌≡◌, ℕ, ◌+◌, Bool, true, false, sym, ap, ◌∙◌, arith}
use Rattle.std.specs.Prelude.{is_some}
use Rattle.hw_horizon.specs.Tables.{is_member}
use Rattle.hw_horizon.proofs.WeightLaws.{one_more, so_far_most}
use Rattle.hw_horizon.proofs.rounds.members_weight.Goals as goal
use Rattle.hw_horizon.proofs.rounds.members_weight.Goals.{then-is_some, else-is_some}

pub overflow_add-total : goal.overflow_add-total
overflow_add-total c =
    let test : ℕ → Bool = is_member c.args.present.now in
    let passes : test c.loop-v.v ≡ true = ap is_some (sym c.get.ensures) ∙ sym c.is_some.ensures ∙ c.if-is_some.true in
    let more = one_more c.args.weights.now test c.loop-v.v true passes in
    let many = c.requires.weights.length_is in
    let end = c.validators-v-end.ensures.validators in
    let most = so_far_most c.args.weights.now test (c.loop-v.v + 1) (omega arith) in
    let bound = c.requires.weights.bounded in
    omega arith

pub loop-v-preserved : goal.loop-v-preserved
loop-v-preserved c =
    let test : ℕ → Bool = is_member c.args.present.now in
    elim c.if-is_some.branch [
      | then-is_some w ↦ (let h : test c.loop-v.v ≡ true = ap is_some (sym c.get.ensures) ∙ sym c.is_some.ensures ∙ w.if-is_some.true in let more = one_more c.args.weights.now test c.loop-v.v true h in omega arith)
      | else-is_some w ↦ (let h : test c.loop-v.v ≡ false = ap is_some (sym c.get.ensures) ∙ sym c.is_some.ensures ∙ w.if-is_some.false in let more = one_more c.args.weights.now test c.loop-v.v false h in omega arith)
    ]
