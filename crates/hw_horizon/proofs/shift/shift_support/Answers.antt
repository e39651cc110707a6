use Rattle.std.proofs.Common.{◌≡◌, ◌+◌, ℕ, length, get_or, sym, ap, subst, ◌∙◌, arith}
use Rattle.hw_horizon.specs.Firsts.{weight_amid}
use Rattle.hw_horizon.specs.Bounds.{LevelBound}
use Rattle.hw_horizon.proofs.ShiftLaws.{HasShifted, amid_all, shifted_none, shifted_past}
use Rattle.hw_horizon.proofs.shift.shift_support.Goals as goal
use Rattle.hw_horizon.proofs.shift.shift_support.Goals.{then-get, else-get}

pub loop-slot-init : goal.loop-slot-init
loop-slot-init c = shifted_none c.args.question.now.weights.now c.args.question.now.dag.now c.args.tips.now c.args.before.now c.args.bound.now c.requires.seen

pub loop-slot-preserved : goal.loop-slot-preserved
loop-slot-preserved c =
    let i = c.loop-slot.invariant in
    elim c.if-get.branch [
      | then-get w ↦
          (let done = w.shift_by.ensures in
          subst (λ (b : LevelBound). HasShifted c.args.question.now.weights.now c.args.question.now.dag.now c.args.tips.now c.args.before.now c.args.bound.now b (c.loop-slot.slot + 1)) (sym w.bound-is)
          (record { firsts = done.firsts ∙ i.firsts; long = done.support_length ∙ i.long; seen = done.seen }))
      | else-get w ↦
          (let same : get_or c.args.before.now c.loop-slot.slot 0 ≡ get_or c.loop-slot.bound.firsts c.loop-slot.slot 0 =
          sym c.get.ensures ∙ w.if-get.false ∙ c.get-in-loop-slot.ensures ∙ ap (λ (ns : _). get_or ns c.loop-slot.slot 0) c.firsts.ensures in
          subst (λ (b : LevelBound). HasShifted c.args.question.now.weights.now c.args.question.now.dag.now c.args.tips.now c.args.before.now c.args.bound.now b (c.loop-slot.slot + 1)) (sym w.bound-is)
          (shifted_past c.args.question.now.weights.now c.args.question.now.dag.now c.args.tips.now c.args.before.now c.args.bound.now c.loop-slot.bound c.loop-slot.slot i same))
    ]

pub returns-clause-seen : goal.returns-clause-seen
returns-clause-seen c = λ v tip e.
    let past = c.loop-slot-test.false in
    let end = c.validators-slot-end.ensures.validators in
    let most = c.loop-slot.auto.slot-end in
    let at : c.loop-slot.slot ≡ c.args.question.now.dag.now.validators = omega arith in
    let all = amid_all c.args.question.now.weights.now c.args.question.now.dag.now c.args.before.now c.loop-slot.bound.firsts tip.0 c.args.question.now.dag.now.validators c.requires.before (ap length c.loop-slot.invariant.firsts ∙ c.requires.firsts_length) in
    sym all ∙ sym (ap (λ (k : ℕ). weight_amid c.args.question.now.weights.now c.args.question.now.dag.now c.args.before.now c.loop-slot.bound.firsts k tip.0) at) ∙ c.loop-slot.invariant.seen v tip e
