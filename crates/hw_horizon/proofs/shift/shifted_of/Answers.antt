use Rattle.std.proofs.Common.{◌≡◌, ◌+◌, Some, sym, subst, ◌∙◌}
use Rattle.hw_dag.specs.declared.numbers.UnitNo.{UnitNo}
use Rattle.hw_horizon.specs.Firsts.{weight_amid}
use Rattle.hw_horizon.proofs.shift.shifted_of.Goals as goal

pub returns-in-Some : goal.returns-in-Some
returns-in-Some c = λ no e saw.
    let same : no ≡ c.in-Some.no = (let both : Some no ≡ Some c.in-Some.no = sym e ∙ c.in-Some.is in cc) in
    subst (λ (k : UnitNo). weight_amid c.args.question.now.weights.now c.args.question.now.dag.now c.args.before.now c.args.firsts.now (c.args.slot + 1) k.0 ≡ c.shifted.result) (sym same)
    (c.shifted.ensures (subst (λ (k : UnitNo). weight_amid c.args.question.now.weights.now c.args.question.now.dag.now c.args.before.now c.args.firsts.now c.args.slot k.0 ≡ c.args.sum) same saw))
