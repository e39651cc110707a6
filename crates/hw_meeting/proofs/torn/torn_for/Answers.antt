use Rattle.std.proofs.Common.{◌≡◌, ℕ, true, List, length, sym, ap, subst, ◌∙◌, arith}
use Rattle.hw_types.specs.declared.config.Config.{Config}
use Rattle.hw_dag.specs.Dag.{UnitGraph, graph}
use Rattle.hw_agree.specs.declared.summary.LaneSummary.{LaneSummary}
use Rattle.hw_agree.specs.Converge.{part, is_torn}
use Rattle.hw_meeting.specs.Frames.{are_validators}
use Rattle.hw_meeting.proofs.TornLaws.{one_number, passing_are_validators}
use Rattle.hw_meeting.proofs.torn.torn_for.Goals as goal

pub loop-validator-preserved : goal.loop-validator-preserved
loop-validator-preserved c =
    let n = c.loop-validator.validator in
    let units = graph c.dag-dag.result.now in
    let is : c.is_torn-is_torn.result ≡ is_torn units (part c.args.mine.now n) (part c.args.theirs.now n) =
    c.is_torn-is_torn.ensures ∙ ap (λ (a : LaneSummary). is_torn units a c.part-in-loop-validator.result) c.part.ensures ∙ ap (λ (b : LaneSummary). is_torn units (part c.args.mine.now n) b) c.part-in-loop-validator.ensures in
    rw c.in_ok-put_if.ensures (one_number (λ v. is_torn units (part c.args.mine.now v) (part c.args.theirs.now v)) c.is_torn-is_torn.result n c.loop-validator.torn is c.loop-validator.invariant)

pub returns-clause-said : goal.returns-clause-said
returns-clause-said c =
    let n = c.loop-validator.validator in
    let units = graph c.dag-dag.result.now in
    let size : c.dag-dag.result.now.validators ≡ length c.args.core.now.config.weights = ap (λ (d : UnitGraph). d.validators) c.dag-dag.ensures.dag ∙ sym c.dag-dag.ensures.weights.length_is ∙ ap (λ (k : Config). length k.weights) c.state.ensures.config in
    let end : c.validators-validator-end.result ≡ c.dag-dag.result.now.validators = c.validators-validator-end.ensures.validators in
    let all : n ≡ length c.args.core.now.config.weights = omega (arith, size, end, c.loop-validator-test.false, c.loop-validator.auto.validator-end) in
    let passing = passing_are_validators (λ v. is_torn units (part c.args.mine.now v) (part c.args.theirs.now v)) n in
    subst (λ (k : ℕ). are_validators k c.loop-validator.torn ≡ true) all (subst (λ (vs : List ℕ). are_validators n vs ≡ true) (sym c.loop-validator.invariant) passing)
