use Rattle.std.proofs.Common.{sym, ◌∙◌}
use Rattle.hw_audit.proofs.TwinLaws.{ok_so}
use Rattle.hw_audit.proofs.AnswerLaws.{clash_verdict, agree_verdict, conflict_verdict}
use Rattle.hw_audit.proofs.verdict.verdict.Goals as goal

pub returns-in-Some : goal.returns-in-Some
returns-in-Some c =
    ok_so c.verdict.result c.verdict.ensures (λ v is config left right dl dr read.
    clash_verdict config left right dl dr c.args.weights.now c.args.units.now c.args.middle c.args.left_chain.now c.args.right_chain.now read c.split_at.result.0.now c.split_at.result.1.now c.split_at.ensures.front c.split_at.ensures.back
    c.in-Some.clash v (sym c.in-Some.is ∙ c.in_ok-clash.ensures) is)

pub returns-in-Some-first_parting : goal.returns-in-Some-first_parting
returns-in-Some-first_parting c =
    ok_so c.conflict.result c.conflict.ensures (λ v told config left right dl dr read.
    conflict_verdict config left right dl dr c.args.weights.now c.args.units.now c.args.middle c.args.left_chain.now c.args.right_chain.now read c.split_at.result.0.now c.split_at.result.1.now c.split_at.ensures.front c.split_at.ensures.back
    (sym c.in_default.is ∙ c.in_ok-clash.ensures) c.in-Some-first_parting.parting (sym c.in-Some-first_parting.is ∙ c.first_parting.ensures) v told)

pub returns-in-None : goal.returns-in-None
returns-in-None c config left right dl dr read =
    agree_verdict config left right dl dr c.args.weights.now c.args.units.now c.args.middle c.args.left_chain.now c.args.right_chain.now read c.split_at.result.0.now c.split_at.result.1.now c.split_at.ensures.front c.split_at.ensures.back
    (sym c.in_default.is ∙ c.in_ok-clash.ensures) (sym c.in-None.is ∙ c.first_parting.ensures) c.min.result c.min.ensures
