use Rattle.std.specs.Prelude.{◌↔◌, IsTrue}
use Rattle.hw_types.specs.Real.{setting_of}
use Rattle.hw_honest.specs.OneLine.{BringsNoNew}
use Rattle.hw_client.proofs.OwnUnitLaws.{IsOld, unit_case, left_case, right_case, if_ok}
use Rattle.hw_client.proofs.own_units.brings_no_new.Goals as goal

pub returns-in-Unit : goal.returns-in-Unit
returns-in-Unit c =
    let s = setting_of c.args.core.now.config in
    let j = c.args.core.now.journal in
    if_ok (λ b. IsTrue b ↔ IsOld s j c.args.me c.in-Unit.signed) (λ b. IsTrue b ↔ BringsNoNew s j c.args.me c.args.vertex.now) c.is_no_new.result
    (λ b old. unit_case s j c.args.me c.args.vertex.now c.in-Unit.signed c.in-Unit.is b old) c.is_no_new.ensures

pub returns-then-not-branch : goal.returns-then-not-branch
returns-then-not-branch c =
    left_case (setting_of c.args.core.now.config) c.args.core.now.journal c.args.me c.args.vertex.now c.in-Evidence.evidence c.in-Evidence.is c.in_ok-is_no_new-in-Evidence.field-0 c.if-not-branch.true c.in_ok-is_no_new-in-Evidence.ensures

pub returns-else-not-branch : goal.returns-else-not-branch
returns-else-not-branch c =
    let s = setting_of c.args.core.now.config in
    let j = c.args.core.now.journal in
    if_ok (λ b. IsTrue b ↔ IsOld s j c.args.me c.in-Evidence.evidence.right) (λ b. IsTrue b ↔ BringsNoNew s j c.args.me c.args.vertex.now) c.is_no_new-in-Evidence-2.result
    (λ b also. right_case s j c.args.me c.args.vertex.now c.in-Evidence.evidence c.in-Evidence.is c.in_ok-is_no_new-in-Evidence.field-0 c.if-not-branch.false c.in_ok-is_no_new-in-Evidence.ensures b also) c.is_no_new-in-Evidence-2.ensures
