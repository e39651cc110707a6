use Rattle.std.specs.Prelude.{◌↔◌, IsTrue}
use Rattle.hw_types.specs.Below.{Among}
use Rattle.hw_types.specs.Journal.{named}
use Rattle.hw_types.specs.Real.{setting_of, received_in}
use Rattle.hw_client.proofs.OwnUnitLaws.{IsOld, own_decides, if_ok}
use Rattle.hw_client.proofs.own_units.is_no_new.Goals as goal

pub returns-then-signed-me : goal.returns-then-signed-me
returns-then-signed-me c =
    let core = c.args.core.now in
    let s = setting_of core.config in
    let u = c.args.signed.now in
    if_ok (λ b. IsTrue b ↔ Among (named s u.unit) (received_in core).units) (λ b. IsTrue b ↔ IsOld s core.journal c.args.me u) c.has_unit.result
    (λ b has. own_decides s core.journal c.args.me u b c.if-signed-me.true has) c.has_unit.ensures
