use Rattle.std.proofs.Common.{◌≡◌, Some, None, sym, ap, ◌∙◌}
use Rattle.hw_types.specs.Spelling.{digest_of}
use Rattle.hw_core.specs.Readers.{unit_in}
use Rattle.hw_client.proofs.OwnUnitLaws.{some_decides, none_decides}
use Rattle.hw_client.proofs.own_units.has_unit.Goals as goal

pub returns-in-Some : goal.returns-in-Some
returns-in-Some c =
    let core = c.args.core.now in
    let is : unit_in core (digest_of c.args.unit.now) ≡ Some c.in-Some.known.now = ap (unit_in core) (sym c.in_ok-name.ensures) ∙ sym c.in-Some.ensures.unit in
    some_decides core c.state-state.ensures.reached c.args.unit.now c.in-Some.known.now c.is_same_unit.result is c.is_same_unit.ensures.same

pub returns-in-None : goal.returns-in-None
returns-in-None c =
    let core = c.args.core.now in
    let is : unit_in core (digest_of c.args.unit.now) ≡ None = ap (unit_in core) (sym c.in_ok-name.ensures) ∙ sym c.in-None.ensures.unit in
    none_decides core c.state-state.ensures.reached c.args.unit.now is
