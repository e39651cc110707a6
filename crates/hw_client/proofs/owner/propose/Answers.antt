use Rattle.std.proofs.Common.{◌≡◌, true, Some, sym, ◌∙◌}
use Rattle.hw_types.specs.declared.unit.SignedUnit.{SignedUnit}
use Rattle.hw_types.specs.declared.unit.Vertex.TheVariants as vertex
use Rattle.hw_types.specs.Real.{CoreState, setting_of, received_in, after_in}
use Rattle.hw_types.specs.Step.{step}
use Rattle.hw_honest.specs.OneLine.{OneLine}
use Rattle.hw_validator.specs.Laws.{IsStateOf}
use Rattle.hw_client.proofs.DecidedLaws.{either_way}
use Rattle.hw_client.proofs.OwnerLaws.{planned_keeps}
use Rattle.hw_client.proofs.owner.propose.Goals as goal

pub returns-else-not-fits-clause-line : goal.returns-else-not-fits-clause-line
returns-else-not-fits-clause-line c =
    let core = c.args.core.now in
    let p = c.in-Ok-Some.plan in
    let P : CoreState → Type 0 = λ k. OneLine (setting_of k.config) k.journal c.args.me in
    let of : IsStateOf core c.state.result.now = record { config = c.state.ensures.config; settled = c.state.ensures.settled; panorama = c.state.ensures.panorama; endorsements = c.state.ensures.endorsements } in
    let is : step (setting_of core.config) (received_in core) c.args.me c.args.now c.args.value.now ≡ Some p = sym (c.steps_are_of_journals.ensures core c.state.result.now c.args.me c.args.now c.args.value.now of) ∙ sym c.in-Ok-Some.ensures.step ∙ c.in-Ok-Some.field-0-is in
    let u : SignedUnit = record { unit = p.unit; signature = c.args.signature } in
    let v = vertex.Unit u in
    either_way P c.deliver.result core (after_in core v true) c.deliver.new.self c.deliver.ensures.journal c.deliver.ensures.unchanged c.requires.line
    (planned_keeps c.step_keeps_one_line.ensures.kept core c.args.me c.args.now c.args.value.now p c.args.signature c.state.ensures.reached c.state.ensures.lawful c.requires.me c.requires.line is)
