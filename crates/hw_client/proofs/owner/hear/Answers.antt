use Rattle.hw_types.specs.Real.{CoreState, setting_of, after_in}
use Rattle.hw_honest.specs.OneLine.{OneLine, BringsNoNew}
use Rattle.hw_client.proofs.DecidedLaws.{either_way}
use Rattle.hw_client.proofs.OwnerLaws.{heard_keeps}
use Rattle.hw_client.proofs.owner.hear.Goals as goal

pub returns-in-Ok-true-clause-line : goal.returns-in-Ok-true-clause-line
returns-in-Ok-true-clause-line c =
    let core = c.args.core.now in
    let P : CoreState → Type 0 = λ k. OneLine (setting_of k.config) k.journal c.args.me in
    let fair : BringsNoNew (setting_of core.config) core.journal c.args.me c.args.vertex = c.in-Ok-true.ensures.0 c.in-Ok-true.field-0-test in
    either_way P c.deliver.result core (after_in core c.args.vertex c.args.verdict) c.deliver.new.self c.deliver.ensures.journal c.deliver.ensures.unchanged c.requires.line
    (heard_keeps c.delivery_keeps_one_line.ensures.one core c.args.me c.args.vertex c.args.verdict c.state-state.ensures.reached c.requires.line fair)
