use Rattle.hw_types.specs.Real.{CoreState, after_in}
use Rattle.hw_core.specs.Decided.{decided_in}
use Rattle.hw_safety.specs.Chain.{Begins}
use Rattle.hw_client.proofs.DecidedLaws.{either_way, goes_on, stays}
use Rattle.hw_client.proofs.decided.follow.Goals as goal

pub returns : goal.returns
returns c =
    let P : CoreState → Type 0 = λ k. Begins (decided_in c.args.core.now) (decided_in k) in
    either_way P c.deliver.result c.args.core.now (after_in c.args.core.now c.args.vertex c.args.verdict) c.deliver.new.self c.deliver.ensures.journal c.deliver.ensures.unchanged
    (stays c.args.core.now) (goes_on c.a_detector_decides.ensures.grow c.safety_decides.ensures c.args.core.now c.args.vertex c.args.verdict)
