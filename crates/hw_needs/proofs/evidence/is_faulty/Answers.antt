use Rattle.std.specs.Prelude.{◌||◌}
use Rattle.std.proofs.Common.{◌≡◌, Bool, List, length, sym, ap, ◌∙◌, arith}
use Rattle.hw_types.specs.declared.config.Config.{Config}
use Rattle.hw_types.specs.Graph.{Node}
use Rattle.hw_types.specs.Settled.{has_evidence, equivocates}
use Rattle.hw_types.specs.Real.{received_in}
use Rattle.hw_dag.specs.Dag.{graph}
use Rattle.hw_needs.proofs.NeedLaws.{stranger}
use Rattle.hw_needs.proofs.evidence.is_faulty.Goals as goal

pub returns-then-validator-len : goal.returns-then-validator-len
returns-then-validator-len c =
    let many : length c.config.result.now.weights ≡ length c.args.core.now.config.weights = ap (λ (g : Config). length g.weights) (c.config.ensures.config ∙ c.state-state.ensures.config) in
    sym (stranger c.args.core.now c.args.validator (omega arith))

pub returns : goal.returns
returns c =
    c.is_faulty.ensures
    ∙ ap (λ (marked : Bool). marked || equivocates (graph c.state-state.result.now.dag) c.args.validator) (c.state-state.ensures.evidence c.args.validator)
    ∙ ap (λ (units : List Node). has_evidence (received_in c.args.core.now).with_evidence c.args.validator || equivocates units c.args.validator) c.state-state.ensures.settled
