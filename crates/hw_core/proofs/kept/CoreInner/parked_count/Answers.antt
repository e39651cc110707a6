use Rattle.std.proofs.Common.{length, ap, ◌∙◌}
use Rattle.hw_types.specs.Settled.{parked_of}
use Rattle.hw_types.specs.Real.{CoreState, received_in}
use Rattle.hw_core.proofs.UnitBoundLaws.{waits_as_parked}
use Rattle.hw_core.proofs.kept.CoreInner.parked_count.Goals as goal

pub returns : goal.returns
returns c =
    let core = c.self.inside in
    c.count.ensures ∙ waits_as_parked core.journal.items core.park core.state c.self.invariant.node ∙ ap (λ (k : CoreState). length (parked_of k.config (received_in k))) c.self.view_is
