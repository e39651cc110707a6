use Rattle.std.proofs.Common.{List, length, ap, ◌∙◌}
use Rattle.hw_types.specs.declared.answers.Decision.{Decision}
use Rattle.hw_types.specs.Real.{CoreState}
use Rattle.hw_core.specs.Decided.{decided_in}
use Rattle.hw_core.proofs.ReaderLaws.{decisions_is}
use Rattle.hw_core.proofs.kept.CoreInner.decision_count.Goals as goal

pub returns : goal.returns
returns c =
    let core = c.self.inside in
    c.count.ensures ∙ ap (λ (ds : List Decision). length ds) (decisions_is core.instance core.journal.items core.names.entries core.park core.dropped.entries core.dropped.room core.state core.fork core.decided core.shown c.self.invariant) ∙ ap (λ (k : CoreState). length (decided_in k)) c.self.view_is
