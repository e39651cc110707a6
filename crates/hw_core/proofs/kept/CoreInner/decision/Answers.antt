use Rattle.std.proofs.Common.{◌<◌, List, length, sym, ap, subst, ◌∙◌}
use Rattle.std.specs.Prelude.{slice_get}
use Rattle.hw_types.specs.declared.answers.Decision.{Decision}
use Rattle.hw_types.specs.Real.{CoreState}
use Rattle.hw_core.specs.Decided.{decided_in}
use Rattle.hw_core.proofs.ReaderLaws.{decisions_is}
use Rattle.hw_core.proofs.kept.CoreInner.decision.Goals as goal

pub get-requires : goal.get-requires
get-requires c =
    let core = c.self.inside in
    subst (λ (ds : List Decision). c.args.index < length ds) (sym (decisions_is core.instance core.journal.items core.names.entries core.park core.dropped.entries core.dropped.room core.state core.fork core.decided core.shown c.self.invariant)) (subst (λ (k : CoreState). c.args.index < length (decided_in k)) (sym c.self.view_is) c.requires)

pub returns : goal.returns
returns c =
    let core = c.self.inside in
    c.get.ensures ∙ ap (λ (ds : List Decision). slice_get ds c.args.index) (decisions_is core.instance core.journal.items core.names.entries core.park core.dropped.entries core.dropped.room core.state core.fork core.decided core.shown c.self.invariant) ∙ ap (λ (k : CoreState). slice_get (decided_in k) c.args.index) c.self.view_is
