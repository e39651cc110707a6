use Rattle.std.proofs.Common.{ap, subst, ◌∙◌}
use Rattle.hw_types.specs.Real.{CoreState, panorama_in}
use Rattle.hw_core.specs.Deliver.{HasCome}
use Rattle.hw_core.specs.Order.{order_in}
use Rattle.hw_core.proofs.PromiseLaws.{come_sound}
use Rattle.hw_core.proofs.ReaderLaws.{panorama_is}
use Rattle.hw_core.proofs.kept.CoreInner.state.Goals as goal

pub returns-clause-panorama : goal.returns-clause-panorama
returns-clause-panorama c =
    let core = c.self.inside in
    c.panorama-panorama.ensures.observed
    ∙ panorama_is core.instance core.journal.items core.names.entries core.park core.dropped.entries core.dropped.room core.state core.fork core.decided core.shown c.self.invariant
    ∙ ap (λ (k : CoreState). panorama_in k) c.self.view_is

pub returns-clause-order : goal.returns-clause-order
returns-clause-order c = c.self.invariant.node.is_of.in_order ∙ ap (λ (k : CoreState). order_in k) c.self.view_is

pub returns-clause-reached : goal.returns-clause-reached
returns-clause-reached c = subst (λ (k : CoreState). HasCome k.config k.journal) c.self.view_is c.self.invariant.node.come

pub returns-clause-sound : goal.returns-clause-sound
returns-clause-sound c = come_sound c.args.self.now (subst (λ (k : CoreState). HasCome k.config k.journal) c.self.view_is c.self.invariant.node.come)
