use Rattle.std.proofs.Common.{length, ap, ◌∙◌, arith}
use Rattle.hw_types.specs.Settled.{dropped_of}
use Rattle.hw_types.specs.Real.{CoreState, received_in, setting_of}
use Rattle.hw_core.proofs.DroppedLaws.{rules_length}
use Rattle.hw_core.proofs.ReaderLaws.{dropped_few}
use Rattle.hw_core.proofs.UnitBoundLaws.{journal_few}
use Rattle.hw_core.proofs.kept.CoreInner.dropped_count.Goals as goal

pub overflow_cast-result : goal.overflow_cast-result
overflow_cast-result c =
    let core = c.self.inside in
    let many = rules_length (setting_of core.state.config) core.journal.items core.dropped.entries c.self.invariant.rules_are c.len.ensures.distinct in
    let few = dropped_few core.instance core.journal.items core.names.entries core.park core.dropped.entries core.dropped.room core.state core.fork core.decided core.shown c.self.invariant in
    let most = journal_few core.journal.items core.park core.state c.self.invariant.node c.config-config.ensures.lawful in
    let len = c.len.ensures.len in
    omega arith

pub returns : goal.returns
returns c =
    let core = c.self.inside in
    c.len.ensures.len ∙ rules_length (setting_of core.state.config) core.journal.items core.dropped.entries c.self.invariant.rules_are c.len.ensures.distinct
    ∙ ap (λ (k : CoreState). length (dropped_of k.config (received_in k))) c.self.view_is
