use Rattle.std.proofs.Common.{Option, Some, sym, ap, ◌∙◌}
use Rattle.std.specs.Option.{option_map}
use Rattle.hw_types.specs.Real.{CoreState}
use Rattle.hw_dag.specs.declared.numbers.UnitNo.{UnitNo}
use Rattle.hw_dag.specs.Dag.{UnitGraph, SettledUnit, unit_at}
use Rattle.hw_core.specs.Readers.{fork_in}
use Rattle.hw_core.proofs.ReaderLaws.{fork_is}
use Rattle.hw_core.proofs.kept.CoreInner.fork.Goals as goal

pub returns-in-None : goal.returns-in-None
returns-in-None c =
    let core = c.self.inside in
    ap (λ (o : Option UnitNo). option_map (λ (n : UnitNo). (unit_at core.state.dag n.0).digest) o) (sym c.in-None.is)
    ∙ fork_is core.instance core.journal.items core.names.entries core.park core.dropped.entries core.dropped.room core.state core.fork core.decided core.shown c.self.invariant c.panorama-panorama.ensures.observed ∙ ap (λ (k : CoreState). fork_in k) c.self.view_is

pub returns-in-Some : goal.returns-in-Some
returns-in-Some c =
    let core = c.self.inside in
    ap Some (c.digest.ensures ∙ ap (λ (u : SettledUnit). u.digest) c.unit.ensures ∙ ap (λ (d : UnitGraph). (unit_at d c.in-Some.no.0).digest) c.dag.ensures.dag)
    ∙ ap (λ (o : Option UnitNo). option_map (λ (n : UnitNo). (unit_at core.state.dag n.0).digest) o) (sym c.in-Some.is)
    ∙ fork_is core.instance core.journal.items core.names.entries core.park core.dropped.entries core.dropped.room core.state core.fork core.decided core.shown c.self.invariant c.panorama-panorama.ensures.observed ∙ ap (λ (k : CoreState). fork_in k) c.self.view_is
