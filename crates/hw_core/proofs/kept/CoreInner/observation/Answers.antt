use Rattle.std.proofs.Common.{◌≡◌, List, refl, sym, ap, subst, ◌∙◌}
use Rattle.hw_types.specs.declared.unit.Digest.{Digest}
use Rattle.hw_types.specs.declared.unit.Obs.{Obs}
use Rattle.hw_types.specs.declared.unit.Obs.TheVariants as obs
use Rattle.hw_types.specs.Graph.{slot}
use Rattle.hw_types.specs.Real.{CoreState, panorama_in}
use Rattle.hw_dag.specs.declared.numbers.View.{View}
use Rattle.hw_dag.specs.Dag.{UnitGraph, SettledUnit, graph, unit_at, view_at, obs_of, observations}
use Rattle.hw_dag.proofs.SlotLaws.{slot_of}
use Rattle.hw_admit.specs.State.{observed_in}
use Rattle.hw_core.proofs.ReaderLaws.{panorama_is}
use Rattle.hw_core.proofs.kept.CoreInner.observation.Goals as goal

pub returns-in-Absent : goal.returns-in-Absent
returns-in-Absent c =
    let core = c.self.inside in
    let observed = subst (λ (p : List View). observations core.state.dag p ≡ observed_in core.state.config core.state.marked (graph core.state.dag)) refl c.panorama.ensures.observed in
    refl
    ∙ ap (λ (w : View). obs_of core.state.dag w) (sym (ap (λ (p : List View). view_at p c.args.validator) (sym c.panorama.ensures.panorama) ∙ sym c.get.ensures ∙ c.in-Absent.is))
    ∙ sym (slot_of core.state.dag core.state.panorama c.args.validator)
    ∙ ap (λ (p : List Obs). slot p c.args.validator) (observed ∙ panorama_is core.instance core.journal.items core.names.entries core.park core.dropped.entries core.dropped.room core.state core.fork core.decided core.shown c.self.invariant)
    ∙ ap (λ (k : CoreState). slot (panorama_in k) c.args.validator) c.self.view_is

pub returns-in-Correct : goal.returns-in-Correct
returns-in-Correct c =
    let core = c.self.inside in
    let observed = subst (λ (p : List View). observations core.state.dag p ≡ observed_in core.state.config core.state.marked (graph core.state.dag)) refl c.panorama.ensures.observed in
    let name : c.digest.result.now ≡ (unit_at core.state.dag c.in-Correct.no.0).digest =
    c.digest.ensures ∙ ap (λ (u : SettledUnit). u.digest) c.unit.ensures ∙ ap (λ (d : UnitGraph). (unit_at d c.in-Correct.no.0).digest) c.dag-dag.ensures.dag in
    ap (λ (d : Digest). obs.Correct d) name
    ∙ ap (λ (w : View). obs_of core.state.dag w) (sym (ap (λ (p : List View). view_at p c.args.validator) (sym c.panorama.ensures.panorama) ∙ sym c.get.ensures ∙ c.in-Correct.is))
    ∙ sym (slot_of core.state.dag core.state.panorama c.args.validator)
    ∙ ap (λ (p : List Obs). slot p c.args.validator) (observed ∙ panorama_is core.instance core.journal.items core.names.entries core.park core.dropped.entries core.dropped.room core.state core.fork core.decided core.shown c.self.invariant)
    ∙ ap (λ (k : CoreState). slot (panorama_in k) c.args.validator) c.self.view_is

pub returns-in-Faulty : goal.returns-in-Faulty
returns-in-Faulty c =
    let core = c.self.inside in
    let observed = subst (λ (p : List View). observations core.state.dag p ≡ observed_in core.state.config core.state.marked (graph core.state.dag)) refl c.panorama.ensures.observed in
    refl
    ∙ ap (λ (w : View). obs_of core.state.dag w) (sym (ap (λ (p : List View). view_at p c.args.validator) (sym c.panorama.ensures.panorama) ∙ sym c.get.ensures ∙ c.in-Faulty.is))
    ∙ sym (slot_of core.state.dag core.state.panorama c.args.validator)
    ∙ ap (λ (p : List Obs). slot p c.args.validator) (observed ∙ panorama_is core.instance core.journal.items core.names.entries core.park core.dropped.entries core.dropped.room core.state core.fork core.decided core.shown c.self.invariant)
    ∙ ap (λ (k : CoreState). slot (panorama_in k) c.args.validator) c.self.view_is
