use Rattle.std.proofs.Common.{◌≡◌, true, false, [], length, sym, subst, ◌∙◌}
use Rattle.std.specs.Prelude.{◌↔◌, IsTrue}
use Rattle.hw_types.specs.declared.unit.SignedUnit.{SignedUnit}
use Rattle.hw_types.specs.Settled.{missing_of}
use Rattle.hw_dag.specs.Dag.{UnitGraph, graph}
use Rattle.hw_dag.specs.Admission.{AllKnown, node_prepared}
use Rattle.hw_core.specs.Settle.{known_in}
use Rattle.hw_core.proofs.NeedLaws.{cited_met}
use Rattle.hw_core.proofs.unmet.is_whole.Goals as goal

pub is_met_beside-requires-clause-many : goal.is_met_beside-requires-clause-many
is_met_beside-requires-clause-many c = subst (λ (u : SignedUnit). length u.unit.panorama ≡ length c.args.state.now.config.weights) (sym (c.signed.ensures ∙ c.resolve.ensures.signed)) c.requires

pub is_met_beside-requires-clause-known : goal.is_met_beside-requires-clause-known
is_met_beside-requires-clause-known c =
    let known = c.resolve.ensures.all.0 c.if-resolve.true in
    let here = subst (λ (g : UnitGraph). AllKnown (graph g) c.args.prepared.now.signed.unit.panorama) c.dag.ensures.dag known in
    subst (λ (u : SignedUnit). AllKnown (graph c.args.state.now.dag) u.unit.panorama) (sym (c.signed.ensures ∙ c.resolve.ensures.signed)) here

pub returns-then-resolve-clause-whole : goal.returns-then-resolve-clause-whole
returns-then-resolve-clause-whole c =
    let s = c.args.state.now in
    let p = c.resolve.new.prepared in
    subst (λ (u : SignedUnit). IsTrue c.is_met_beside.result ↔ missing_of s.config (known_in s) (graph s.dag) (record { digest = p.digest; unit = u.unit }) ≡ []) c.signed.ensures (c.is_met_beside.ensures p.digest)

pub returns-else-resolve-clause-whole : goal.returns-else-resolve-clause-whole
returns-else-resolve-clause-whole c =
    let s = c.args.state.now in
    let p = c.resolve.new.prepared in (
      λ t. absurd (let f : false ≡ true = sym c.if-resolve.false ∙ t in cc),
      λ none. (let cited = cited_met s.config (known_in s) (graph s.dag) (node_prepared p) none in
          let known = subst (λ (u : SignedUnit). AllKnown (graph s.dag) u.unit.panorama) c.resolve.ensures.signed cited in
          let there = subst (λ (g : UnitGraph). AllKnown (graph g) c.args.prepared.now.signed.unit.panorama) (sym c.dag.ensures.dag) known in
          absurd (let both : false ≡ true = sym c.if-resolve.false ∙ c.resolve.ensures.all.1 there in cc)),
    )
