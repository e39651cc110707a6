use Rattle.std.proofs.Common.{rules, ◌-◌, ◌^◌, ◌<◌, ◌≤◌, ℕ, [], ◌∷◌, ◌++◌, Option, sym, ap, subst, ◌∙◌, arith}
use Rattle.std.specs.Prelude.{unwrap_or}
use Rattle.hw_types.proofs.WordsLaws.{or_none}
use Rattle.hw_types.specs.declared.unit.SignedUnit.{SignedUnit}
use Rattle.hw_types.specs.declared.unit.Digest.{Digest}
use Rattle.hw_dag.specs.declared.numbers.UnitNo.{UnitNo}
use Rattle.hw_dag.specs.Dag.{UnitGraph}
use Rattle.hw_dag.specs.Admission.{IsNew, IsGraph, with_unit}
use Rattle.hw_dag.specs.Skips.{IsDepth}
use Rattle.hw_dag.specs.Tables.{IsKept, AreLatest}
use Rattle.hw_dag.proofs.KeepLaws.{lane_known, lane_first, lane_next, lane_small, chain_known, chain_first, chain_next, chain_small, kept_more, kept_as, name_fresh}
use Rattle.hw_dag.proofs.LatestLaws.{last_creator, latest_kept, latest_code, none_more}
use Rattle.hw_dag.proofs.graph.Dag.keep.Goals as goal

pub get-requires : goal.get-requires
get-requires c =
    let latest = subst (λ (d : UnitGraph). AreLatest d c.self.inside.latest) c.self.view_is c.self.invariant.2 in
    last_creator c.args.self.now c.args.unit c.requires.graph c.self.inside.latest latest c.signed.result.now.unit.creator (ap (λ (s : SignedUnit). s.unit.creator) c.signed.ensures)

pub set-requires-clause-within : goal.set-requires-clause-within
set-requires-clause-within c =
    let latest = subst (λ (d : UnitGraph). AreLatest d c.self.inside.latest) c.self.view_is c.self.invariant.2 in
    last_creator c.args.self.now c.args.unit c.requires.graph c.self.inside.latest latest c.signed.result.now.unit.creator (ap (λ (s : SignedUnit). s.unit.creator) c.signed.ensures)

pub set-requires-clause-code : goal.set-requires-clause-code
set-requires-clause-code c =
    let graph = subst (λ (d : UnitGraph). IsGraph (with_unit d c.args.unit)) (sym c.self.view_is) c.requires.graph in
    latest_code _ c.args.unit graph c.get.result c.predecessor-before.result _ c.latest_after-next.result (search rules) c.latest_after-next.ensures

pub push-requires-clause-small : goal.push-requires-clause-small
push-requires-clause-small c =
    let kept = subst (λ (d : UnitGraph). IsKept d c.self.inside.names.names c.self.inside.lanes.backs c.self.inside.chains.backs) c.self.view_is c.self.invariant.0 in
    subst (λ (n : ℕ). n < 2 ^ 32) (sym (ap (λ (s : SignedUnit). s.unit.seq) c.signed-2.ensures)) (lane_small c.args.self.now c.args.unit _ _ _ kept c.requires.graph)

pub push-requires-clause-known : goal.push-requires-clause-known
push-requires-clause-known c = λ p e.
    let kept = subst (λ (d : UnitGraph). IsKept d c.self.inside.names.names c.self.inside.lanes.backs c.self.inside.chains.backs) c.self.view_is c.self.invariant.0 in
    lane_known c.args.self.now c.args.unit _ _ _ kept c.requires.graph p (sym c.predecessor-before.ensures ∙ e)

pub push-requires-clause-first : goal.push-requires-clause-first
push-requires-clause-first c = λ e.
    let kept = subst (λ (d : UnitGraph). IsKept d c.self.inside.names.names c.self.inside.lanes.backs c.self.inside.chains.backs) c.self.view_is c.self.invariant.0 in
    ap (λ (s : SignedUnit). s.unit.seq) c.signed-2.ensures ∙ lane_first c.args.self.now c.args.unit _ _ _ kept c.requires.graph (sym c.predecessor-before.ensures ∙ e)

pub push-requires-clause-next : goal.push-requires-clause-next
push-requires-clause-next c = λ p e.
    let kept = subst (λ (d : UnitGraph). IsKept d c.self.inside.names.names c.self.inside.lanes.backs c.self.inside.chains.backs) c.self.view_is c.self.invariant.0 in
    subst (λ (n : ℕ). (1 ≤ n) × IsDepth c.self.inside.lanes.backs p.0 (n - 1)) (sym (ap (λ (s : SignedUnit). s.unit.seq) c.signed-2.ensures))
    (lane_next c.args.self.now c.args.unit _ _ _ kept c.requires.graph p (sym c.predecessor-before.ensures ∙ e))

pub push-requires-2-clause-small : goal.push-requires-2-clause-small
push-requires-2-clause-small c =
    let kept = subst (λ (d : UnitGraph). IsKept d c.self.inside.names.names c.self.inside.lanes.backs c.self.inside.chains.backs) c.self.view_is c.self.invariant.0 in
    subst (λ (n : ℕ). n < 2 ^ 32) (sym (c.unwrap_or.ensures ∙ ap (λ (o : Option ℕ). unwrap_or o 0) c.height.ensures)) (chain_small c.args.self.now c.args.unit _ _ _ kept c.requires.graph)

pub push-requires-2-clause-known : goal.push-requires-2-clause-known
push-requires-2-clause-known c = λ p e.
    let kept = subst (λ (d : UnitGraph). IsKept d c.self.inside.names.names c.self.inside.lanes.backs c.self.inside.chains.backs) c.self.view_is c.self.invariant.0 in
    chain_known c.args.self.now c.args.unit _ _ _ kept c.requires.graph p (sym c.parent.ensures ∙ e)

pub push-requires-2-clause-first : goal.push-requires-2-clause-first
push-requires-2-clause-first c = λ e.
    let kept = subst (λ (d : UnitGraph). IsKept d c.self.inside.names.names c.self.inside.lanes.backs c.self.inside.chains.backs) c.self.view_is c.self.invariant.0 in
    c.unwrap_or.ensures ∙ ap (λ (o : Option ℕ). unwrap_or o 0) c.height.ensures ∙ chain_first c.args.self.now c.args.unit _ _ _ kept c.requires.graph (sym c.parent.ensures ∙ e)

pub push-requires-2-clause-next : goal.push-requires-2-clause-next
push-requires-2-clause-next c = λ p e.
    let kept = subst (λ (d : UnitGraph). IsKept d c.self.inside.names.names c.self.inside.lanes.backs c.self.inside.chains.backs) c.self.view_is c.self.invariant.0 in
    subst (λ (n : ℕ). (1 ≤ n) × IsDepth c.self.inside.chains.backs p.0 (n - 1)) (sym (c.unwrap_or.ensures ∙ ap (λ (o : Option ℕ). unwrap_or o 0) c.height.ensures))
    (chain_next c.args.self.now c.args.unit _ _ _ kept c.requires.graph p (sym c.parent.ensures ∙ e))

pub push-requires-3-clause-fresh : goal.push-requires-3-clause-fresh
push-requires-3-clause-fresh c =
    let kept = subst (λ (d : UnitGraph). IsKept d c.self.inside.names.names c.self.inside.lanes.backs c.self.inside.chains.backs) c.self.view_is c.self.invariant.0 in
    name_fresh c.args.self.now c.args.unit _ _ _ kept c.requires.graph c.digest.result.now (subst (λ (d : Digest). IsNew c.args.self.now d) (sym c.digest.ensures) c.requires.fresh)

pub invariant_of-self : goal.invariant_of-self
invariant_of-self c =
    let graph = subst (λ (d : UnitGraph). IsGraph (with_unit d c.args.unit)) (sym c.self.view_is) c.requires.graph in
    let more = kept_more _ c.args.unit _ _ _ c.self.invariant.0 graph in
    let units = c.push_reserved.ensures.items in
    let names = c.push-3.ensures.names ∙ ap (λ (d : Digest). c.self.inside.names.names ++ d ∷ []) c.digest.ensures in
    let lanes = c.push.ensures.backs ∙ ap (λ (o : Option UnitNo). c.self.inside.lanes.backs ++ o ∷ []) c.predecessor-before.ensures in
    let chains = c.push-2.ensures.backs ∙ ap (λ (o : Option UnitNo). c.self.inside.chains.backs ++ o ∷ []) c.parent.ensures in
    let i = c.self.invariant.1 in
    let in_units = i.in_units in let in_names = i.in_names in let in_lanes = i.in_lanes in let in_chains = i.in_chains in
    let capacity = c.push_reserved.ensures.capacity in let len = c.push_reserved.ensures.len in
    let a = c.push-3.ensures.room in let b = c.push.ensures.spare in let d = c.push-2.ensures.spare in (
      kept_as c.self.inside.validators (c.self.inside.spare - 1) _ _ _ _ _ _ _ _ more units names lanes chains,
      record { in_units = omega arith; in_names = omega arith; in_lanes = omega arith; in_chains = omega arith },
      latest_kept _ c.self.invariant.0.graph_is c.args.unit graph c.self.inside.latest c.self.invariant.2
          c.signed.result.now.unit.creator c.get.result c.predecessor-before.result _ c.latest_after-next.result c.set.new.self c.push_reserved.new.self.items
          (ap (λ (s : SignedUnit). s.unit.creator) c.signed.ensures) c.get.ensures c.predecessor-before.ensures (search rules) c.latest_after-next.ensures c.set.ensures units,
      (λ e.
          let no = or_none c.self.inside.forked c.is_faulty.result e in
          none_more c.self.inside.latest c.set.new.self c.signed.result.now.unit.creator c.latest_after-next.result
          (last_creator _ c.args.unit graph c.self.inside.latest c.self.invariant.2 c.signed.result.now.unit.creator (ap (λ (s : SignedUnit). s.unit.creator) c.signed.ensures))
          c.set.ensures (c.is_faulty.ensures no.1) (c.self.invariant.3 no.0)),
    )
