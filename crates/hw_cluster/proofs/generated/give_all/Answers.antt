use Rattle.std.proofs.Common.{◌∷◌, [], List, inl, inr, refl, ap, sym, subst, ◌∙◌}
use Rattle.std.specs.Prelude.{true}
use Rattle.std.proofs.lemmas.List.Sums.{fold-append}
use Rattle.hw_types.specs.declared.unit.Vertex.{Vertex}
use Rattle.hw_types.specs.Below.{Among}
use Rattle.hw_types.specs.Real.{CoreState, after_in}
use Rattle.hw_cluster.specs.Nodes.{AllFit}
use Rattle.hw_cluster.proofs.generated.give_all.Goals as goal

pub loop-unit-init : goal.loop-unit-init
loop-unit-init c = (refl, subst AllFit (sym c.into_iter-unit-iterator.ensures.into_iter_gives.0) c.requires)

pub give-requires : goal.give-requires
give-requires c = c.loop-unit.invariant.1 c.in-Some.unit (subst (λ (vs : List Vertex). Among c.in-Some.unit vs) (sym c.in-Some.ensures.steps.0) (inl refl))

pub loop-unit-preserved : goal.loop-unit-preserved
loop-unit-preserved c = (
  c.in_ok-give.ensures.taken ∙ ap (λ (k : CoreState). after_in k c.in-Some.unit true) c.loop-unit.invariant.0 ∙ sym (fold-append (λ (k : CoreState) v. after_in k v true) c.args.core.now c.loop-unit.yielded (c.in-Some.unit ∷ [])),
  λ v m. c.loop-unit.invariant.1 v (subst (λ (vs : List Vertex). Among v vs) (sym c.in-Some.ensures.steps.0) (inr m)),
)
