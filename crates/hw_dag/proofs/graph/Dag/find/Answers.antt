use Rattle.std.proofs.Common.{Option, refl, sym, ap, subst}
use Rattle.std.specs.Prelude.{is_some}
use Rattle.hw_dag.specs.declared.numbers.UnitNo.{UnitNo}
use Rattle.hw_types.proofs.Equal.{digest_eq_exact}
use Rattle.hw_dag.specs.Dag.{UnitGraph}
use Rattle.hw_dag.specs.Tables.{IsKept}
use Rattle.hw_dag.proofs.KeptLaws.{none_named, one_named}
use Rattle.hw_dag.proofs.graph.Dag.find.Goals as goal

pub returns-in_err-place-clause-none : goal.returns-in_err-place-clause-none
returns-in_err-place-clause-none c =
    let kept = subst (λ (d : UnitGraph). IsKept d c.self.inside.names.names c.self.inside.lanes.backs c.self.inside.chains.backs) c.self.view_is c.self.invariant.0 in
    ((λ none. none_named c.args.self.now _ _ _ kept _ c.args.digest.now (sym c.in_err-place.ensures.found) ((digest_eq_exact c.args.digest.now c.args.digest.now).1 refl)), (λ fresh. ap (λ (o : Option UnitNo). is_some o) c.from_residual.ensures))

pub returns-clause-found : goal.returns-clause-found
returns-clause-found c =
    let kept = subst (λ (d : UnitGraph). IsKept d c.self.inside.names.names c.self.inside.lanes.backs c.self.inside.chains.backs) c.self.view_is c.self.invariant.0 in
    one_named c.args.self.now _ _ _ kept _ c.args.digest.now c.in_ok-place.place (λ e t. (digest_eq_exact c.args.digest.now e).0 t) (sym c.in_ok-place.ensures.place)

pub returns-clause-none : goal.returns-clause-none
returns-clause-none c =
    let kept = subst (λ (d : UnitGraph). IsKept d c.self.inside.names.names c.self.inside.lanes.backs c.self.inside.chains.backs) c.self.view_is c.self.invariant.0 in
    let f = one_named c.args.self.now _ _ _ kept _ c.args.digest.now c.in_ok-place.place (λ e t. (digest_eq_exact c.args.digest.now e).0 t) (sym c.in_ok-place.ensures.place) in
    ((λ no. absurd cc), (λ fresh. absurd (fresh c.in_ok-place.place f.0 f.1)))
