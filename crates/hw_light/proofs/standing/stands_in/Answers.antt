use Rattle.std.proofs.Common.{◌≡◌, ◌<◌, refl, subst}
use Rattle.hw_dag.specs.Dag.{UnitGraph, count_of, unit_at}
use Rattle.hw_dag.specs.Admission.{IsNew}
use Rattle.hw_light.specs.Standing.{IsStateOf}
use Rattle.hw_light.proofs.StandingLaws.{level_is_standing, unknown_stands_not}
use Rattle.hw_light.proofs.standing.stands_in.Goals as goal

pub returns-in-Some : goal.returns-in-Some
returns-in-Some c =
    let core = c.args.core.now in
    let state = c.state-state.result.now in
    let of : IsStateOf core state = record { config = c.state-state.ensures.config; graph_is = c.dag.ensures.graph; settled = c.state-state.ensures.settled; order = c.state-state.ensures.order; panorama = c.state-state.ensures.panorama } in
    let found = subst (λ (d : UnitGraph). (c.in-Some.number.0 < count_of d) × ((unit_at d c.in-Some.number.0).digest ≡ c.args.block.now)) c.dag.ensures.dag c.in-Some.ensures.found in
    let standing = level_is_standing core state of c.args.block.now c.in-Some.number.0 found.0 found.1 in
    (λ yes. standing.0 (c.has_level.ensures.0 yes), λ stands. c.has_level.ensures.1 (standing.1 stands))

pub returns-in-None : goal.returns-in-None
returns-in-None c =
    let core = c.args.core.now in
    let state = c.state-state.result.now in
    let of : IsStateOf core state = record { config = c.state-state.ensures.config; graph_is = c.dag.ensures.graph; settled = c.state-state.ensures.settled; order = c.state-state.ensures.order; panorama = c.state-state.ensures.panorama } in
    let new = subst (λ (d : UnitGraph). IsNew d c.args.block.now) c.dag.ensures.dag (c.in-None.ensures.none.0 refl) in
    (λ yes. absurd cc, λ stands. absurd (unknown_stands_not core state of c.args.block.now new stands))
