use Rattle.std.proofs.Common.{refl, subst, arith}
use Rattle.hw_dag.specs.Dag.{UnitGraph}
use Rattle.hw_dag.specs.Admission.{IsNew}
use Rattle.hw_horizon.specs.Search.{committees_of}
use Rattle.hw_light.proofs.CertifyLaws.{decided_record}
use Rattle.hw_light.proofs.SummitLaws.{block_known, found_exact, found_greatest}
use Rattle.hw_light.proofs.summit.find_summit.Goals as goal

pub greatest-requires-clause-level : goal.greatest-requires-clause-level
greatest-requires-clause-level c =
    let high = (decided_record c.args.core.now c.args.index c.args.decision.now c.requires.at).stood.stands.high in
    let levels = c.requires.fresh.levels in
    omega arith

pub greatest-requires-clause-walks : goal.greatest-requires-clause-walks
greatest-requires-clause-walks c = c.requires.fresh.walks c.dag-dag.result.now

pub returns-in-Some-clause-exact : goal.returns-in-Some-clause-exact
returns-in-Some-clause-exact c =
    found_exact c.args.core.now c.args.state.now c.requires.of c.args.index c.args.decision.now c.requires.at
    c.config.result.now c.dag-dag.result.now c.panorama-panorama.result.now c.config.ensures.config c.dag-dag.ensures.dag c.panorama-panorama.ensures.panorama
    c.in-Some.block.0 c.in-Some.ensures.found.0 c.in-Some.ensures.found.1 c.greatest.result c.greatest.ensures.exact

pub returns-in-Some-clause-greatest : goal.returns-in-Some-clause-greatest
returns-in-Some-clause-greatest c =
    found_greatest c.args.core.now c.args.state.now c.requires.of c.args.index c.args.decision.now c.requires.at
    c.config.result.now c.dag-dag.result.now c.panorama-panorama.result.now c.config.ensures.config c.dag-dag.ensures.dag c.panorama-panorama.ensures.panorama
    c.in-Some.block.0 c.in-Some.ensures.found.0 c.in-Some.ensures.found.1 c.greatest.result (committees_of c.greatest.new.self) c.greatest.ensures.kept

pub returns-in-None-clause-exact : goal.returns-in-None-clause-exact
returns-in-None-clause-exact c =
    let new = subst (λ (d : UnitGraph). IsNew d c.args.decision.now.block) c.dag-dag.ensures.dag (c.in-None.ensures.none.0 refl) in
    (λ yes. absurd cc, λ now. absurd (block_known c.args.core.now c.args.state.now c.requires.of c.args.index c.args.decision.now c.requires.at new now))
