use Rattle.hw_core.specs.Readers.{endorsements_of}
use Rattle.hw_needs.proofs.ListLaws.{one_more, all_there, endorsements_fit}
use Rattle.hw_needs.proofs.vertices.endorsements.Goals as goal

pub loop-place-preserved : goal.loop-place-preserved
loop-place-preserved c =
    one_more (endorsements_of c.args.core.now c.args.unit.now) c.loop-place.place c.in-Some.endorsement.now c.loop-place.vertices c.push.new.self c.in-Some.ensures c.loop-place.invariant c.in_ok-push-in-Some.ensures.ok

pub returns-in-None-clause-vertices : goal.returns-in-None-clause-vertices
returns-in-None-clause-vertices c = all_there (endorsements_of c.args.core.now c.args.unit.now) c.loop-place.place c.loop-place.vertices c.in-None.ensures c.loop-place.invariant

pub returns-in-None-clause-fit : goal.returns-in-None-clause-fit
returns-in-None-clause-fit c =
    endorsements_fit (endorsements_of c.args.core.now c.args.unit.now) c.loop-place.vertices
    (all_there (endorsements_of c.args.core.now c.args.unit.now) c.loop-place.place c.loop-place.vertices c.in-None.ensures c.loop-place.invariant)
