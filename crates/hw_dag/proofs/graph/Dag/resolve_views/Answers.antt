use Rattle.std.proofs.Common.{refl, subst, arith}
use Rattle.hw_dag.specs.Admission.{IsGraph}
use Rattle.hw_dag.proofs.ResolveLaws.{all_observes, all_known, never_known}
use Rattle.hw_dag.proofs.graph.Dag.resolve_views.Goals as goal

pub returns-in_default-clause-all : goal.returns-in_default-clause-all
returns-in_default-clause-all c = ((λ t. absurd cc), (λ known. absurd (never_known c.args.self.now c.args.observed.now c.loop-slot.slot _ c.loop-slot-test.true c.in_default.ensures.unknown known)))

pub returns-clause-all : goal.returns-clause-all
returns-clause-all c = ((λ t. all_known c.args.self.now c.args.observed.now c.loop-slot.panorama c.loop-slot.invariant.0 (λ v lt. let past = c.loop-slot-test.false in c.loop-slot.invariant.1 v (omega arith)) (subst IsGraph c.self.view_is c.self.invariant.0.graph_is)), (λ known. refl))

pub returns-clause-observes : goal.returns-clause-observes
returns-clause-observes c = λ t. all_observes c.args.self.now c.args.observed.now c.loop-slot.panorama c.loop-slot.invariant.0 (λ v lt. let past = c.loop-slot-test.false in c.loop-slot.invariant.1 v (omega arith))
