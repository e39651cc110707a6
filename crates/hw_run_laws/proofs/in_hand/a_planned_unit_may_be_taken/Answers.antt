use Rattle.hw_run_laws.proofs.InHandLaws.{next_is, next_taken}
use Rattle.hw_run_laws.proofs.in_hand.a_planned_unit_may_be_taken.Goals as goal

pub returns-clause-planned : goal.returns-clause-planned
returns-clause-planned c = next_is c.args.core.now c.state.result.now c.args.me c.args.now c.args.value.now c.next_unit.result (record { config = c.state.ensures.config; settled = c.state.ensures.settled; panorama = c.state.ensures.panorama; endorsements = c.state.ensures.endorsements }) c.next_unit.ensures.step

pub returns-clause-taken : goal.returns-clause-taken
returns-clause-taken c = next_taken c.args.core.now c.state.result.now c.args.me c.args.now c.args.value.now c.next_unit.result c.state.ensures.reached c.state.ensures.lawful (record { config = c.state.ensures.config; settled = c.state.ensures.settled; panorama = c.state.ensures.panorama; endorsements = c.state.ensures.endorsements }) c.requires.me c.next_unit.ensures.step
