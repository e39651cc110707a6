use Rattle.hw_core.proofs.PromiseLaws.{whole_admitted}
use Rattle.hw_core.proofs.laws.a_whole_unit_is_admitted.Goals as goal

pub returns : goal.returns
returns c = whole_admitted c.args.core.now c.args.unit.now c.state-state.ensures.sound c.requires.fresh c.requires.met c.requires.kept
