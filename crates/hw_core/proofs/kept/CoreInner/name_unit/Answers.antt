use Rattle.hw_core.proofs.UnitLaws.{unit_memory}
use Rattle.hw_core.proofs.kept.CoreInner.name_unit.Goals as goal

pub returns-in-Err-clause-refused : goal.returns-in-Err-clause-refused
returns-in-Err-clause-refused c = unit_memory c.args.self.now.config c.args.self.now.journal c.args.unit.now c.in_ok-test_local.ensures.local
