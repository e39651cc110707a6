use Rattle.std.proofs.Common.{arith}
use Rattle.hw_session.proofs.StartLaws.{few}
use Rattle.hw_service.proofs.begin.read_keys.Goals as goal

pub overflow_cast-len : goal.overflow_cast-len
overflow_cast-len g c = let most = few c.args.config.now c.requires.lawful in omega (arith, c.len.ensures)
