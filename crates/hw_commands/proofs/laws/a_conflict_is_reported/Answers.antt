use Rattle.hw_commands.proofs.ConflictLaws.{conflict_is_reported}
use Rattle.hw_commands.proofs.laws.a_conflict_is_reported.Goals as goal

pub returns : goal.returns
returns c = conflict_is_reported
