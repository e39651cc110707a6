use Rattle.hw_commands.proofs.MigratedLaws.{reads_the_same}
use Rattle.hw_commands.proofs.laws.a_migrated_log_reads_the_same.Goals as goal

pub returns : goal.returns
returns c = reads_the_same
