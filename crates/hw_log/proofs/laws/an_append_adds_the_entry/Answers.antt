use Rattle.hw_log.proofs.AppendLaws.{append_adds}
use Rattle.hw_log.proofs.laws.an_append_adds_the_entry.Goals as goal

pub returns : goal.returns
returns c = append_adds
