use Rattle.hw_log.proofs.AppendLaws.{header_is_empty}
use Rattle.hw_log.proofs.laws.a_header_is_an_empty_log.Goals as goal

pub returns : goal.returns
returns c = header_is_empty
