use Rattle.std.proofs.lemmas.List.Elements.{recursion_from_All}
use Rattle.hw_log.specs.Spelled.{EntryFits}
use Rattle.hw_log.proofs.SpelledLaws.{spelled_said}
use Rattle.hw_log.proofs.laws.what_is_written_is_said.Goals as goal

pub returns : goal.returns
returns c = λ version config entries there range fits limits each. spelled_said version config entries there range fits limits (recursion_from_All EntryFits entries each)
