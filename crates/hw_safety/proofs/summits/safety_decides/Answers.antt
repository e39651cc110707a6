use Rattle.hw_safety.proofs.DecidedLaws.{decisions_are}
use Rattle.hw_safety.proofs.HeightLaws.{one_block_each}
use Rattle.hw_safety.proofs.summits.safety_decides.Goals as goal

pub returns : goal.returns
returns c = λ s journal. decisions_are s journal (one_block_each s journal)
