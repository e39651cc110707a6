use Rattle.hw_safety.proofs.TakenLaws.{says_all}
use Rattle.hw_safety.proofs.chain.a_taken_journal_says_all.Goals as goal

pub returns : goal.returns
returns c = says_all
