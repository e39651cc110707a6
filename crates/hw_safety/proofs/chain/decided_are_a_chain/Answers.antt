use Rattle.hw_safety.proofs.DecidedChainLaws.{chain}
use Rattle.hw_safety.proofs.DetectorLaws.{fork}
use Rattle.hw_safety.proofs.HeightLaws.{stood_is_kept}
use Rattle.hw_safety.proofs.chain.decided_are_a_chain.Goals as goal

pub returns-clause-chain : goal.returns-clause-chain
returns-clause-chain c = chain

pub returns-clause-fork : goal.returns-clause-fork
returns-clause-fork c = fork

pub returns-clause-standing : goal.returns-clause-standing
returns-clause-standing c = stood_is_kept
