use Rattle.hw_replay.proofs.ChainLaws.{told_length, told_at}
use Rattle.hw_replay.proofs.chain.block_at.Goals as goal

pub decision-decision-requires : goal.decision-decision-requires
decision-decision-requires c = told_length _ _ c.requires

pub returns : goal.returns
returns c = told_at _ _ _ _ _ c.decision-decision.ensures c.state.ensures.settled c.value_of.ensures
