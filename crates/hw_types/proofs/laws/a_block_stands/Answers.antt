use Rattle.hw_types.proofs.SomeBlock.{a_block_stands}
use Rattle.hw_types.proofs.laws.a_block_stands.Goals as goal

pub returns : goal.returns
returns c = a_block_stands
