use Rattle.hw_validator.proofs.NodeStepLaws.{small_exponent}
use Rattle.hw_validator.proofs.value.value_at.Goals as goal

pub round_id-round-requires : goal.round_id-round-requires
round_id-round-requires c = small_exponent c.args.config.now c.requires.lawful
