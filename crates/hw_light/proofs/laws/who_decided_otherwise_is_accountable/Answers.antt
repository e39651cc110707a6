use Rattle.std.proofs.Common.{subst}
use Rattle.hw_types.specs.declared.config.Config.{Config}
use Rattle.hw_types.specs.Real.{setting_of}
use Rattle.hw_safety.specs.Safety.{HasPairs}
use Rattle.hw_light.proofs.YesLaws.{accountable}
use Rattle.hw_light.proofs.laws.who_decided_otherwise_is_accountable.Goals as goal

pub returns : goal.returns
returns c = λ e v. accountable c.args.certificate.now c.args.yes.now c.args.other.now e v c.requires.certified c.requires.config
    (subst (λ (k : Config). HasPairs (setting_of k) c.args.other.now.journal) c.requires.config c.state-state.ensures.pairs)
