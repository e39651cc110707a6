use Rattle.std.proofs.Common.{subst}
use Rattle.hw_light.specs.declared.answers.Checked.{Checked}
use Rattle.hw_light.specs.Checked.{IsCertified, IfYes}
use Rattle.hw_light.proofs.AskedLaws.{has_decision}
use Rattle.hw_light.proofs.checked.checked_text.Goals as goal

pub yes_text-requires : goal.yes_text-requires
yes_text-requires c =
    has_decision c.args.certificate.now c.in-Yes.core (subst (λ (checked : Checked). IfYes (IsCertified c.args.certificate.now) checked) c.in-Yes.is c.requires)
