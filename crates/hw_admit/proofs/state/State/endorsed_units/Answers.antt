use Rattle.std.proofs.Common.{◌≡◌, ap, ◌∙◌, subst}
use Rattle.hw_endorse.specs.Told.{Told, HaveMajority}
use Rattle.hw_admit.specs.State.{told_in}
use Rattle.hw_admit.proofs.state.State.endorsed_units.Goals as goal

pub returns-clause-majority : goal.returns-clause-majority
returns-clause-majority c =
    let told : c.self.inside.endorsements ≡ told_in c.args.self.now =
    (λ i. record { weights = c.self.invariant.1.weights_are i; pairs = c.self.inside.endorsements.pairs }) ∙ ap told_in c.self.view_is in
    subst (λ (t : Told). HaveMajority t c.endorsed_units.result) told c.endorsed_units.ensures.majority
