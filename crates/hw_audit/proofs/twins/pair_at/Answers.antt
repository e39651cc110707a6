use Rattle.std.proofs.Common.{Option, ap, ◌∙◌}
use Rattle.hw_audit.specs.Twins.{TwinUnits, pair_in}
use Rattle.hw_audit.proofs.twins.pair_at.Goals as goal

pub returns-in-Some : goal.returns-in-Some
returns-in-Some c = c.pair.ensures ∙ ap (λ (o : Option TwinUnits). pair_in o) c.in-Some.ensures.value
