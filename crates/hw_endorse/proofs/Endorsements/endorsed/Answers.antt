use Rattle.std.proofs.Common.{ap, ◌∙◌}
use Rattle.hw_endorse.specs.Told.{Told, has_majority}
use Rattle.hw_endorse.specs.Kept.{pairs_in}
use Rattle.hw_endorse.proofs.KeyLaws.{listed_found}
use Rattle.hw_endorse.proofs.KeptLaws.{majority_is}
use Rattle.hw_endorse.proofs.Endorsements.endorsed.Goals as goal

pub returns : goal.returns
returns c =
    c.contains.ensures
    ∙ listed_found c.self.inside.endorsed.keys c.args.unit.now
    ∙ c.self.invariant.listed c.args.unit.now
    ∙ majority_is c.self.inside.weights c.self.inside.total (pairs_in c.self.inside.tallies.entries) c.self.inside.tallies.entries c.self.inside.endorsed.keys c.args.unit.now c.self.invariant
    ∙ ap (λ (t : Told). has_majority t c.args.unit.now) c.self.view_is
