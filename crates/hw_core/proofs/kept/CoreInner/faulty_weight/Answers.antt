use Rattle.std.proofs.Common.{ap, ◌∙◌}
use Rattle.hw_types.specs.Real.{CoreState, weight_in}
use Rattle.hw_core.proofs.KeptLaws.{weight_is}
use Rattle.hw_core.proofs.kept.CoreInner.faulty_weight.Goals as goal

pub returns : goal.returns
returns c =
    c.faulty_weight.ensures
    ∙ weight_is c.self.inside.instance c.self.inside.journal.items c.self.inside.names.entries c.self.inside.park c.self.inside.dropped.entries c.self.inside.dropped.room c.self.inside.state c.self.inside.fork c.self.inside.decided c.self.inside.shown c.self.invariant
    ∙ ap (λ (k : CoreState). weight_in k) c.self.view_is
