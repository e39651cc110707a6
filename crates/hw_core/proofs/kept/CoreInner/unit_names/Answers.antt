use Rattle.std.proofs.Common.{ap, ◌∙◌}
use Rattle.hw_types.specs.Real.{CoreState}
use Rattle.hw_core.specs.Readers.{names_of}
use Rattle.hw_core.proofs.kept.CoreInner.unit_names.Goals as goal

pub returns : goal.returns
returns c = c.names.ensures ∙ c.self.invariant.table.ordered ∙ ap (λ (k : CoreState). names_of k.journal) c.self.view_is
