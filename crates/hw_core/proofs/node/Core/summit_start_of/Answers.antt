use Rattle.std.proofs.Common.{ℕ, IfNone, subst, ◌∙◌}
use Rattle.hw_types.specs.Real.{CoreState}
use Rattle.hw_core.specs.Shown.{IsStartOf}
use Rattle.hw_core.proofs.node.Core.summit_start_of.Goals as goal

pub returns-clause-none : goal.returns-clause-none
returns-clause-none c =
    subst (λ (k : CoreState). IfNone c.summit_start_of.result ((start : ℕ) → IsStartOf k c.args.index c.args.level c.args.validator start → ⊥)) (c.deref_mut.ensures.value ∙ c.self.view_is) c.summit_start_of.ensures.none
