use Rattle.std.proofs.Common.{ℕ, IfNone, subst, ◌∙◌}
use Rattle.hw_types.specs.Real.{CoreState}
use Rattle.hw_core.specs.Shown.{IsStartNow}
use Rattle.hw_core.proofs.node.Core.summit_start.Goals as goal

pub returns-clause-none : goal.returns-clause-none
returns-clause-none c =
    subst (λ (k : CoreState). IfNone c.summit_start.result ((start : ℕ) → IsStartNow k c.args.level c.args.validator start → ⊥)) (c.deref.ensures ∙ c.self.view_is) c.summit_start.ensures.none
