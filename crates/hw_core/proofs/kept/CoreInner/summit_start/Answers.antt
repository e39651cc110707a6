use Rattle.std.proofs.Common.{List, ℕ, cond, length, refl, ap, subst, ◌∙◌}
use Rattle.std.specs.Prelude.{Option, None, IfSome, IfNone}
use Rattle.hw_types.specs.declared.answers.LastQuestion.{LastQuestion}
use Rattle.hw_types.specs.Real.{CoreState}
use Rattle.hw_horizon.specs.Search.{start_of}
use Rattle.hw_core.specs.Shown.{IsStartNow, is_about}
use Rattle.hw_core.proofs.ShownLaws.{start_some, start_none}
use Rattle.hw_core.proofs.kept.CoreInner.summit_start.Goals as goal

pub returns-clause-start : goal.returns-clause-start
returns-clause-start c =
    let core = c.self.inside in
    subst (λ (k : CoreState). IfSome c.start.result (IsStartNow k c.args.level c.args.validator)) c.self.view_is
    (start_some (record { config = core.state.config; journal = core.journal.items; asked = core.shown.asked }) core.state core.shown c.self.invariant.shown_is refl c.args.level c.args.validator c.start.result
    (c.start.ensures ∙ ap (λ (n : ℕ). cond (is_about core.shown.asked n) (start_of core.shown.search c.args.level c.args.validator) None) c.len-count.ensures))

pub returns-clause-none : goal.returns-clause-none
returns-clause-none c =
    let core = c.self.inside in
    subst (λ (k : CoreState). IfNone c.start.result ((n : ℕ) → IsStartNow k c.args.level c.args.validator n → ⊥)) c.self.view_is
    (start_none (record { config = core.state.config; journal = core.journal.items; asked = core.shown.asked }) core.state core.shown c.self.invariant.shown_is refl c.args.level c.args.validator c.self.invariant.node.is_of.settled c.start.result
    (c.start.ensures ∙ ap (λ (n : ℕ). cond (is_about core.shown.asked n) (start_of core.shown.search c.args.level c.args.validator) None) c.len-count.ensures))
