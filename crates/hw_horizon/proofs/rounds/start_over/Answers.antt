use Rattle.std.proofs.Common.{◌≡◌, ℕ, Bool, true, cond, Option, Some, None, refl, sym, ap, subst, ◌∙◌}
use Rattle.std.specs.Prelude.{is_some, not, unwrap_or}
use Rattle.hw_safety.specs.Pruned.{or_zero}
use Rattle.hw_dag.specs.declared.numbers.View.{View}
use Rattle.hw_dag.specs.declared.numbers.View.TheVariants as view
use Rattle.hw_dag.specs.Dag.{graph, observations, view_at}
use Rattle.hw_horizon.specs.Tables.{entry, start_over}
use Rattle.hw_horizon.specs.Starts.{IsStart, IsSlotStart}
use Rattle.hw_horizon.specs.Firsts.{has_quorum}
use Rattle.hw_horizon.proofs.FirstLaws.{suffix_after, start_after_is}
use Rattle.hw_horizon.proofs.rounds.start_over.Goals as goal

zero_where_none : (o : Option ℕ) → unwrap_or o 0 ≡ or_zero o
zero_where_none None = refl
zero_where_none (Some n) = refl

pub quorum_start-requires-clause-suffix : goal.quorum_start-requires-clause-suffix
quorum_start-requires-clause-suffix c =
    let slot : view_at c.args.question.now.panorama.now c.args.validator ≡ view.Correct c.in-Correct.tip = sym c.get-2.ensures ∙ c.in-Correct.is in
    suffix_after c.args.question.now.dag.now c.args.question.now.asked.graph_is c.args.question.now.panorama.now c.args.question.now.asked.panorama_is c.requires.consistent c.args.question.now.weights.now c.args.question.now.quorum c.args.lower.now c.args.present.now c.requires.slots c.args.firsts.now c.requires.firsts c.args.validator c.in-Correct.tip slot

pub returns-in-Correct : goal.returns-in-Correct
returns-in-Correct c =
    let slot : view_at c.args.question.now.panorama.now c.args.validator ≡ view.Correct c.in-Correct.tip = sym c.get-2.ensures ∙ c.in-Correct.is in
    let floor : c.unwrap_or-floor.result ≡ or_zero (entry c.args.lower.now c.args.validator) = c.unwrap_or-floor.ensures ∙ zero_where_none c.get-in-Correct.result ∙ ap or_zero c.get-in-Correct.ensures in
    let passes : ℕ → Bool = has_quorum c.args.question.now.weights.now c.args.question.now.dag.now c.args.question.now.quorum c.args.firsts.now in
    let start : IsSlotStart c.args.question.now.dag.now (view.Correct c.in-Correct.tip) (or_zero (entry c.args.lower.now c.args.validator)) passes c.quorum_start.result =
    subst (λ (n : ℕ). IsStart c.args.question.now.dag.now c.in-Correct.tip.0 n passes c.quorum_start.result) floor c.quorum_start.ensures in
    let is : start_over c.args.question.now.weights.now (graph c.args.question.now.dag.now) (observations c.args.question.now.dag.now c.args.question.now.panorama.now) c.args.question.now.quorum c.args.lower.now c.args.present.now c.args.validator ≡ c.quorum_start.result =
    start_after_is c.args.question.now.dag.now c.args.question.now.asked.graph_is c.args.question.now.panorama.now c.args.question.now.asked.panorama_is c.requires.consistent c.args.question.now.weights.now c.args.question.now.quorum c.args.lower.now c.args.present.now c.requires.slots c.args.firsts.now c.requires.firsts c.args.validator c.quorum_start.result
    (subst (λ (w : View). IsSlotStart c.args.question.now.dag.now w (or_zero (entry c.args.lower.now c.args.validator)) passes c.quorum_start.result) (sym slot) start) in
    let present : is_some (entry c.args.present.now c.args.validator) ≡ true = ap is_some (sym c.get.ensures) ∙ c.is_none.ensures ∙ ap not c.if-is_none.false in
    sym is ∙ sym (ap (λ (b : Bool). cond b (start_over c.args.question.now.weights.now (graph c.args.question.now.dag.now) (observations c.args.question.now.dag.now c.args.question.now.panorama.now) c.args.question.now.quorum c.args.lower.now c.args.present.now c.args.validator) None) present)
