use Rattle.std.proofs.Common.{◌≡◌, ℕ, List, length, Option, Some, None, sym, ap, subst, ◌∙◌, get_or}
use Rattle.std.specs.Vec.{with_items}
use Rattle.std.proofs.lemmas.List.{with_items_is}
use Rattle.hw_dag.specs.declared.numbers.UnitNo.{UnitNo}
use Rattle.hw_horizon.specs.Bounds.{LevelBound, AskedBounds, AreBounds, IsBounded}
use Rattle.hw_horizon.proofs.FollowLaws.{bounds_again, tips_put}
use Rattle.hw_horizon.proofs.bounds.Bounds.follow.Goals as goal

pub follow_levels-requires-clause-bounded : goal.follow_levels-requires-clause-bounded
follow_levels-requires-clause-bounded c = λ v tip e.
    let are = subst (λ (k : AskedBounds). AreBounds c.args.weights.now c.args.dag.now k) (sym c.self.view_is) c.requires.bounds in
    let put : (with_items c.self.inside.tips c.forget_unless.new.tips).items ≡ c.forget_unless.new.tips = with_items_is c.self.inside.tips c.forget_unless.new.tips (c.forget_unless.auto.tips ∙ c.as_mut_slice.ensures.len) in
    let here : get_or c.forget_unless.new.tips v None ≡ Some tip = sym (ap (λ (ts : List (Option UnitNo)). get_or ts v None) (c.as_slice-3.ensures.value ∙ put)) ∙ e in
    subst (λ (ls : List LevelBound). IsBounded c.as_slice.result.now c.args.dag.now c.unwrap_or-asked.result.0 c.args.least ls v tip.0) (sym c.as_mut_slice-2.ensures.value)
    (subst (λ (ws : List ℕ). IsBounded ws c.args.dag.now c.unwrap_or-asked.result.0 c.args.least c.self.inside.levels.items v tip.0) (sym c.as_slice.ensures)
    (bounds_again c.args.weights.now c.args.dag.now _ c.unwrap_or-asked.result c.args.least c.forget_unless.new.tips c.asks_again-again.result are c.asks_again-again.ensures.block c.asks_again-again.ensures.least
    (λ t. c.forget_unless.ensures.kept t ∙ c.as_mut_slice.ensures.value) c.forget_unless.ensures.none v tip here))

pub returns-clause-bounds : goal.returns-clause-bounds
returns-clause-bounds c = λ block e v tip t.
    let same : c.args.block ≡ block = (let s : Some c.args.block ≡ Some block = e in cc) in
    let put : (with_items (with_items c.self.inside.tips c.forget_unless.new.tips) c.put_tips.new.tips).items ≡ c.put_tips.new.tips = with_items_is (with_items c.self.inside.tips c.forget_unless.new.tips) c.put_tips.new.tips (c.put_tips.auto.tips ∙ c.as_mut_slice-3.ensures.len) in
    let levels : (with_items c.self.inside.levels c.follow_levels.new.levels).items ≡ c.follow_levels.new.levels = with_items_is c.self.inside.levels c.follow_levels.new.levels (c.follow_levels.auto.levels ∙ c.as_mut_slice-2.ensures.len) in
    let here : get_or c.put_tips.new.tips v None ≡ Some tip = sym (ap (λ (ts : List (Option UnitNo)). get_or ts v None) put) ∙ t in
    let first : (with_items c.self.inside.tips c.forget_unless.new.tips).items ≡ c.forget_unless.new.tips = with_items_is c.self.inside.tips c.forget_unless.new.tips (c.forget_unless.auto.tips ∙ c.as_mut_slice.ensures.len) in
    let wide : length c.self.inside.tips.items ≡ c.args.dag.now.validators = ap (λ (k : AskedBounds). length k.tips) c.self.view_is ∙ c.requires.wide.tips in
    let long : length c.put_tips.new.tips ≡ length c.args.panorama.now =
    c.put_tips.ensures.length ∙ ap length (c.as_mut_slice-3.ensures.value ∙ first) ∙ c.forget_unless.ensures.length ∙ ap length c.as_mut_slice.ensures.value ∙ wide ∙ sym c.requires.panorama.length_is in
    let slot = tips_put c.args.panorama.now c.put_tips.new.tips long c.put_tips.ensures.tips v tip here in
    subst (λ (b : UnitNo). IsBounded c.args.weights.now c.args.dag.now b.0 c.args.least (with_items c.self.inside.levels c.follow_levels.new.levels).items v tip.0) same
    (subst (λ (ls : List LevelBound). IsBounded c.args.weights.now c.args.dag.now c.args.block.0 c.args.least ls v tip.0) (sym levels)
    (subst (λ (ws : List ℕ). IsBounded ws c.args.dag.now c.args.block.0 c.args.least c.follow_levels.new.levels v tip.0) c.as_slice.ensures (c.follow_levels.ensures.bounded v tip slot)))
