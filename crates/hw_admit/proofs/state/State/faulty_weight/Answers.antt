use Rattle.std.proofs.Common.{rules, ◌≡◌, ◌+◌, ◌++◌, ◌∷◌, [], ◌<◌, ℕ, Bool, true, false, List, length, get_or, sym, ap, subst, ◌∙◌, arith}
use Rattle.std.specs.Prelude.{sum}
use Rattle.std.proofs.lemmas.List.{length_push}
use Rattle.std.proofs.lemmas.Slice.Zip.{zip_turn, zip_end}
use Rattle.hw_types.proofs.LimitLaws.{within_limits}
use Rattle.hw_dag.specs.declared.numbers.View.{View}
use Rattle.hw_dag.specs.declared.numbers.View.TheVariants as view
use Rattle.hw_dag.specs.Dag.{graph, view_at}
use Rattle.hw_admit.specs.State.{NodeState, is_faulty_in}
use Rattle.hw_admit.proofs.StateLaws.{is_faulty_seen, not_faulty_seen}
use Rattle.hw_admit.proofs.WeightLaws.{so_far, one_more, so_far_most}
use Rattle.hw_admit.proofs.state.State.faulty_weight.Goals as goal

pub overflow_add-total : goal.overflow_add-total
overflow_add-total c =
    let test : ℕ → Bool = is_faulty_in c.args.self.now.marked (graph c.args.self.now.dag) in
    let n = length c.loop-slot.yielded in
    let same : c.as_slice-weights.result.now ≡ c.args.self.now.config.weights = c.as_slice-weights.ensures ∙ ap (λ (s : NodeState). s.config.weights) c.self.view_is in
    let turn = zip_turn c.views.result.now c.as_slice-weights.result.now c.loop-slot.yielded c.into_iter-slot-iterator.result c.loop-slot.slot-iterator c.next.new.self c.next.result
    (search rules) (search rules) c.loop-slot.yielded_by (c.in-Some.slot, c.in-Some.weight) c.in-Some.is c.next.ensures.steps in
    let answer : test n ≡ true =
    sym (subst (λ (s : NodeState). true ≡ is_faulty_in s.marked (graph s.dag) n) c.self.view_is
    (is_faulty_seen _ c.self.invariant.0 n (subst (λ (ws : List ℕ). n < length ws) c.as_slice-weights.ensures turn.1) c.in-Some.slot.now
    (turn.2 view.Absent ∙ ap (λ (ws : List View). view_at ws n) c.views.ensures) (sym c.view.ensures ∙ c.in-Faulty.is))) in
    let more = one_more c.args.self.now.config.weights test n true answer in
    let this : c.in-Some.weight.now ≡ get_or c.args.self.now.config.weights n 0 = turn.3 0 ∙ ap (λ (ws : List ℕ). get_or ws n 0) same in
    let inside : n < length c.args.self.now.config.weights = subst (λ (ws : List ℕ). n < length ws) same turn.1 in
    let most = so_far_most c.args.self.now.config.weights test (n + 1) (omega arith) in
    let total = (within_limits c.self.inside.config c.self.invariant.0.lawful).total in
    let sums = ap (λ (s : NodeState). sum s.config.weights) c.self.view_is in
    let before = c.loop-slot.invariant in
    omega arith

pub loop-slot-preserved-in-Faulty : goal.loop-slot-preserved-in-Faulty
loop-slot-preserved-in-Faulty c =
    let test : ℕ → Bool = is_faulty_in c.args.self.now.marked (graph c.args.self.now.dag) in
    let n = length c.loop-slot.yielded in
    let same : c.as_slice-weights.result.now ≡ c.args.self.now.config.weights = c.as_slice-weights.ensures ∙ ap (λ (s : NodeState). s.config.weights) c.self.view_is in
    let turn = zip_turn c.views.result.now c.as_slice-weights.result.now c.loop-slot.yielded c.into_iter-slot-iterator.result c.loop-slot.slot-iterator c.next.new.self c.next.result
    (search rules) (search rules) c.loop-slot.yielded_by (c.in-Some.slot, c.in-Some.weight) c.in-Some.is c.next.ensures.steps in
    let answer : test n ≡ true =
    sym (subst (λ (s : NodeState). true ≡ is_faulty_in s.marked (graph s.dag) n) c.self.view_is
    (is_faulty_seen _ c.self.invariant.0 n (subst (λ (ws : List ℕ). n < length ws) c.as_slice-weights.ensures turn.1) c.in-Some.slot.now
    (turn.2 view.Absent ∙ ap (λ (ws : List View). view_at ws n) c.views.ensures) (sym c.view.ensures ∙ c.in-Faulty.is))) in
    let more = one_more c.args.self.now.config.weights test n true answer in
    let this : c.in-Some.weight.now ≡ get_or c.args.self.now.config.weights n 0 = turn.3 0 ∙ ap (λ (ws : List ℕ). get_or ws n 0) same in
    let long : length (c.loop-slot.yielded ++ (c.in-Some.slot, c.in-Some.weight) ∷ []) ≡ n + 1 = length_push c.loop-slot.yielded (c.in-Some.slot, c.in-Some.weight) in
    let grown = ap (λ (k : ℕ). so_far c.args.self.now.config.weights test k) long in
    let before = c.loop-slot.invariant in
    omega arith

pub loop-slot-preserved : goal.loop-slot-preserved
loop-slot-preserved c =
    let test : ℕ → Bool = is_faulty_in c.args.self.now.marked (graph c.args.self.now.dag) in
    let n = length c.loop-slot.yielded in
    let same : c.as_slice-weights.result.now ≡ c.args.self.now.config.weights = c.as_slice-weights.ensures ∙ ap (λ (s : NodeState). s.config.weights) c.self.view_is in
    let turn = zip_turn c.views.result.now c.as_slice-weights.result.now c.loop-slot.yielded c.into_iter-slot-iterator.result c.loop-slot.slot-iterator c.next.new.self c.next.result
    (search rules) (search rules) c.loop-slot.yielded_by (c.in-Some.slot, c.in-Some.weight) c.in-Some.is c.next.ensures.steps in
    let answer : test n ≡ false =
    sym (subst (λ (s : NodeState). false ≡ is_faulty_in s.marked (graph s.dag) n) c.self.view_is
    (not_faulty_seen _ c.self.invariant.0 n (subst (λ (ws : List ℕ). n < length ws) c.as_slice-weights.ensures turn.1) c.in-Some.slot.now
    (turn.2 view.Absent ∙ ap (λ (ws : List View). view_at ws n) c.views.ensures) (λ e. absurd (c.in_default.not-Faulty (c.view.ensures ∙ e))))) in
    let more = one_more c.args.self.now.config.weights test n false answer in
    let this : c.in-Some.weight.now ≡ get_or c.args.self.now.config.weights n 0 = turn.3 0 ∙ ap (λ (ws : List ℕ). get_or ws n 0) same in
    let long : length (c.loop-slot.yielded ++ (c.in-Some.slot, c.in-Some.weight) ∷ []) ≡ n + 1 = length_push c.loop-slot.yielded (c.in-Some.slot, c.in-Some.weight) in
    let grown = ap (λ (k : ℕ). so_far c.args.self.now.config.weights test k) long in
    let before = c.loop-slot.invariant in
    omega arith

pub returns : goal.returns
returns c =
    let turns = zip_end c.views.result.now c.as_slice-weights.result.now c.loop-slot.yielded c.into_iter-slot-iterator.result c.loop-slot.slot-iterator c.next.new.self c.next.result
    (search rules) (search rules) c.loop-slot.yielded_by c.in-None.is c.next.ensures.steps in
    let slots = ap length c.views.ensures ∙ c.self.invariant.0.panorama_is.length_is in
    let weights = ap length c.as_slice-weights.ensures ∙ c.self.invariant.0.weights_are.length_is in
    let same = ap length (c.as_slice-weights.ensures ∙ ap (λ (s : NodeState). s.config.weights) c.self.view_is) in
    let all : length c.loop-slot.yielded ≡ length c.args.self.now.config.weights = omega arith in
    c.loop-slot.invariant ∙ ap (λ (k : ℕ). so_far c.args.self.now.config.weights (is_faulty_in c.args.self.now.marked (graph c.args.self.now.dag)) k) all
