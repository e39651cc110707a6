use Rattle.std.proofs.Common.{◌≡◌, List, IfSome, sym, ap, subst, ◌∙◌}
use Rattle.std.proofs.lemmas.Result.{IfOk-weaker}
use Rattle.hw_types.specs.declared.config.Config.{Config}
use Rattle.hw_types.specs.Real.{setting_of}
use Rattle.hw_types.specs.Spelling.{instance_of}
use Rattle.hw_types.specs.Step.{step_in}
use Rattle.hw_dag.specs.declared.numbers.UnitNo.{UnitNo}
use Rattle.hw_dag.specs.declared.numbers.View.{View}
use Rattle.hw_dag.specs.Dag.{UnitGraph, graph, observations}
use Rattle.hw_validator.specs.Scene.{IsScene, AreEndorsed}
use Rattle.hw_validator.specs.Step.{step_of, known_to, IsPlannedBy, KeepsItsRules, FollowsItsOwn, FitsItsFormat}
use Rattle.hw_validator.proofs.PlannedLaws.{answer_planned, answer_keeps, answer_follows, answer_fits}
use Rattle.hw_validator.proofs.step.next_unit_of.Goals as goal

pub step-requires-clause-scene : goal.step-requires-clause-scene
step-requires-clause-scene c =
    let s = c.args.state.now in
    let made : IsScene s.dag c.naivety.result.now c.in_ok-endorsed.endorsed.items = record {
      graph_is = c.dag.ensures.graph;
      noted = c.naivety.ensures.noted;
      all = c.naivety.ensures.all;
      known = c.in_ok-endorsed.ensures.known;
    } in
    subst (λ (d : UnitGraph). IsScene d c.naivety.result.now c.as_slice.result.now) (sym c.dag.ensures.dag)
    (subst (λ (ks : List UnitNo). IsScene s.dag c.naivety.result.now ks) (sym c.as_slice.ensures.value) made)

pub step-requires-clause-instance : goal.step-requires-clause-instance
step-requires-clause-instance c = c.requires.instance ∙ ap instance_of (sym c.config.ensures.config)

pub returns-clause-step : goal.returns-clause-step
returns-clause-step c =
    let s = c.args.state.now in
    let me = c.args.me in
    let now = c.args.now in
    let value = c.args.value.now in
    let are = subst (λ (k : Config). AreEndorsed k (known_to s) c.dag.result.now c.as_slice.result.now) (sym c.config.ensures.config)
    (subst (λ (d : UnitGraph). AreEndorsed s.config (known_to s) d c.as_slice.result.now) (sym c.dag.ensures.dag)
    (subst (λ (ks : List UnitNo). AreEndorsed s.config (known_to s) s.dag ks) (sym c.as_slice.ensures.value) c.in_ok-endorsed.ensures.endorsed)) in
    IfOk-weaker c.step.result _ (λ plan. plan ≡ step_of s me now value) (λ plan h. h (known_to s) are
    ∙ ap (λ (k : Config). step_in (setting_of k) (known_to s) (graph c.dag.result.now) (observations c.dag.result.now c.panorama.result.now) me now value) c.config.ensures.config
    ∙ ap (λ (d : UnitGraph). step_in (setting_of s.config) (known_to s) (graph d) (observations d c.panorama.result.now) me now value) c.dag.ensures.dag
    ∙ ap (λ (ws : List View). step_in (setting_of s.config) (known_to s) (graph s.dag) (observations s.dag ws) me now value) c.panorama.ensures.panorama)
    c.step.ensures

pub returns-clause-planned : goal.returns-clause-planned
returns-clause-planned c =
    let s = c.args.state.now in
    let me = c.args.me in
    let now = c.args.now in
    let value = c.args.value.now in
    let are = subst (λ (k : Config). AreEndorsed k (known_to s) c.dag.result.now c.as_slice.result.now) (sym c.config.ensures.config)
    (subst (λ (d : UnitGraph). AreEndorsed s.config (known_to s) d c.as_slice.result.now) (sym c.dag.ensures.dag)
    (subst (λ (ks : List UnitNo). AreEndorsed s.config (known_to s) s.dag ks) (sym c.as_slice.ensures.value) c.in_ok-endorsed.ensures.endorsed)) in
    IfOk-weaker c.step.result _ (λ plan. IfSome plan (IsPlannedBy s me now value)) (λ plan h. answer_planned s c.config.ensures.lawful c.panorama.ensures.observed me now value c.requires.me plan
    (h (known_to s) are
    ∙ ap (λ (k : Config). step_in (setting_of k) (known_to s) (graph c.dag.result.now) (observations c.dag.result.now c.panorama.result.now) me now value) c.config.ensures.config
    ∙ ap (λ (d : UnitGraph). step_in (setting_of s.config) (known_to s) (graph d) (observations d c.panorama.result.now) me now value) c.dag.ensures.dag
    ∙ ap (λ (ws : List View). step_in (setting_of s.config) (known_to s) (graph s.dag) (observations s.dag ws) me now value) c.panorama.ensures.panorama))
    c.step.ensures

pub returns-clause-rules : goal.returns-clause-rules
returns-clause-rules c =
    let s = c.args.state.now in
    let me = c.args.me in
    let now = c.args.now in
    let value = c.args.value.now in
    let are = subst (λ (k : Config). AreEndorsed k (known_to s) c.dag.result.now c.as_slice.result.now) (sym c.config.ensures.config)
    (subst (λ (d : UnitGraph). AreEndorsed s.config (known_to s) d c.as_slice.result.now) (sym c.dag.ensures.dag)
    (subst (λ (ks : List UnitNo). AreEndorsed s.config (known_to s) s.dag ks) (sym c.as_slice.ensures.value) c.in_ok-endorsed.ensures.endorsed)) in
    IfOk-weaker c.step.result _ (λ plan. IfSome plan (KeepsItsRules s)) (λ plan h. answer_keeps s c.config.ensures.lawful c.panorama.ensures.observed me now value c.requires.me plan
    (h (known_to s) are
    ∙ ap (λ (k : Config). step_in (setting_of k) (known_to s) (graph c.dag.result.now) (observations c.dag.result.now c.panorama.result.now) me now value) c.config.ensures.config
    ∙ ap (λ (d : UnitGraph). step_in (setting_of s.config) (known_to s) (graph d) (observations d c.panorama.result.now) me now value) c.dag.ensures.dag
    ∙ ap (λ (ws : List View). step_in (setting_of s.config) (known_to s) (graph s.dag) (observations s.dag ws) me now value) c.panorama.ensures.panorama))
    c.step.ensures

pub returns-clause-follows : goal.returns-clause-follows
returns-clause-follows c =
    let s = c.args.state.now in
    let me = c.args.me in
    let now = c.args.now in
    let value = c.args.value.now in
    let are = subst (λ (k : Config). AreEndorsed k (known_to s) c.dag.result.now c.as_slice.result.now) (sym c.config.ensures.config)
    (subst (λ (d : UnitGraph). AreEndorsed s.config (known_to s) d c.as_slice.result.now) (sym c.dag.ensures.dag)
    (subst (λ (ks : List UnitNo). AreEndorsed s.config (known_to s) s.dag ks) (sym c.as_slice.ensures.value) c.in_ok-endorsed.ensures.endorsed)) in
    IfOk-weaker c.step.result _ (λ plan. IfSome plan (FollowsItsOwn s me)) (λ plan h. answer_follows s c.config.ensures.lawful c.panorama.ensures.observed me now value c.requires.me plan
    (h (known_to s) are
    ∙ ap (λ (k : Config). step_in (setting_of k) (known_to s) (graph c.dag.result.now) (observations c.dag.result.now c.panorama.result.now) me now value) c.config.ensures.config
    ∙ ap (λ (d : UnitGraph). step_in (setting_of s.config) (known_to s) (graph d) (observations d c.panorama.result.now) me now value) c.dag.ensures.dag
    ∙ ap (λ (ws : List View). step_in (setting_of s.config) (known_to s) (graph s.dag) (observations s.dag ws) me now value) c.panorama.ensures.panorama))
    c.step.ensures

pub returns-clause-fits : goal.returns-clause-fits
returns-clause-fits c =
    let s = c.args.state.now in
    let me = c.args.me in
    let now = c.args.now in
    let value = c.args.value.now in
    let are = subst (λ (k : Config). AreEndorsed k (known_to s) c.dag.result.now c.as_slice.result.now) (sym c.config.ensures.config)
    (subst (λ (d : UnitGraph). AreEndorsed s.config (known_to s) d c.as_slice.result.now) (sym c.dag.ensures.dag)
    (subst (λ (ks : List UnitNo). AreEndorsed s.config (known_to s) s.dag ks) (sym c.as_slice.ensures.value) c.in_ok-endorsed.ensures.endorsed)) in
    IfOk-weaker c.step.result _ (λ plan. IfSome plan (FitsItsFormat s me)) (λ plan h. answer_fits s c.config.ensures.lawful c.panorama.ensures.observed me now value c.requires.me c.requires.now c.requires.value plan
    (h (known_to s) are
    ∙ ap (λ (k : Config). step_in (setting_of k) (known_to s) (graph c.dag.result.now) (observations c.dag.result.now c.panorama.result.now) me now value) c.config.ensures.config
    ∙ ap (λ (d : UnitGraph). step_in (setting_of s.config) (known_to s) (graph d) (observations d c.panorama.result.now) me now value) c.dag.ensures.dag
    ∙ ap (λ (ws : List View). step_in (setting_of s.config) (known_to s) (graph s.dag) (observations s.dag ws) me now value) c.panorama.ensures.panorama))
    c.step.ensures
