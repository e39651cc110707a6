use Rattle.std.proofs.Common.{ℕ, ◌+◌, ◌*◌, List, refl, ap, ◌∙◌, arith}
use Rattle.hw_honest.specs.Simulated.{is_refused}
use Rattle.hw_cluster.specs.Nodes.{acted_in, left_by}
use Rattle.hw_cluster.specs.Numbers.{WordStream, action_at}
use Rattle.hw_cluster.proofs.RunLaws.{one_if, running_first, running_more, run_left, run_refused}
use Rattle.hw_cluster.proofs.simulated.run.Goals as goal

pub loop-step-init : goal.loop-step-init
loop-step-init c = ((let e = c.requires.first in λ i. record { key = c.args.words.now.key; place = e i }), running_first c.args.cluster.now c.args.words.now.key c.args.nodes c.args.steps c.requires.nodes)

pub act_once-requires-clause-nodes : goal.act_once-requires-clause-nodes
act_once-requires-clause-nodes c = c.loop-step.invariant.1.many

pub act_once-requires-clause-place : goal.act_once-requires-clause-place
act_once-requires-clause-place c = ap (λ (w : WordStream). w.place) c.loop-step.invariant.0

pub overflow_add-refused : goal.overflow_add-refused
overflow_add-refused c = (let few = c.loop-step.invariant.1.few in let one = c.in_ok-refused.ensures.few in let small = c.ranges.steps in omega arith)

pub loop-step-preserved : goal.loop-step-preserved
loop-step-preserved c =
    let old = c.loop-step.invariant.1 in
    let key = ap (λ (w : WordStream). w.key) c.loop-step.invariant.0 in
    let at = λ (ks : List ℕ). action_at ks c.args.nodes c.loop-step.cluster.cluster c.loop-step.step in (
      c.act_once.ensures.words ∙ (λ i. record { key = key i; place = 2 * (c.loop-step.step + 1) }),
      running_more c.args.cluster.now c.args.words.now.key c.args.nodes c.args.steps c.loop-step.cluster c.loop-step.refused c.loop-step.step old c.act_once.new.cluster c.in_ok-refused.field-0 (c.loop-step.refused + c.in_ok-refused.field-0)
          c.loop-step-test.true (c.in_ok-refused.ensures.left ∙ ap (λ (ks : List ℕ). left_by c.loop-step.cluster (at ks)) key)
          (c.in_ok-refused.ensures.refused ∙ ap (λ (ks : List ℕ). one_if (is_refused (acted_in c.loop-step.cluster (at ks)))) key) refl c.in_ok-refused.ensures.few,
    )

pub returns-clause-left : goal.returns-clause-left
returns-clause-left c = run_left c.args.cluster.now c.args.words.now.key c.args.nodes c.args.steps c.loop-step.cluster c.loop-step.refused c.loop-step.step c.loop-step.invariant.1 c.loop-step-test.false

pub returns-clause-refused : goal.returns-clause-refused
returns-clause-refused c = run_refused c.args.cluster.now c.args.words.now.key c.args.nodes c.args.steps c.loop-step.cluster c.loop-step.refused c.loop-step.step c.loop-step.invariant.1 c.loop-step-test.false

pub returns-clause-nodes : goal.returns-clause-nodes
returns-clause-nodes c = c.loop-step.invariant.1.many
