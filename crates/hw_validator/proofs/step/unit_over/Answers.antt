use Rattle.std.proofs.Common.{refl, sym, ap, ◌∙◌}
use Rattle.hw_types.specs.Real.{setting_of}
use Rattle.hw_types.specs.Step.{next_seq}
use Rattle.hw_dag.specs.declared.numbers.View.{View}
use Rattle.hw_validator.specs.Choice.{node_seen}
use Rattle.hw_validator.proofs.NodeStepLaws.{parts_are}
use Rattle.hw_validator.proofs.step.unit_over.Goals as goal

pub next_seq-requires : goal.next_seq-requires
next_seq-requires c = λ number e. c.requires.observed.known c.args.me number (sym c.get.ensures ∙ e)

pub returns : goal.returns
returns c = λ received are kind.
    let seq = c.next_seq.ensures ∙ ap (λ (w : View). next_seq (node_seen c.args.scene.now.dag.now w)) c.get.ensures in
    parts_are c.args.scene.now.config.now c.args.me c.args.time c.requires.instance seq c.in_ok-panorama.ensures refl (c.in_ok-endorsed.ensures.list (setting_of c.args.scene.now.config.now) received are)
