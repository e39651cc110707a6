use Rattle.std.proofs.Common.{length, ap, sym, subst, ◌∙◌, ◌≡◌, None}
use Rattle.hw_types.specs.declared.config.Config.{Config}
use Rattle.hw_types.specs.Limits.{config_fault}
use Rattle.hw_session.specs.Standing.{standing}
use Rattle.hw_run_laws.proofs.InHandLaws.{starts_mended, given_up_keeps}
use Rattle.hw_run_laws.proofs.in_hand.a_node_given_up_keeps_one_line.Goals as goal

pub start_soundly-requires-clause-lawful : goal.start_soundly-requires-clause-lawful
start_soundly-requires-clause-lawful g c = subst (λ (k : Config). config_fault k ≡ None) (sym c.requires.config) c.recall.ensures.kept.lawful

pub start_soundly-requires-clause-keys : goal.start_soundly-requires-clause-keys
start_soundly-requires-clause-keys g c = ap length c.requires.keys ∙ c.recall.ensures.kept.keys ∙ ap (λ (k : Config). length k.weights) (sym c.requires.config)

pub returns-clause-again : goal.returns-clause-again
returns-clause-again g c = λ telling.
    starts_mended c.args.node.now c.args.config c.args.keys c.args.log.now c.args.new.now (g.F.Files.held c.args.files.now) (g.F.Files.held c.mend.new.files) (g.F.Files.held c.start_soundly.new.files) c.in_ok-_whole._whole c.start_soundly.result
    c.requires.log c.requires.config c.requires.keys (c.in_ok-_whole.ensures.done telling) (c.start_soundly.ensures.said telling) (c.start_soundly.ensures.log telling)

pub returns-clause-line : goal.returns-clause-line
returns-clause-line g c = λ telling me before validator sound ready attempt.
    given_up_keeps me before (standing c.args.node.now (g.F.Files.held c.args.files.now)) c.args.new.now (g.F.Files.held c.start_soundly.new.files) c.start_soundly.result
    validator sound c.recall.ensures c.start_soundly.ensures.sound ready attempt
    (starts_mended c.args.node.now c.args.config c.args.keys c.args.log.now c.args.new.now (g.F.Files.held c.args.files.now) (g.F.Files.held c.mend.new.files) (g.F.Files.held c.start_soundly.new.files) c.in_ok-_whole._whole c.start_soundly.result
    c.requires.log c.requires.config c.requires.keys (c.in_ok-_whole.ensures.done telling) (c.start_soundly.ensures.said telling) (c.start_soundly.ensures.log telling))
