use Rattle.std.proofs.Common.{length, ap, sym, subst, ◌∙◌, ◌≡◌, None}
use Rattle.hw_types.specs.declared.config.Config.{Config}
use Rattle.hw_types.specs.Limits.{config_fault}
use Rattle.hw_run_laws.proofs.InHandLaws.{start_keeps}
use Rattle.hw_run_laws.proofs.in_hand.a_start_keeps_one_line.Goals as goal

pub start-requires-clause-lawful : goal.start-requires-clause-lawful
start-requires-clause-lawful g c = subst (λ (k : Config). config_fault k ≡ None) (sym c.requires.config) c.recall.ensures.kept.lawful

pub start-requires-clause-keys : goal.start-requires-clause-keys
start-requires-clause-keys g c = ap length c.requires.keys ∙ c.recall.ensures.kept.keys ∙ ap (λ (k : Config). length k.weights) (sym c.requires.config)

pub returns-clause-line : goal.returns-clause-line
returns-clause-line g c = λ telling me validator ready. start_keeps me c.args.node.now c.in_ok-next.next c.args.config c.args.keys c.args.log.now (g.F.Files.held c.args.files.now) (g.F.Files.held c.start.new.files) validator c.recall.ensures c.recall-2.ensures c.requires.config c.requires.keys c.requires.log (c.in_ok-next.ensures.said telling) (c.in_ok-next.ensures.log telling) ready
