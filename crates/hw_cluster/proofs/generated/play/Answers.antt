use Rattle.std.proofs.Common.{◌≡◌, ℕ, List, None, refl, ap, sym, subst, ◌∙◌}
use Rattle.hw_types.specs.declared.config.Config.{Config}
use Rattle.hw_types.specs.Real.{CoreState, setting_of}
use Rattle.rand_chacha.specs.ChaCha.{key_of}
use Rattle.hw_core.proofs.StartLaws.{config_fits}
use Rattle.hw_honest.specs.Generated.{journal_of_rounds}
use Rattle.hw_cluster.specs.Numbers.{word_in, WordStream}
use Rattle.hw_cluster.specs.Generating.{IsAfter}
use Rattle.hw_cluster.proofs.NodesLaws.{on_ok}
use Rattle.hw_cluster.proofs.GeneratedLaws.{after_none}
use Rattle.hw_cluster.proofs.generated.play.Goals as goal

pub instance_of-requires : goal.instance_of-requires
instance_of-requires c = config_fits c.args.config.now c.requires.lawful

pub run-requires-clause-first : goal.run-requires-clause-first
run-requires-clause-first c =
    let key = key_of c.args.key in
    subst (λ (w : WordStream). IsAfter c.args.table.now w.key 0 c.args.core.now w c.in_ok-lanes.lanes) (sym c.new-2.ensures)
    (subst (λ (k : Config). IsAfter k key 0 c.args.core.now (record { key = key; place = 0 }) c.in_ok-lanes.lanes) (sym c.requires.table)
    (after_none c.args.config.now key c.args.core.now (record { key = key; place = 0 }) c.in_ok-lanes.lanes c.in_ok-instance_of.field-0 c.requires.ten c.requires.begun refl c.in_ok-instance_of.ensures c.in_ok-lanes.ensures))

pub returns : goal.returns
returns c =
    let left : Config → List ℕ → CoreState = λ k key. record { config = k; journal = journal_of_rounds (setting_of k) (word_in key) c.args.rounds; asked = None } in
    on_ok c.run.result (IsAfter c.args.table.now c.new-2.result.key c.args.rounds c.run.new.core c.run.new.words c.run.new.lanes) (c.run.new.core ≡ left c.args.config.now (key_of c.args.key))
    (λ after. after.journal ∙ ap (λ (k : Config). left k c.new-2.result.key) c.requires.table ∙ ap (λ (w : WordStream). left c.args.config.now w.key) c.new-2.ensures) c.run.ensures
