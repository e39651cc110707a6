use Rattle.std.proofs.Common.{ap, ◌∙◌, length}
use Rattle.hw_types.specs.declared.config.Config.{Config}
use Rattle.rand_chacha.specs.ChaCha.{key_of}
use Rattle.hw_types.specs.Real.{setting_of}
use Rattle.hw_honest.specs.Generated.{gen_config, gen_key, gen_journal, journal_of_rounds, AreTotals}
use Rattle.hw_types.specs.Limits.{config_fault}
use Rattle.hw_cluster.specs.Numbers.{word_in, totals_of}
use Rattle.hw_cluster.proofs.NodesLaws.{if_ok}
use Rattle.hw_cluster.proofs.GeneratedLaws.{within_limits, generated_totals}
use Rattle.hw_cluster.proofs.generated.generate.Goals as goal

pub totals-requires-clause-lawful : goal.totals-requires-clause-lawful
totals-requires-clause-lawful c = ap (λ (k : Config). config_fault k) c.in_ok-config.ensures ∙ within_limits c.key_for-key.result

pub totals-requires-clause-ten : goal.totals-requires-clause-ten
totals-requires-clause-ten c = ap (λ (k : Config). length k.weights) c.in_ok-config.ensures

pub totals-requires-clause-rounds : goal.totals-requires-clause-rounds
totals-requires-clause-rounds c = c.requires.few

pub returns : goal.returns
returns c =
    let s = setting_of c.in_ok-config.config in
    let n = gen_key c.args.number in
    if_ok c.totals.result (λ t. AreTotals s (journal_of_rounds s (word_in (key_of c.key_for-key.result)) c.args.rounds) (totals_of t))
    (λ t. AreTotals (setting_of (gen_config n)) (gen_journal c.args.number c.args.rounds) (totals_of t))
    (λ t are. generated_totals c.args.number c.args.rounds c.key_for-key.result c.in_ok-config.config (totals_of t) c.key_for-key.ensures c.in_ok-config.ensures are) c.totals.ensures
