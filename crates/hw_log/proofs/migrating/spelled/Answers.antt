use Rattle.std.proofs.Common.{◌∙◌, ap, length, subst}
use Rattle.hw_types.specs.declared.config.Config.{Config}
use Rattle.hw_codec.specs.Ranges.{ConfigInRange}
use Rattle.hw_log.specs.Lasts.{no_lasts}
use Rattle.hw_log.specs.Log.{header_bytes}
use Rattle.hw_log.proofs.MigrateLaws.{first_spelled, spelled_says, spelled_same}
use Rattle.hw_log.proofs.migrating.spelled.Goals as goal

pub returns-clause-said : goal.returns-clause-said
returns-clause-said g c = λ tells bytes stands.
    spelled_says bytes c.args.reader.now.config c.in_ok-lasts.lasts c.in_ok-bytes.bytes c.spell_entries.new.text c.in_ok-count.count
    (c.in_ok-count.ensures.said tells bytes (first_spelled bytes c.args.reader.now (g.F.Files.unread c.args.files.now) c.in_ok-lasts.lasts c.in_ok-bytes.bytes stands))
    (c.in_ok-lasts.ensures ∙ ap (no_lasts 2) (c.len-validators.ensures ∙ ap (λ (k : Config). length k.weights) c.config-2.ensures))
    (c.in_ok-bytes.ensures.header ∙ ap (header_bytes 2) c.config.ensures)

pub returns-clause-same : goal.returns-clause-same
returns-clause-same g c = λ tells bytes stands.
    spelled_same bytes c.args.reader.now.config c.in_ok-lasts.lasts c.in_ok-bytes.bytes c.spell_entries.new.text c.in_ok-count.count
    (c.in_ok-count.ensures.said tells bytes (first_spelled bytes c.args.reader.now (g.F.Files.unread c.args.files.now) c.in_ok-lasts.lasts c.in_ok-bytes.bytes stands))
    (c.in_ok-lasts.ensures ∙ ap (no_lasts 2) (c.len-validators.ensures ∙ ap (λ (k : Config). length k.weights) c.config-2.ensures))
    (c.in_ok-bytes.ensures.header ∙ ap (header_bytes 2) c.config.ensures)
    (subst ConfigInRange c.config.ensures c.in_ok-bytes.ensures.range) c.requires.fits c.requires.limits
