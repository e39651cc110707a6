use Rattle.std.proofs.Common.{sym}
use Rattle.hw_core.proofs.ReaderLaws.{place_among}
use Rattle.hw_core.proofs.kept.CoreInner.journal_at.Goals as goal

pub returns-clause-fits : goal.returns-clause-fits
returns-clause-fits c =
    let core = c.self.inside in
    let found = c.at.result.now in
    c.self.invariant.fit found (place_among found core.journal.items c.args.place (sym c.at.ensures))
