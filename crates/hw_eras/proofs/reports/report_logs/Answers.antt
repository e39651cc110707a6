use Rattle.std.proofs.Common.{sym, subst}
use Rattle.hw_eras.specs.Nodes.{AreNodeEras}
use Rattle.hw_eras.specs.Filled.{eras_in}
use Rattle.hw_eras.proofs.FilledLaws.{counted_nodes}
use Rattle.hw_eras.proofs.reports.report_logs.Goals as goal

pub returns-clause-eras : goal.returns-clause-eras
returns-clause-eras g c = λ tells.
    let f = c.in_ok-filled.filled in
    record {
      reported = eras_in f;
      there = c.in_ok-filled.ensures.said tells;
      are = subst AreNodeEras (sym (counted_nodes f.eras f.counts.items)) c.in_ok-reports.ensures.eras;
      told = c.in_ok-reports.ensures.told;
    }
