use Rattle.std.proofs.Common.{◌≡◌, take}
use Rattle.hw_eras.specs.Reports.{reports_from}
use Rattle.hw_eras.specs.Filled.{eras_in}
use Rattle.hw_eras.proofs.reports.reports.Given as goal

abbrev pub invariant-loop-era : goal.invariant-loop-era
invariant-loop-era l = l.text ≡ reports_from 0 (take l.era (eras_in l.filled))
