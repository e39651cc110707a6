use Rattle.std.proofs.Common.{subst}
use Rattle.hw_types.specs.Real.{CoreState, setting_of}
use Rattle.hw_honest.specs.Generated.{AreTotals}
use Rattle.hw_cluster.specs.Numbers.{totals_of}
use Rattle.hw_cluster.proofs.generated.totals.Goals as goal

pub returns : goal.returns
returns c = subst (λ (k : CoreState). AreTotals (setting_of k.config) k.journal (totals_of c.summary-ended.result)) c.in_ok-play.ensures c.summary-ended.ensures
