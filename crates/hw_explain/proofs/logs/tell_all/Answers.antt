use Rattle.std.proofs.Common.{sym, subst}
use Rattle.hw_types.specs.Real.{CoreState}
use Rattle.hw_explain.specs.Told.{HasTold}
use Rattle.hw_explain.proofs.logs.tell_all.Goals as goal

pub returns-clause-told : goal.returns-clause-told
returns-clause-told g c = subst (λ (k : CoreState). HasTold c.entries.told k) (sym (c.in_ok-step.ensures.end c.if-branch.false)) c.entries.invariant.told
