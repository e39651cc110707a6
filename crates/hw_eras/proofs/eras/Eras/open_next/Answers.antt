use Rattle.std.proofs.Common.{◌≡◌, ◌↔◌, List, Ok, Err, None, subst}
use Rattle.hw_types.specs.Real.{CoreState}
use Rattle.hw_eras.specs.declared.answers.EraOpen.TheVariants as opening
use Rattle.hw_eras.specs.Nodes.{IsLastUnended, IsFull}
use Rattle.hw_eras.proofs.eras.Eras.open_next.Goals as goal

pub returns-clause-none : goal.returns-clause-none
returns-clause-none c = subst (λ (ks : List CoreState). (c.open_after.result ≡ Ok None) ↔ IsLastUnended ks) c.self.view_is c.open_after.ensures.none

pub returns-clause-full : goal.returns-clause-full
returns-clause-full c = subst (λ (ks : List CoreState). (c.open_after.result ≡ Err opening.Full) ↔ IsFull ks) c.self.view_is c.open_after.ensures.full
