use Rattle.std.proofs.Common.{◌≡◌, List, Some, subst}
use Rattle.hw_types.specs.Real.{CoreState}
use Rattle.hw_eras.specs.Nodes.{last_core}
use Rattle.hw_eras.proofs.EndedLaws.{last_made}
use Rattle.hw_eras.proofs.opening.open.Goals as goal

pub config_after-requires-clause-made : goal.config_after-requires-clause-made
config_after-requires-clause-made c =
    let last = subst (λ (ks : List CoreState). last_core ks ≡ Some c.last.result.now) c.deref.ensures.value c.last.ensures in
    last_made c.args.cores.now.items c.last.result.now c.requires.eras last
