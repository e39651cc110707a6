use Rattle.std.proofs.Common.{List, sym, ap, subst, ◌∙◌}
use Rattle.hw_types.specs.declared.unit.SignedUnit.{SignedUnit}
use Rattle.hw_dag.specs.declared.numbers.View.{View}
use Rattle.hw_dag.specs.Dag.{IsPanorama}
use Rattle.hw_c.proofs.DuePlans.{is_for, panorama_fits}
use Rattle.hw_c.proofs.due.parent_of.Goals as goal

pub prepare-requires : goal.prepare-requires
prepare-requires c = is_for c.args.config.now c.args.dag.now c.requires.weights.length_is c.args.unit c.requires.fit _

pub fork_choice-requires-clause-panorama : goal.fork_choice-requires-clause-panorama
fork_choice-requires-clause-panorama c =
    subst (λ (ws : List View). IsPanorama c.args.dag.now ws) (sym c.panorama.ensures)
    (panorama_fits c.args.config.now c.args.dag.now c.validators.ensures.graph c.requires.weights.length_is c.args.unit c.requires.fit c.resolve.new.prepared
    (ap (λ (u : SignedUnit). u.unit) (c.resolve.ensures.signed ∙ c.in-Ok.ensures.signed)) (c.resolve.ensures.resolved c.if-not-resolve.false))
