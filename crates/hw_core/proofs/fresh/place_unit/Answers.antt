use Rattle.std.proofs.Common.{length, sym, subst, subst₂}
use Rattle.hw_types.specs.declared.unit.Digest.{Digest}
use Rattle.hw_types.specs.declared.unit.SignedUnit.{SignedUnit}
use Rattle.hw_types.specs.Spelling.{Fits}
use Rattle.hw_core.specs.Units.{IsNewUnit, IsPlaced}
use Rattle.hw_core.proofs.UnitTakeLaws.{new_fits}
use Rattle.hw_core.proofs.fresh.place_unit.Goals as goal

pub is_whole-requires : goal.is_whole-requires
is_whole-requires c = (new_fits c.args.journal.now c.args.park.now c.args.state.now c.requires.node c.args.prepared.signed c.args.prepared.digest c.requires.new).length_is

pub settle_unit-requires-clause-new : goal.settle_unit-requires-clause-new
settle_unit-requires-clause-new c =
    subst₂ (λ (u : SignedUnit) (d : Digest). IsNewUnit c.args.state.now.config c.args.journal.now u d) (sym c.is_whole.ensures.signed) (sym c.is_whole.ensures.digest) c.requires.new

pub park_unit-requires-clause-new : goal.park_unit-requires-clause-new
park_unit-requires-clause-new c =
    subst₂ (λ (u : SignedUnit) (d : Digest). IsNewUnit c.args.state.now.config c.args.journal.now u d) (sym c.is_whole.ensures.signed) (sym c.is_whole.ensures.digest) c.requires.new

pub park_unit-requires-clause-fits : goal.park_unit-requires-clause-fits
park_unit-requires-clause-fits c = subst (λ (u : SignedUnit). Fits u.unit) (sym c.is_whole.ensures.signed) c.requires.fits

pub returns-then-is_whole-clause-placed : goal.returns-then-is_whole-clause-placed
returns-then-is_whole-clause-placed c =
    subst (λ (u : SignedUnit). IsPlaced c.args.state.now (length c.args.park.now.waiting) c.args.journal.now u c.settle_unit.new.state c.settle_unit.new.park c.settle_unit.new.dropped.entries c.settle_unit.result) c.is_whole.ensures.signed
    c.settle_unit.ensures.placed
