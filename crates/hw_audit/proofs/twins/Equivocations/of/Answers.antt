use Rattle.std.proofs.Common.{List, [], ◌∷◌, ◌++◌, take, ap, sym, subst, ◌∙◌}
use Rattle.std.proofs.lemmas.Grind.{take_at_read}
use Rattle.hw_audit.specs.Held.{HeldUnit}
use Rattle.hw_audit.specs.Twins.{AreNoted}
use Rattle.hw_audit.proofs.twins.Equivocations.of.Goals as goal

pub loop-unit-preserved : goal.loop-unit-preserved
loop-unit-preserved c = record {
  noted =
      subst (λ (hs : List HeldUnit). AreNoted c.note.new.self.twins.entries c.note.new.self.least.items hs)
      (sym ((take_at_read c.args.units.now c.loop-unit.unit-index c.unit-item.result c.loop-unit-test.true).1
      ∙ ap (λ (h : HeldUnit). take c.loop-unit.unit-index c.args.units.now ++ h ∷ []) (sym c.unit-item.is)))
      (c.in_ok-note.ensures.noted (take c.loop-unit.unit-index c.args.units.now) c.loop-unit.invariant.noted);
  validators = c.in_ok-note.ensures.validators ∙ c.loop-unit.invariant.validators;
}
