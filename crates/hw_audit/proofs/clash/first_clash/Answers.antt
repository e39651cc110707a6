use Rattle.std.proofs.Common.{List, ◌∷◌, ◌+◌, Option, ap, sym, ◌∙◌}
use Rattle.std.specs.Option.{option_or}
use Rattle.std.proofs.lemmas.List.{at_drop_more}
use Rattle.hw_audit.specs.Held.{HeldUnit}
use Rattle.hw_audit.specs.Clashes.{UnitPair, first_clash}
use Rattle.hw_audit.proofs.KnownLaws.{clash_found}
use Rattle.hw_audit.proofs.clash.first_clash.Goals as goal

pub returns-in-Some : goal.returns-in-Some
returns-in-Some c =
    sym (c.loop-unit.invariant
    ∙ at_drop_more (λ (hs : List HeldUnit). first_clash c.args.left.now hs) c.args.right.now c.loop-unit.unit-index c.unit-item.result c.loop-unit-test.true
    ∙ ap (λ (h : HeldUnit). first_clash c.args.left.now (h ∷ lib.ListN.drop (c.loop-unit.unit-index + 1) c.args.right.now)) (sym c.unit-item.is)
    ∙ clash_found c.args.left.now c.unit-item.result (lib.ListN.drop (c.loop-unit.unit-index + 1) c.args.right.now) c.in_ok-known.known.entries c.clash_of.result c.in_ok-known.ensures c.clash_of.ensures
    ∙ ap (λ (o : Option UnitPair). option_or o (first_clash c.args.left.now (lib.ListN.drop (c.loop-unit.unit-index + 1) c.args.right.now))) c.in-Some.is)

pub loop-unit-preserved : goal.loop-unit-preserved
loop-unit-preserved c =
    c.loop-unit.invariant
    ∙ at_drop_more (λ (hs : List HeldUnit). first_clash c.args.left.now hs) c.args.right.now c.loop-unit.unit-index c.unit-item.result c.loop-unit-test.true
    ∙ ap (λ (h : HeldUnit). first_clash c.args.left.now (h ∷ lib.ListN.drop (c.loop-unit.unit-index + 1) c.args.right.now)) (sym c.unit-item.is)
    ∙ clash_found c.args.left.now c.unit-item.result (lib.ListN.drop (c.loop-unit.unit-index + 1) c.args.right.now) c.in_ok-known.known.entries c.clash_of.result c.in_ok-known.ensures c.clash_of.ensures
    ∙ ap (λ (o : Option UnitPair). option_or o (first_clash c.args.left.now (lib.ListN.drop (c.loop-unit.unit-index + 1) c.args.right.now))) c.in_default.is
