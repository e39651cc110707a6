use Rattle.std.proofs.Common.{Option, [], ◌∷◌, ◌++◌, ap, sym, subst, ◌∙◌}
use Rattle.std.specs.Map.{lookup}
use Rattle.hw_audit.specs.declared.twins.LanePlace.{LanePlace}
use Rattle.hw_audit.specs.Twins.{TwinUnits, AreTwins, AreTwinsAt, place_eq}
use Rattle.hw_audit.proofs.TwinLaws.{twins_new, ok_so}
use Rattle.hw_audit.proofs.twins.twins_with.Goals as goal

pub returns-in-Some : goal.returns-in-Some
returns-in-Some c =
    ok_so c.with.result c.with.ensures (λ f h ys is. h ys
    (subst (λ (o : Option TwinUnits). AreTwinsAt ys o) (sym (c.in-Some.ensures.value ∙ ap (λ (p : LanePlace). lookup (place_eq p) c.args.twins.now.entries) c.place.ensures)) is))

pub returns-in-None : goal.returns-in-None
returns-in-None c ys is =
    subst (λ (r : TwinUnits). AreTwins (ys ++ c.args.unit.now ∷ []) r) (sym c.make_twins.ensures)
    (twins_new ys c.args.unit.now (subst (λ (o : Option TwinUnits). AreTwinsAt ys o) (sym (c.in-None.ensures.value ∙ ap (λ (p : LanePlace). lookup (place_eq p) c.args.twins.now.entries) c.place.ensures)) is))
