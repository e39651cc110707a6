use Rattle.std.proofs.Common.{List, [], ◌∷◌, ◌++◌, refl, sym, ap, subst, ◌∙◌, arith}
use Rattle.hw_types.specs.declared.unit.Evidence.{Evidence}
use Rattle.hw_types.specs.declared.unit.Need.TheVariants as need
use Rattle.hw_types.specs.declared.unit.Vertex.{Vertex}
use Rattle.hw_types.specs.declared.unit.Vertex.TheVariants as vertex
use Rattle.hw_core.specs.Journal.{AreTold}
use Rattle.hw_core.proofs.JournalLaws.{told_same, told_put}
use Rattle.hw_core.proofs.NeedPlaceLaws.{when_err}
use Rattle.hw_core.proofs.UnitTakeLaws.{when_ok}
use Rattle.hw_core.proofs.journal.Journal.put_evidence.Goals as goal

pub push_reserved-requires : goal.push_reserved-requires
push_reserved-requires c =
    let room = when_ok c.tell_next.result (sym c.is_err.ensures.value ∙ c.if-is_err.false) c.tell_next.ensures.room in
    let long = c.tell_next.new.vertices.ok.0 in
    omega arith

pub invariant_of-self : goal.invariant_of-self
invariant_of-self c =
    let inside = c.self.inside in
    subst (λ (vs : List Vertex). AreTold vs c.tell_next.new.told.entries) (sym c.tell_next.ensures.items)
    (told_same inside.vertices.items inside.told.entries c.tell_next.new.told.entries (when_err c.tell_next.result (sym c.is_err.ensures.value ∙ c.if-is_err.true) c.tell_next.ensures.same) c.self.invariant)

pub invariant_of-self-2 : goal.invariant_of-self-2
invariant_of-self-2 c =
    let inside = c.self.inside in
    let v : Vertex = vertex.Evidence c.args.evidence in
    let held = c.in-Ok-other.ensures.held ∙ ap (λ (e : Evidence). vertex.Evidence e) c.in-Ok.ensures in
    subst (λ (vs : List Vertex). AreTold vs c.tell_next.new.told.entries) (sym (c.push_reserved.ensures.items ∙ ap (λ (e : Vertex). c.tell_next.new.vertices.items ++ e ∷ []) held ∙ ap (λ (vs : List Vertex). vs ++ v ∷ []) c.tell_next.ensures.items))
    (told_put inside.vertices.items v (need.Evidence c.args.evidence.left.unit.creator) inside.told.entries c.tell_next.new.told.entries refl
    (when_ok c.tell_next.result (sym c.is_err.ensures.value ∙ c.if-is_err.false) c.tell_next.ensures.put) c.self.invariant)
