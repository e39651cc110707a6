use Rattle.std.proofs.Common.{List, [], ◌∷◌, ◌++◌, refl, sym, ap, subst, ◌∙◌}
use Rattle.hw_types.specs.declared.unit.Vertex.{Vertex}
use Rattle.hw_types.specs.declared.unit.Vertex.TheVariants as vertex
use Rattle.hw_core.specs.Journal.{AreTold}
use Rattle.hw_core.proofs.JournalLaws.{told_unit}
use Rattle.hw_core.proofs.journal.Journal.put_unit.Goals as goal

pub invariant_of-self : goal.invariant_of-self
invariant_of-self c =
    subst (λ (vs : List Vertex). AreTold vs c.self.inside.told.entries) (sym (c.push_reserved.ensures.items ∙ ap (λ (v : Vertex). c.self.inside.vertices.items ++ v ∷ []) c.unit.ensures))
    (told_unit c.self.inside.vertices.items (vertex.Unit c.args.unit) c.self.inside.told.entries refl c.self.invariant)
