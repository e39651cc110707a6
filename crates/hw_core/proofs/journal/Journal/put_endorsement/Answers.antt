use Rattle.std.proofs.Common.{◌≡◌, ℕ, List, [], ◌∷◌, ◌++◌, length, refl, sym, ap, subst, ◌∙◌, arith}
use Rattle.hw_types.specs.declared.unit.Need.{Need}
use Rattle.hw_types.specs.declared.unit.Need.TheVariants as need
use Rattle.hw_types.specs.declared.unit.Vertex.{Vertex}
use Rattle.hw_types.specs.declared.unit.Vertex.TheVariants as vertex
use Rattle.hw_core.specs.Journal.{AreTold, HasOnePlaceMore}
use Rattle.hw_core.proofs.JournalLaws.{told_put}
use Rattle.hw_core.proofs.journal.Journal.put_endorsement.Goals as goal

pub invariant_of-self-2 : goal.invariant_of-self-2
invariant_of-self-2 c =
    let inside = c.self.inside in
    let v : Vertex = vertex.Endorsement c.args.endorsement in
    let n : Need = need.Endorsed c.args.endorsement.unit in
    let is = c.len-place.ensures in
    let long = c.make_room.new.vertices.ok.0 in
    let same = ap (λ (vs : List Vertex). length vs) c.make_room.ensures.items in
    let last : c.len-place.result ≡ length inside.vertices.items = omega arith in
    let put = subst (λ (place : ℕ). HasOnePlaceMore inside.told.entries c.put_new_place.new.told.entries n place) last c.in_ok-put_new_place.ensures.put in
    subst (λ (vs : List Vertex). AreTold vs c.put_new_place.new.told.entries) (sym (c.push_reserved.ensures.items ∙ ap (λ (e : Vertex). c.make_room.new.vertices.items ++ e ∷ []) c.in-Ok.ensures.held ∙ ap (λ (vs : List Vertex). vs ++ v ∷ []) c.make_room.ensures.items))
    (told_put inside.vertices.items v n inside.told.entries c.put_new_place.new.told.entries refl put c.self.invariant)
