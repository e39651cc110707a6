-- The endorsements of a unit, one by one.
use Rattle.std.proofs.Common.{◌≡◌, inl, inr, ℕ, ◌+◌, List, [], ◌∷◌, ◌++◌, map, take, Some, None, sym, ap, subst, ◌∙◌}
use Rattle.std.specs.Prelude.{slice_get}
use Rattle.std.specs.List.{All}
use Rattle.std.proofs.lemmas.List.{map-append}
use Rattle.std.proofs.lemmas.Option.{slice_get_cases}
use Rattle.hw_types.specs.declared.unit.Endorsement.{Endorsement}
use Rattle.hw_types.specs.declared.unit.Vertex.{Vertex}
use Rattle.hw_types.specs.declared.unit.Vertex.TheVariants as vertex
use Rattle.hw_types.specs.Below.{Among}
use Rattle.hw_types.specs.Spelling.{VertexFits}
use Rattle.hw_types.proofs.EntryLaws.{map_among}
use Rattle.hw_types.proofs.OrderedLaws.{among_all}
use Rattle.hw_core.proofs.DecidedLaws.{take_all}
use Rattle.hw_safety.proofs.FrontLaws.{front_more}

-- nothing stands behind the end
whole : {A : Type 0} (xs : List A) (n : ℕ) → None ≡ slice_get xs n → take n xs ≡ xs
whole xs n e = elim (slice_get_cases xs n).1 [
  | inl x ↦ absurd (let both : None ≡ Some x.0 = e ∙ x.2 in cc)
  | inr past ↦ take_all xs n past.0
]

pub one_more : (es : List Endorsement) (n : ℕ) (e : Endorsement) (old new : List Vertex) → Some e ≡ slice_get es n → old ≡ map vertex.Endorsement (take n es) → new ≡ old ++ vertex.Endorsement e ∷ [] → new ≡ map vertex.Endorsement (take (n + 1) es)
one_more es n e old new at is put =
    put ∙ ap (λ (vs : List Vertex). vs ++ vertex.Endorsement e ∷ []) is ∙ sym (ap (map vertex.Endorsement) (front_more es n e at) ∙ map-append vertex.Endorsement (take n es) (e ∷ []))

pub all_there : (es : List Endorsement) (n : ℕ) (vs : List Vertex) → None ≡ slice_get es n → vs ≡ map vertex.Endorsement (take n es) → vs ≡ map vertex.Endorsement es
all_there es n vs none is = is ∙ ap (map vertex.Endorsement) (whole es n none)

-- endorsements fit their format
pub endorsements_fit : (es : List Endorsement) (vs : List Vertex) → vs ≡ map vertex.Endorsement es → All VertexFits vs
endorsements_fit es vs is = among_all VertexFits vs (λ v m.
    let e = map_among vertex.Endorsement v es (subst (λ (ws : List Vertex). Among v ws) is m) in subst VertexFits e.2 tt)
