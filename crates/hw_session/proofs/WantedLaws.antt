-- What the last vertex of a journal misses, by the last name that the node keeps.
use Rattle.std.proofs.Common.{◌≡◌, ℕ, ◌+◌, List, [], ◌∷◌, ◌++◌, length, take, map, Some, None, Result, Ok, Err, refl, sym, ap, subst, ◌∙◌, arith}
use Rattle.std.specs.Prelude.{◌-◌, ◌≤◌, slice_get, filter_map, IfOk}
use Rattle.std.proofs.lemmas.List.{length-append, length-take, map-append}
use Rattle.std.proofs.lemmas.List.Elements.{filter_map-append}
use Rattle.hw_types.specs.declared.unit.Digest.{Digest}
use Rattle.hw_types.specs.declared.unit.Need.{Need}
use Rattle.hw_types.specs.declared.unit.SignedUnit.{SignedUnit}
use Rattle.hw_types.specs.declared.unit.Vertex.{Vertex}
use Rattle.hw_types.specs.declared.unit.Vertex.TheVariants as vertex
use Rattle.hw_types.specs.Real.{CoreState}
use Rattle.hw_types.specs.Spelling.{digest_of}
use Rattle.hw_core.specs.Readers.{signed_unit, names_of, missing_needs}
use Rattle.hw_session.specs.Serving.{first_missing}
use Rattle.hw_session.proofs.SendLaws.{last_at}

-- what holds of a result's value, said in another way
pub ok_more : {A E : Type 0} {P Q : A → Type 0} (r : Result A E) → ((x : A) → P x → Q x) → IfOk r P → IfOk r Q
ok_more (Ok x) more p = more x p
ok_more (Err e) more p = tt

-- the last vertex, where this one stands at the last place
the_last : (journal before : List Vertex) (v r : Vertex) (count : ℕ) → count ≡ length journal → Some r ≡ slice_get journal (count - 1) → journal ≡ before ++ v ∷ [] → r ≡ v
the_last journal before v r count many at is =
    let size : length journal ≡ length before + 1 = ap (λ (vs : List Vertex). length vs) is ∙ length-append before (v ∷ []) in
    let both : Some r ≡ Some v = at ∙ last_at journal before v (count - 1) is (omega arith) in
    cc

-- the name of the last vertex, a unit, is the last one
last_name : (journal before : List Vertex) (u : SignedUnit) → journal ≡ before ++ vertex.Unit u ∷ [] → slice_get (names_of journal) (length (names_of journal) - 1) ≡ Some (digest_of u.unit)
last_name journal before u is =
    let name = λ (w : SignedUnit). digest_of w.unit in
    let names : names_of journal ≡ names_of before ++ digest_of u.unit ∷ [] =
    ap (λ (vs : List Vertex). names_of vs) is
    ∙ ap (λ (us : List SignedUnit). map name us) (filter_map-append signed_unit before (vertex.Unit u ∷ []))
    ∙ map-append name (filter_map signed_unit before) (u ∷ []) in
    let size : length (names_of journal) ≡ length (names_of before) + 1 = ap (λ (ds : List Digest). length ds) names ∙ length-append (names_of before) (digest_of u.unit ∷ []) in
    last_at (names_of journal) (names_of before) (digest_of u.unit) (length (names_of journal) - 1) names (omega arith)

module _ (core : CoreState) (count : ℕ) (r : Vertex) (names : List Digest)
    (many : count ≡ length core.journal) (at : Some r ≡ slice_get core.journal (count - 1)) (named : names ≡ names_of core.journal)
  where
    name_is : (u : SignedUnit) → r ≡ vertex.Unit u → (v : Vertex) (before : List Vertex) → core.journal ≡ before ++ v ∷ [] → (v ≡ vertex.Unit u) × (slice_get names (length names - 1) ≡ Some (digest_of u.unit))
    name_is u is_unit v before is =
        let same : v ≡ vertex.Unit u = sym (the_last core.journal before v r count many at is) ∙ is_unit in
        let last = last_name core.journal before u (is ∙ ap (λ (w : Vertex). before ++ w ∷ []) same) in
        (same, ap (λ (ds : List Digest). slice_get ds (length ds - 1)) named ∙ last)

    -- by its name
    pub wanted_is : (u : SignedUnit) (name : Digest) (needs : List Need) → r ≡ vertex.Unit u → Some name ≡ slice_get names (length names - 1) → needs ≡ take 256 (missing_needs core name)
        → (v : Vertex) (before : List Vertex) → core.journal ≡ before ++ v ∷ [] → needs ≡ first_missing core v
    wanted_is u name needs is_unit last first v before is =
        let found = name_is u is_unit v before is in
        let both : Some name ≡ Some (digest_of u.unit) = last ∙ found.1 in
        let same : name ≡ digest_of u.unit = cc in
        first ∙ ap (λ (d : Digest). take 256 (missing_needs core d)) same ∙ ap (λ (w : Vertex). first_missing core w) (sym found.0)

    -- a unit has a name
    pub unit_named : (u : SignedUnit) (needs : List Need) → r ≡ vertex.Unit u → None ≡ slice_get names (length names - 1)
        → (v : Vertex) (before : List Vertex) → core.journal ≡ before ++ v ∷ [] → needs ≡ first_missing core v
    unit_named u needs is_unit none v before is =
        let found = name_is u is_unit v before is in
        absurd (let both : None ≡ Some (digest_of u.unit) = none ∙ found.1 in cc)

-- 256 needs at most
pub few_taken : (needs all : List Need) → needs ≡ take 256 all → length needs ≤ 256
few_taken needs all is = let size = ap (λ (ns : List Need). length ns) is ∙ length-take 256 all in omega arith
