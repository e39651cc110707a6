-- The vertices for some units, one after the other.
use Rattle.std.proofs.Common.{◌≡◌, ℕ, zero, suc, ◌+◌, ◌<◌, Bool, true, false, cond, List, [], ◌∷◌, ◌++◌, length, take, get_or, refl, sym, ap, ◌∙◌, arith, append_assoc}
use Rattle.std.specs.Prelude.{filter, All, slice_get, Some}
use Rattle.std.specs.List.{flat_map, range_with_len}
use Rattle.std.proofs.lemmas.List.{append-nil}
use Rattle.std.proofs.lemmas.List.Elements.{filter-append}
use Rattle.hw_types.specs.declared.unit.Digest.{Digest}
use Rattle.hw_types.specs.declared.unit.Vertex.{Vertex}
use Rattle.hw_types.specs.declared.unit.Vertex.TheVariants as vertex
use Rattle.hw_types.specs.Graph.{Node}
use Rattle.hw_types.specs.Spelling.{VertexFits}
use Rattle.hw_dag.specs.declared.numbers.UnitNo.{UnitNo}
use Rattle.hw_dag.specs.Dag.{UnitGraph, node_at}
use Rattle.hw_types.proofs.JournalLaws.{filter_alike}
use Rattle.hw_light.specs.Extract.{is_endorsement_of}
use Rattle.hw_light.specs.Under.{nodes_at}
use Rattle.hw_light.proofs.GatherLaws.{take_more}

flat_append : {A B : Type 0} (f : A → List B) (xs ys : List A) → flat_map f (xs ++ ys) ≡ flat_map f xs ++ flat_map f ys
flat_append f [] ys = refl
flat_append f (x ∷ xs) ys = ap (λ zs. f x ++ zs) (flat_append f xs ys) ∙ sym (append_assoc (f x) (flat_map f xs) (flat_map f ys))

range_more : (a n : ℕ) → range_with_len a (n + 1) ≡ range_with_len a n ++ (a + n) ∷ []
range_more a zero = grind arith
range_more a (suc n) = grind (arith, range_more (a + 1) n)

-- what is put for one number more
pub put_for : (p : ℕ → Bool) (f : ℕ → List Vertex) (n : ℕ) (b : Bool) → p n ≡ b
    → flat_map f (filter p (range_with_len 0 (n + 1))) ≡ flat_map f (filter p (range_with_len 0 n)) ++ cond b (f n) []
put_for p f n b e =
    ap (λ (ns : List ℕ). flat_map f (filter p ns)) (range_more 0 n ∙ ap (λ (k : ℕ). range_with_len 0 n ++ k ∷ []) (omega arith))
    ∙ ap (flat_map f) (filter-append p (range_with_len 0 n) (n ∷ []))
    ∙ flat_append f (filter p (range_with_len 0 n)) (filter p (n ∷ []))
    ∙ ap (λ (ns : List Vertex). flat_map f (filter p (range_with_len 0 n)) ++ ns) (ap (λ (t : Bool). flat_map f (cond t (n ∷ []) [])) e ∙ go b)
  where
    go : (t : Bool) → flat_map f (cond t (n ∷ []) []) ≡ cond t (f n) []
    go true = append-nil (f n)
    go false = refl

-- one more of the journal
pub put_if : (p : Vertex → Bool) (journal : List Vertex) (i : ℕ) (v : Vertex) → Some v ≡ slice_get journal i → i < length journal
    → filter p (take (i + 1) journal) ≡ filter p (take i journal) ++ cond (p v) (v ∷ []) []
put_if p journal i v at lt =
    ap (filter p) (take_more journal i v lt ∙ ap (λ (w : Vertex). take i journal ++ w ∷ []) (at_place journal i v (sym at)))
    ∙ filter-append p (take i journal) (v ∷ [])
  where
    at_place : (xs : List Vertex) (i : ℕ) (x : Vertex) → slice_get xs i ≡ Some x → get_or xs i x ≡ x
    at_place [] i x e = refl
    at_place (y ∷ ys) zero x e = cc
    at_place (y ∷ ys) (suc i) x e = at_place ys i x e

-- one more of the units
pub put_unit : (dag : UnitGraph) (numbers : List UnitNo) (f : Node → List Vertex) (i : ℕ) (d : UnitNo) → i < length numbers
    → flat_map f (nodes_at dag (take (i + 1) numbers)) ≡ flat_map f (nodes_at dag (take i numbers)) ++ f (node_at dag (get_or numbers i d).0)
put_unit dag numbers f i d lt =
    ap (λ (ns : List UnitNo). flat_map f (nodes_at dag ns)) (take_more numbers i d lt)
    ∙ ap (flat_map f) (nodes_append (take i numbers) (get_or numbers i d ∷ []))
    ∙ flat_append f (nodes_at dag (take i numbers)) (node_at dag (get_or numbers i d).0 ∷ [])
    ∙ ap (λ (vs : List Vertex). flat_map f (nodes_at dag (take i numbers)) ++ vs) (append-nil (f (node_at dag (get_or numbers i d).0)))
  where
    nodes_append : (xs ys : List UnitNo) → nodes_at dag (xs ++ ys) ≡ nodes_at dag xs ++ nodes_at dag ys
    nodes_append [] ys = refl
    nodes_append (x ∷ xs) ys = ap (λ (ns : List Node). node_at dag x.0 ∷ ns) (nodes_append xs ys)

-- both parts fit
pub fit_both : (xs ys : List Vertex) → All VertexFits xs → All VertexFits ys → All VertexFits (xs ++ ys)
fit_both [] ys a b = b
fit_both (x ∷ xs) ys a b = λ k d lt. each k d lt (fit_both xs ys (λ j e less. a (suc j) e (omega arith)) b)
  where
    each : (k : ℕ) (d : Vertex) → k < length (x ∷ xs ++ ys) → All VertexFits (xs ++ ys) → VertexFits (get_or (x ∷ xs ++ ys) k d)
    each zero d lt rest = a 0 d (omega arith)
    each (suc k) d lt rest = rest k d (omega arith)

-- what is put behind, and then more
pub put_more : (old first more : List Vertex) (new : List Vertex) (whole : List Vertex) → whole ≡ first ++ more → new ≡ old ++ first ++ more → new ≡ old ++ whole
put_more old first more new whole e is = is ∙ append_assoc old first more ∙ ap (λ (vs : List Vertex). old ++ vs) (sym e)

-- what a loop put so far, and more
pub put_step : (old so_far more whole mid new : List Vertex) → mid ≡ old ++ so_far → new ≡ mid ++ more → whole ≡ so_far ++ more → new ≡ old ++ whole
put_step old so_far more whole mid new e f g = f ∙ ap (λ (vs : List Vertex). vs ++ more) e ∙ append_assoc old so_far more ∙ ap (λ (vs : List Vertex). old ++ vs) (sym g)

-- two tests of digests that agree find the same endorsements
pub same_endorsements : (p q : Digest → Bool) → ((d : Digest) → p d ≡ q d) → (journal : List Vertex) → filter (is_endorsement_of p) journal ≡ filter (is_endorsement_of q) journal
same_endorsements p q same journal = filter_alike (is_endorsement_of p) (is_endorsement_of q) journal each
  where
    each : (v : Vertex) → is_endorsement_of p v ≡ is_endorsement_of q v
    each (vertex.Unit u) = refl
    each (vertex.Evidence e) = refl
    each (vertex.Endorsement e) = same e.unit
