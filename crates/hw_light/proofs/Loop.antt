-- Reading vertices one after the other, as a loop does.
use Rattle.std.proofs.Common.{◌≡◌, ℕ, suc, ◌-◌, ◌+◌, ◌≤◌, ◌<◌, List, [], ◌∷◌, ◌++◌, Ok, Err, refl, sym, ap, ◌∙◌, append_assoc, arith}
use Rattle.std.proofs.lemmas.List.{append-nil}
use Rattle.hw_types.specs.declared.unit.Vertex.{Vertex}
use Rattle.hw_types.specs.Reading.{Rest}
use Rattle.hw_light.specs.declared.error.CertError.{CertError}
use Rattle.hw_light.specs.declared.error.CertError.TheVariants as error
use Rattle.hw_light.specs.Reading.{Read, ◌>>=◌, Fails, vertex_at, vertices_at}

-- what was read before, and what is still read
abbrev pub with_front : List Vertex → Read (List Vertex) → Read (List Vertex)
with_front front read = read >>= λ x. Ok (front ++ x.0, x.1)

regroup : (front : List Vertex) (x : Vertex) (read : Read (List Vertex)) → with_front front (read >>= λ y. Ok (x ∷ y.0, y.1)) ≡ with_front (front ++ x ∷ []) read
regroup front x (Ok y) = ap (λ (xs : List Vertex). Ok (xs, y.1)) (simp append_assoc)
regroup front x (Err f) = refl

-- one more vertex is read
pub goes_on : (front : List Vertex) (count i : ℕ) (r : Rest) (x : Vertex) (after : Rest) (total : Read (List Vertex)) → i < count → vertex_at r ≡ Ok (x, after)
    → with_front front (vertices_at (count - i) r) ≡ total → with_front (front ++ x ∷ []) (vertices_at (count - (i + 1)) after) ≡ total
unfolding vertices_at
goes_on front count i r x after total lt h so_far =
    let k : count - i ≡ suc (count - (i + 1)) = omega arith in
    let one : with_front front (vertices_at (count - i) r) ≡ with_front (front ++ x ∷ []) (vertices_at (count - (i + 1)) after) = rw (k, h) (regroup front x (vertices_at (count - (i + 1)) after)) in
    sym one ∙ so_far

stops : (d : CertError) (front : List Vertex) (count i : ℕ) (r : Rest) (total : Read (List Vertex)) → i < count → vertex_at r ≡ Err d
    → with_front front (vertices_at (count - i) r) ≡ total → total ≡ Err d
unfolding vertices_at
stops d front count i r total lt h so_far =
    let k : count - i ≡ suc (count - (i + 1)) = omega arith in
    let one : with_front front (vertices_at (count - i) r) ≡ Err d = rw (k, h) refl in
    sym so_far ∙ one

-- a vertex isn't read, and so the list isn't
pub ends : (e : CertError) (front : List Vertex) (count i : ℕ) (r : Rest) (total : Read (List Vertex)) → i < count → Fails e (vertex_at r)
    → with_front front (vertices_at (count - i) r) ≡ total → Fails e total
ends error.OutOfMemory front count i r total lt h so_far = tt
ends error.BadMagic front count i r total lt h so_far = stops error.BadMagic front count i r total lt h so_far
ends (error.Version v) front count i r total lt h so_far = stops (error.Version v) front count i r total lt h so_far
ends (error.Torn at) front count i r total lt h so_far = stops (error.Torn at) front count i r total lt h so_far
ends (error.TooLong at) front count i r total lt h so_far = stops (error.TooLong at) front count i r total lt h so_far
ends (error.BadConfig e) front count i r total lt h so_far = stops (error.BadConfig e) front count i r total lt h so_far
ends (error.BadVertex at e) front count i r total lt h so_far = stops (error.BadVertex at e) front count i r total lt h so_far
ends (error.Trailing at) front count i r total lt h so_far = stops (error.Trailing at) front count i r total lt h so_far

-- all vertices are read
pub is_done : (front : List Vertex) (count i : ℕ) (r : Rest) (total : Read (List Vertex)) → count ≤ i → with_front front (vertices_at (count - i) r) ≡ total → total ≡ Ok (front, r)
unfolding vertices_at
is_done front count i r total le so_far =
    let k : count - i ≡ 0 = omega arith in
    let one : with_front front (vertices_at (count - i) r) ≡ Ok (front, r) = rw k (ap (λ (xs : List Vertex). Ok (xs, r)) (append-nil front)) in
    sym so_far ∙ one
