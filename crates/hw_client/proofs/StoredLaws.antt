-- A node from what a host stored of it.
use Rattle.std.proofs.Common.{◌≡◌, true, List, [], ◌∷◌, ◌++◌, refl}
use Rattle.std.specs.Prelude.{fold}
use Rattle.hw_types.specs.declared.unit.Vertex.{Vertex}
use Rattle.hw_types.specs.Journal.{Setting, journal_of, journal_after}
use Rattle.hw_honest.specs.Restart.{trusted}

-- one vertex more
folds : (s : Setting) (journal xs : List Vertex) (v : Vertex) → fold (journal_after s) journal (trusted (xs ++ v ∷ [])) ≡ journal_after s (fold (journal_after s) journal (trusted xs)) (v, true)
folds s journal [] v = refl
folds s journal (x ∷ xs) v = folds s (journal_after s journal (x, true)) xs v

pub one_more : (s : Setting) (xs : List Vertex) (v : Vertex) → journal_of s (trusted (xs ++ v ∷ [])) ≡ journal_after s (journal_of s (trusted xs)) (v, true)
one_more s xs v = folds s [] xs v
