-- What holds of each core, by its journal.
use Rattle.std.proofs.Common.{◌≡◌, ℕ, zero, suc, ◌+◌, ◌<◌, List, [], ◌∷◌, length, take, slice_get, Some, None, sym, ap, subst, ◌∙◌, arith}
use Rattle.std.specs.List.{All}
use Rattle.std.proofs.lemmas.List.Elements.{All-push}
use Rattle.hw_types.specs.declared.unit.Vertex.{Vertex}
use Rattle.hw_types.specs.Real.{CoreState}
use Rattle.hw_types.specs.Spelling.{VertexFits}
use Rattle.hw_codec.specs.Ranges.{VertexInRange}
use Rattle.hw_core.specs.Deliver.{HasCome}
use Rattle.hw_core.proofs.EndLaws.{all_at}
use Rattle.hw_core.proofs.PromiseLaws.{deliveries_are}
use Rattle.hw_core.proofs.UnmetLaws.{take_one}
use Rattle.hw_replay.specs.Ends.{IsReached}

-- what a vertex of a journal keeps
abbrev pub Keeps : Vertex → Type 0
Keeps v = VertexInRange v × VertexFits v

within : (vs : List Vertex) (i : ℕ) (v : Vertex) → slice_get vs i ≡ Some v → i < length vs
within [] i v at = absurd cc
within (w ∷ vs) zero v at = omega arith
within (w ∷ vs) (suc i) v at = let less = within vs i v at in omega arith

-- one more of the journal
pub keeps_more : (journal : List Vertex) (i : ℕ) (v : Vertex) → Some v ≡ slice_get journal i → All Keeps (take i journal) → Keeps v → All Keeps (take (i + 1) journal)
keeps_more journal i v at before this =
    subst (λ (vs : List Vertex). All Keeps vs) (sym (take_one journal i v (sym at) (within journal i v (sym at)))) (All-push Keeps (take i journal) v before this)

-- its vertices are in range
pub all_in_range : (journal : List Vertex) → All Keeps journal → All VertexInRange journal
all_in_range journal keeps = λ k d less. (keeps k d less).0

-- and deliveries reached it, whatever it was asked
pub core_reached : (c : CoreState) → HasCome c.config c.journal → All Keeps c.journal → IsReached c
core_reached c come keeps = record {
  deliveries = come.0;
  made = ap (λ (vs : List Vertex). record { config = c.config; journal = vs; asked = None }) come.1 ∙ sym (deliveries_are c.config come.0).0;
  fit = λ v m. (all_at Keeps c.journal keeps v m).1;
}
