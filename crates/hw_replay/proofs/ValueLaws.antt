-- The value of a settled block, by the block's number.
use Rattle.std.proofs.Common.{◌≡◌, ℕ, ◌<◌, [], Option, Some, None, refl, sym, ap, subst, ◌∙◌}
use Rattle.hw_types.specs.declared.unit.Digest.{Digest}
use Rattle.hw_types.specs.declared.unit.SignedUnit.{SignedUnit}
use Rattle.hw_types.specs.Graph.{Node, find_node}
use Rattle.hw_types.proofs.WordsLaws.{find_node_is}
use Rattle.hw_dag.specs.Dag.{UnitGraph, unit_at, count_of, graph}
use Rattle.hw_dag.specs.Admission.{IsGraph, IsNew}
use Rattle.hw_dag.proofs.NodeLaws.{node_found, among_node}
use Rattle.hw_replay.specs.Chain.{value_in, value_bytes}

-- a digest that the graph has
pub known_value : (shown dag : UnitGraph) (n : ℕ) (d : Digest) (u : SignedUnit) → shown ≡ dag → IsGraph dag → n < count_of shown → (unit_at shown n).digest ≡ d → u ≡ (unit_at shown n).signed → value_bytes u.unit.value ≡ value_in (find_node (graph dag) d)
known_value shown dag n d u e g lt name is =
    ap (λ (s : SignedUnit). value_bytes s.unit.value) is ∙ ap value_in (sym (node_found shown (subst IsGraph (sym e) g) n lt) ∙ ap (λ x. find_node (graph shown) x) name) ∙ ap (λ x. value_in (find_node (graph x) d)) e

unknown : (dag : UnitGraph) (d : Digest) → IsNew dag d → (o : Option Node) → find_node (graph dag) d ≡ o → o ≡ None
unknown dag d new None e = refl
unknown dag d new (Some x) e =
    let f = find_node_is (graph dag) x d e in
    let k = among_node dag x f.0 in
    absurd (new k.0 k.1 (ap (λ (y : Node). y.digest) k.2 ∙ f.1))

-- one that it lacks
pub unknown_value : (shown dag : UnitGraph) (d : Digest) → shown ≡ dag → IsNew shown d → [] ≡ value_in (find_node (graph dag) d)
unknown_value shown dag d e new = sym (ap value_in (unknown shown d new (find_node (graph shown) d) refl)) ∙ ap (λ x. value_in (find_node (graph x) d)) e
